-- Spaces, remarks and blank lines count for nothing: a text has the same tokens with one more of them. Assumes nothing.
use mathlib.Core.Path.{◌≡◌, sym, ap, ◌∙◌}
use mathlib.Core.List.{List, append-nil}
use mathlib.Core.Bool.{false}
use Prim.Native.Nat.{ℕ, ◌<◌}
use native.Mathlib.Omega.{arith}
use lib.ListN.{length, length-append}
use Rattle.tokens.specs.Tokens.{tokens}
use Rattle.tokens.specs.Respaced.{Respaced, space_before, space_after, remark, last_remark, line_blank, first_line_blank}
use Rattle.tokens.proofs.texts.Bytewise.{tokens_after-fresh}
use Rattle.tokens.proofs.texts.Alike.{Alike, text-alike, space-before-alike, space-after-alike, remark-alike, last-remark-alike, blank-line-same, blank-line-alike}

alike-tokens : {s t : List ℕ} → Alike s t → tokens s ≡ tokens t
alike-tokens {s} {t} a = sym (tokens_after-fresh s) ∙ a.same false ∙ tokens_after-fresh t

pub respaced-tokens : {s t : List ℕ} → Respaced s t → tokens s ≡ tokens t
respaced-tokens (space_before front behind g) = alike-tokens (text-alike front (space-before-alike behind g))
respaced-tokens (space_after front b behind n) = alike-tokens (text-alike front (space-after-alike b behind n))
respaced-tokens (remark front r behind n) = alike-tokens (text-alike front (remark-alike r behind n))
respaced-tokens (last_remark front r n) = ap tokens (sym (append-nil front)) ∙ alike-tokens (text-alike front (last-remark-alike r n))
respaced-tokens (line_blank front spaces behind) = alike-tokens (text-alike front (blank-line-alike spaces behind))
respaced-tokens (first_line_blank spaces text) = sym (tokens_after-fresh text) ∙ sym (blank-line-same spaces text) ∙ tokens_after-fresh _

-- and is longer
pub respaced-longer : {s t : List ℕ} → Respaced s t → length s < length t
respaced-longer (space_before front behind g) = simp length-append (omega arith)
respaced-longer (space_after front b behind n) = simp length-append (omega arith)
respaced-longer (remark front r behind n) = simp length-append (omega arith)
respaced-longer (last_remark front r n) = simp length-append (omega arith)
respaced-longer (line_blank front spaces behind) = simp length-append (omega arith)
respaced-longer (first_line_blank spaces text) = simp length-append (omega arith)
