-- A sheet with another text behind it: an accepted text that ends in a line feed, and so a strict text, is read to the same sheet with any
-- text behind it, whose tokens are left. Assumes nothing.
use mathlib.Core.Path.{◌≡◌, refl, sym, ap, ◌∙◌}
use mathlib.Core.List.{List, [], ◌∷◌, ◌++◌, append_assoc, append-nil}
use Prim.Native.Nat.{ℕ, ◌≤◌, ◌<◌}
use native.Mathlib.Omega.{arith}
use lib.ListN.{length}
use Rattle.text.specs.Bytes.{bytes}
use Rattle.sheet.specs.Limits.{longest_text}
use Rattle.sheet.specs.Answers.{accepted}
use Rattle.sheet.specs.Contents.{Contents}
use Rattle.tokens.specs.Lines.{line_feed}
use Rattle.tokens.specs.Tokens.{tokens}
use Rattle.tokens.proofs.texts.BehindLine.{tokens-behind-line}
use Rattle.reading.specs.Reading.{reading, reading_front}
use Rattle.reading.proofs.AtFront.{passes-front}
use Rattle.strict_text.specs.StrictText.{head_text, body_text, sheet_text, lines_of, strict_text}
use Rattle.strict_text.specs.WithinLimits.{WithinLimits}
use Rattle.strict_text.proofs.SheetLexed.{tokens-sheet_text}
use Rattle.strict_text.proofs.RoundTrip.{sheet_tokens-accepted, strict_text-read, accepted-tokens, reading-within_limits}

nonempty : (s t : List ℕ) → 0 < length (s ++ line_feed ∷ t)
nonempty [] t = omega arith
nonempty (b ∷ s) t = omega arith

-- an accepted text that ends in a line feed
pub accepted-at-front : (c : Contents) (s t : List ℕ) → reading (s ++ line_feed ∷ []) ≡ accepted c → length (s ++ line_feed ∷ t) ≤ longest_text
    → reading_front (s ++ line_feed ∷ t) ≡ accepted (c, tokens t)
unfolding strict_text
accepted-at-front c s t e few =
    let strict = accepted-tokens c (s ++ line_feed ∷ []) e ∙ tokens-sheet_text c.agents c.items (lines_of c) in
    let same = tokens-behind-line s t ∙ ap (λ ts. ts ++ tokens t) strict in
    passes-front (s ++ line_feed ∷ t) c (tokens t)
    (sheet_tokens-accepted c (reading-within_limits c (s ++ line_feed ∷ []) e) (s ++ line_feed ∷ t) (tokens t) (nonempty s t) few same)

-- a strict text up to its last byte, a line feed
abbrev unended : Contents → List ℕ
unended c = head_text c.agents c.items ++ body_text (lines_of c) ++ bytes "(end)"

strict_text-ended : (c : Contents) (t : List ℕ) → strict_text c ++ t ≡ unended c ++ line_feed ∷ t
unfolding strict_text sheet_text
strict_text-ended c t = simp append_assoc (refl)

-- a strict text
pub strict_text-at-front : (c : Contents) → WithinLimits c → (t : List ℕ) → length (strict_text c ++ t) ≤ longest_text → reading_front (strict_text c ++ t) ≡ accepted (c, tokens t)
strict_text-at-front c w t few =
    let whole = strict_text-ended c t in
    let alone = sym (append-nil (strict_text c)) ∙ strict_text-ended c [] in
    ap reading_front whole ∙ accepted-at-front c (unended c) t (ap reading (sym alone) ∙ strict_text-read c w) (rw whole at few)
