-- Spaces, remarks and blank lines count for nothing: a text with one more of them reads to what it read to without, refused or accepted,
-- also where another text may stand behind the sheet. Assumes nothing.
use mathlib.Core.Path.{◌≡◌, ap}
use mathlib.Core.Bool.{Bool}
use mathlib.Core.List.{List}
use Prim.Native.Nat.{ℕ, ◌≤◌, ◌<◌}
use native.Mathlib.Omega.{arith}
use lib.ListN.{length}
use borrow.Author.Tests.{le-leb, lt-ltb}
use Rattle.sheet.specs.Limits.{MarkLimits, mark_limits, longest_text}
use Rattle.tokens.specs.Tokens.{Token, tokens}
use Rattle.tokens.specs.Respaced.{Respaced}
use Rattle.tokens.proofs.texts.Respaced.{respaced-tokens, respaced-longer}
use Rattle.lexing.specs.Forms.{ended}
use Rattle.sheet_lines.specs.Grammar.{anything}
use Rattle.reading.specs.Reading.{sheet_at_front, sheet_alone, reading, reading_front}

-- texts of at least one byte and not too many, with the same tokens, read to the same, whatever may follow the sheet
pub same-tokens-read : (limits : MarkLimits) (may_follow : List Token → Bool) (s t : List ℕ) → 0 < length s → 0 < length t → length s ≤ longest_text → length t ≤ longest_text
    → tokens s ≡ tokens t → sheet_at_front limits may_follow s ≡ sheet_at_front limits may_follow t
same-tokens-read limits may_follow s t some_byte some-byte' few few' same =
    rw (le-leb (length s) longest_text few, le-leb (length t) longest_text few', lt-ltb 0 (length s) some_byte, lt-ltb 0 (length t) some-byte', same)

module _ {s t : List ℕ} (r : Respaced s t) (some_byte : 0 < length s) (few : length t ≤ longest_text) where
  respaced-at-front : (may_follow : List Token → Bool) → sheet_at_front mark_limits may_follow s ≡ sheet_at_front mark_limits may_follow t
  respaced-at-front may_follow =
      let longer = respaced-longer r in
      same-tokens-read mark_limits may_follow s t some_byte (omega arith) (omega arith) few (respaced-tokens r)

  -- a text that is a sheet
  pub respaced-read : reading s ≡ reading t
  unfolding reading
  respaced-read = ap sheet_alone (respaced-at-front ended)

  -- a sheet with another text behind it
  pub respaced-front : reading_front s ≡ reading_front t
  unfolding reading_front
  respaced-front = respaced-at-front anything
