-- Texts that order 1 of document 02 takes for the same: one space, one remark or one blank line more. Assumes nothing: these are
-- definitions.
use Rattle.std.specs.Prelude.{◌≡◌, List, ◌∷◌, ◌++◌, Bool, true, false, not, ℕ, eqb, replicate}
use Rattle.lists.specs.Lists.{all}
use Rattle.tokens.specs.Lines.{line_feed, space, semicolon}
use Rattle.tokens.specs.Tokens.{is_word_byte, goes_on}

-- whether no line ends in these bytes
abbrev pub no_line_feed : List ℕ → Bool
no_line_feed r = all (λ b. not (eqb b line_feed)) r

-- the second text is the first with something put in that counts for nothing
pub data Respaced : List ℕ → List ℕ → Type 0 where
  -- "Spaces may now stand freely between brackets, words and numbers and at either end of a line": a space before, and after, anything
  -- but a byte of a word
  space_before : (front behind : List ℕ) → goes_on behind ≡ false → Respaced (front ++ behind) (front ++ space ∷ behind)
  space_after : (front : List ℕ) (b : ℕ) (behind : List ℕ) → is_word_byte b ≡ false → Respaced (front ++ b ∷ behind) (front ++ b ∷ space ∷ behind)
  -- "A semicolon and what follows it, up to the line feed or the text's end, is dropped"
  remark : (front r behind : List ℕ) → no_line_feed r ≡ true → Respaced (front ++ line_feed ∷ behind) (front ++ (semicolon ∷ r ++ line_feed ∷ behind))
  last_remark : (front r : List ℕ) → no_line_feed r ≡ true → Respaced front (front ++ semicolon ∷ r)
  -- "and so is a line .. left with nothing but spaces": of so many spaces, behind another line or as the first
  line_blank : (front : List ℕ) (spaces : ℕ) (behind : List ℕ) → Respaced (front ++ line_feed ∷ behind) (front ++ (line_feed ∷ replicate spaces space ++ line_feed ∷ behind))
  first_line_blank : (spaces : ℕ) (text : List ℕ) → Respaced text (replicate spaces space ++ line_feed ∷ text)
