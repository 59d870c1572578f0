-- What the tokens of a line are, from its first byte to its last, and what their laws cite. That `words` of Tokens.antt gives these tokens
-- of each line of a text, and that a line has no others, is proved in proofs/texts/Tokenised.antt. Assumes nothing: these are definitions.
use Rattle.std.specs.Prelude.{◌≡◌, List, [], ◌∷◌, ◌++◌, reverse, Bool, true, false, cond, ℕ, eqb}
use Rattle.lists.specs.Lists.{all, reject}
use Rattle.tokens.specs.Lines.{line_feed, space, Line}
use Rattle.tokens.specs.Tokens.{Token, is_bracket, is_word_byte, goes_on}

-- the tokens of the bytes of a line without a remark, by what the line begins with
pub data Tokenised : List ℕ → List Token → Type 0 where
  -- a line without a byte has none
  nothing : Tokenised [] []
  -- "Spaces may now stand freely between brackets, words and numbers and at either end of a line": a space is passed over
  space_first : {bs : List ℕ} {ts : List Token} → Tokenised bs ts → Tokenised (space ∷ bs) ts
  -- a bracket is a token by itself
  bracket_first : {b : ℕ} {bs : List ℕ} {ts : List Token} → is_bracket b ≡ true → Tokenised bs ts → Tokenised (b ∷ bs) ((b ∷ []) ∷ ts)
  -- "at least one still parting two words or numbers": a word or number is a run of other bytes, and what stands behind it does not go on
  -- with another one
  word_first : (b : ℕ) (w : List ℕ) {bs : List ℕ} {ts : List Token} → all is_word_byte (b ∷ w) ≡ true → goes_on bs ≡ false → Tokenised bs ts
      → Tokenised (b ∷ w ++ bs) ((b ∷ w) ∷ ts)

-- whether a token is not empty
abbrev pub has_byte : Token → Bool
has_byte [] = false
has_byte (b ∷ bs) = true

-- a word of a line, as long as it can be: bytes of a word, with none before it, which the front read backwards would go on with, and none
-- behind it
pub record LongestRun (line run : List ℕ) : Type 0 where
  pub front : List ℕ
  pub behind : List ℕ
  pub stands : line ≡ front ++ (run ++ behind)
  pub is_word : all is_word_byte run ≡ true
  pub begins : goes_on (reverse front) ≡ false
  pub ends : goes_on behind ≡ false

-- bytes without their spaces
abbrev pub without_spaces : List ℕ → List ℕ
without_spaces bs = reject (λ b. eqb b space) bs

-- the bytes of a line, with the line feed where one ends it
abbrev pub line_bytes : Line → List ℕ
line_bytes l = l.content ++ cond l.terminated (line_feed ∷ []) []
