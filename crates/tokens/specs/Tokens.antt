-- How a text becomes tokens (document 01, "The sheet", and document 02, order 1): a token is a bracket, a word, which is a run of other
-- bytes without a space that is as long as it can be, or the line feed that ends a line that is not blank. That `words` gives just these
-- tokens of a line is proved in proofs/texts/Tokenised.antt, and what holds of them in proofs/texts/LineTokens.antt: none is empty or
-- holds a space, a bracket stands alone, joined they are the line without its spaces. Assumes nothing: these are definitions.
use Rattle.std.specs.Prelude.{ℕ, Bool, true, false, not, cond, ◌||◌, get_or, eqb}
use mathlib.Core.List.{List, [], ◌∷◌, ◌++◌, flat_map}
use Rattle.tokens.specs.Lines.{line_feed, space, semicolon, Line, lines_without_remarks, without_blank_lines}

-- a token is its bytes
abbrev pub Token : Type 0
Token = List ℕ

-- the brackets ( and )
abbrev pub opening : ℕ
opening = 40

abbrev pub closing : ℕ
closing = 41

abbrev pub is_bracket : ℕ → Bool
is_bracket b = eqb b opening || eqb b closing

-- a byte of a word: any but a space, a bracket, and those that end a line or begin a remark
abbrev pub is_word_byte : ℕ → Bool
is_word_byte b = not (eqb b space || is_bracket b || eqb b line_feed || eqb b semicolon)

-- whether a word goes on with these bytes; at the end of a line it does not
abbrev pub goes_on : List ℕ → Bool
goes_on bs = is_word_byte (get_or bs 0 space)

-- a byte more at the front of the first token
unfoldable pub extended : ℕ → List Token → List Token
extended b [] = (b ∷ []) ∷ []
extended b (t ∷ ts) = (b ∷ t) ∷ ts

-- the tokens of a line's bytes, from the last to the first: a space is none, a bracket is one, and so is the last byte of a word; any
-- other byte stands at the front of the word that goes on behind it. The lines meant have no remark and so no semicolon, and no line feed
-- within them; read from the first byte on, their tokens are those of Tokenised.antt
unfoldable pub words : List ℕ → List Token
words [] = []
words (b ∷ bs) =
    cond (eqb b space) (words bs) (cond (is_bracket b || not (goes_on bs)) ((b ∷ []) ∷ words bs) (extended b (words bs)))

-- the tokens of a line: those of its bytes, and the line feed where one ends it
unfoldable pub line_tokens : Line → List Token
line_tokens l = words l.content ++ cond l.terminated ((line_feed ∷ []) ∷ []) []

-- "Layout is judged after that": the tokens of the lines that are left of a text
unfoldable pub tokens : List ℕ → List Token
tokens s = flat_map line_tokens (without_blank_lines (lines_without_remarks s))

-- the first token, where the end of the text counts as an empty one, and the tokens after it
abbrev pub first : List Token → Token
first [] = []
first (t ∷ ts) = t

abbrev pub rest : List Token → List Token
rest [] = []
rest (t ∷ ts) = ts

-- whether no token is left
abbrev pub ended : List Token → Bool
ended [] = true
ended (t ∷ ts) = false
