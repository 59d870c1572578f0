-- How far a remark or a token at the front of a text goes. Assumes nothing: these are definitions.
use Rattle.std.specs.Prelude.{List, [], ◌∷◌, not, cond, ℕ, suc, eqb}
use Rattle.std.specs.List.{prefix_len}
use Rattle.tokens.specs.Lines.{line_feed}
use Rattle.tokens.specs.Tokens.{is_word_byte}
use Rattle.tokens.specs.TokensAfter.{is_delimiter}

-- how many bytes of a remark stand at the front of a text: those before its first line feed
abbrev pub remark_bytes : List ℕ → ℕ
remark_bytes s = prefix_len (λ b. not (eqb b line_feed)) s

-- how many bytes of a word stand at the front of a text
abbrev pub word_bytes : List ℕ → ℕ
word_bytes s = prefix_len is_word_byte s

-- how many bytes the token at the front of a text has: one, or those of a word
abbrev pub token_bytes : List ℕ → ℕ
token_bytes [] = 0
token_bytes (b ∷ bs) = suc (cond (is_delimiter b) 0 (word_bytes bs))
