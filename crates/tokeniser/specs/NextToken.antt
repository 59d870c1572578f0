-- The next token at a place of a text: where its bytes begin and end, and the place just behind it. Assumes nothing: these are
-- definitions.
use Rattle.std.specs.Prelude.{List, [], ◌∷◌, Bool, false, not, cond, ◌&&◌, ◌||◌, ℕ, suc, ◌+◌, ◌-◌, length, take, drop, eqb}
use Rattle.tokens.specs.Lines.{line_feed, semicolon}
use Rattle.tokens.specs.Tokens.{Token, first}
use Rattle.tokens.specs.TokensAfter.{counts_for_nothing}
use Rattle.tokeniser.specs.Places.{tokens_at, inside}
use Rattle.tokeniser.specs.declared.Cursor.{Cursor}
use Rattle.tokeniser.specs.declared.Token as token

-- the bytes of a part
abbrev pub part : List ℕ → ℕ → ℕ → List ℕ
part s from to = take (to - from) (drop from s)

-- the bytes of a token
abbrev pub bytes_of : List ℕ → token.Token → List ℕ
bytes_of s t = part s t.from t.to

-- whether a byte belongs to a remark, by whether the one before it does: "A semicolon and what follows it, up to the line feed"
abbrev pub in_remark : Bool → ℕ → Bool
in_remark before b = (before || eqb b semicolon) && not (eqb b line_feed)

-- how many bytes count for nothing at the front of a text, on a line that has begun with a token, or not, behind a byte of a remark, or not
unfoldable pub blanks : Bool → Bool → List ℕ → ℕ
blanks begun remark [] = 0
blanks begun remark (b ∷ bs) = cond (in_remark remark b || counts_for_nothing begun b) (suc (blanks begun (in_remark remark b) bs)) 0

-- where the next token begins: behind what counts for nothing, or at the end of the text
abbrev pub token_start : List ℕ → Cursor → ℕ
token_start s c = (inside s c).at + blanks c.begun false (drop (inside s c).at s)

-- whether the line has begun with a token behind this one: a line feed ends it; where no token is left nothing changes
abbrev pub begun_behind : Bool → Token → Bool
begun_behind begun [] = begun
begun_behind begun (b ∷ bs) = not (eqb b line_feed)

-- a token that begins at a place with these bytes, on a line that has begun with a token, or not
abbrev pub token_at : ℕ → Token → Bool → token.Token
token_at from bytes begun = record { from = from; to = from + length bytes; next = record { at = from + length bytes; begun = begun_behind begun bytes } }

-- the next token, which has no byte where none is left
unfoldable pub next_token : List ℕ → Cursor → token.Token
next_token s c = token_at (token_start s c) (first (tokens_at s c)) c.begun
