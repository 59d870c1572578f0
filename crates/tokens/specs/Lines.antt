-- The lines of a text, and what is left of them without remarks and blank lines (document 02, order 1). Assumes nothing: these are
-- definitions.
use Rattle.std.specs.Prelude.{ℕ, List, [], ◌∷◌, map, Bool, true, false, cond, eqb}
use Rattle.lists.specs.Lists.{all, reject}

-- "one line feed (byte 10)"
abbrev pub line_feed : ℕ
line_feed = 10

abbrev pub space : ℕ
space = 32

abbrev pub semicolon : ℕ
semicolon = 59

-- a line: its bytes, and whether a line feed ends it; the end of the text may end the last one
pub record Line : Type 0 where
  pub content : List ℕ
  pub terminated : Bool

-- a byte before the lines of what follows it: it stands on the first of them
unfoldable pub on_first : ℕ → List Line → List Line
on_first b [] = record { content = b ∷ []; terminated = false } ∷ []
on_first b (l ∷ ls) = record { content = b ∷ l.content; terminated = l.terminated } ∷ ls

-- the lines of a text
unfoldable pub lines : List ℕ → List Line
lines [] = []
lines (b ∷ bs) = cond (eqb b line_feed) (record { content = []; terminated = true } ∷ lines bs) (on_first b (lines bs))

-- "A semicolon and what follows it, up to the line feed or the text's end, is dropped"
unfoldable pub before_remark : List ℕ → List ℕ
before_remark [] = []
before_remark (b ∷ bs) = cond (eqb b semicolon) [] (b ∷ before_remark bs)

abbrev pub without_remark : Line → Line
without_remark l = record { content = before_remark l.content; terminated = l.terminated }

-- the lines of a text without their remarks
abbrev pub lines_without_remarks : List ℕ → List Line
lines_without_remarks s = map without_remark (lines s)

-- "a line, ended or not, left with nothing but spaces"
abbrev pub is_blank : Line → Bool
is_blank l = all (λ b. eqb b space) l.content

-- "and so is a line .. left with nothing but spaces": what is left of lines
abbrev pub without_blank_lines : List Line → List Line
without_blank_lines ls = reject is_blank ls
