-- What a caller by C's calling convention is told beside a number: a length in a lent place. Assumes nothing: this is a definition.
use Rattle.std.specs.Prelude.{ℕ}
use Rattle.sheet.specs.Answers.{Answer, after}

-- what the lent place of a length holds afterwards: the old content on a refusal, or the length of the text
abbrev pub length_answered : Answer ℕ → ℕ → ℕ
length_answered = after (λ written old. written)
