-- The numbers of the code's reasons to turn an input down, and the answer that a result of the code stands for. Assumes nothing: these are
-- definitions.
use Rattle.std.specs.Prelude.{ℕ, Result, Ok, Err}
use Rattle.sheet.specs.Answers.{Answer, refused, accepted}
use Rattle.sheet.specs.declared.refusal.Refusal.{Refusal}
use Rattle.sheet.specs.declared.refusal.Refusal.TheVariants as reason

-- the numbers of document 01, "Reasons to turn a sheet down, in checking order", and of orders 5 and 7 of document 02
abbrev pub number : Refusal → ℕ
number reason.TextTooLong = 1
number reason.TextEmpty = 2
number reason.HeadMalformed = 3
number reason.AgentsOutside = 4
number reason.ItemsOutside = 5
number reason.YardLineMalformed = 6
number reason.EndMalformed = 7
number reason.MarkTooGreat = 8
number reason.SharesNotCovered = 9
number reason.BufferTooShort = 10
number reason.DivisionMalformed = 11
number reason.ItemNotOnce = 12
number reason.StatementFalse = 13
number reason.AllowanceTooSmall = 14

-- "The answer is the number and nothing else", or what the code gives
abbrev pub answer_of : {A : Type 0} → Result A Refusal → Answer A
answer_of (Ok a) = accepted a
answer_of (Err r) = refused (number r)

-- the same where the code gives the number itself
abbrev pub numbered_answer : {A : Type 0} → Result A ℕ → Answer A
numbered_answer (Ok a) = accepted a
numbered_answer (Err n) = refused n
