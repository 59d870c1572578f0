-- What the readers of a sheet's lines leave is the end of the tokens that they were given. Assumes nothing.
use mathlib.Core.List.{List, suffix_refl}
use mathlib.Core.Bool.{Bool}
use Prim.Native.Nat.{ℕ}
use Rattle.sheet.specs.Limits.{count_digits}
use Rattle.tokens.specs.Tokens.{Token}
use Rattle.lexing.specs.Forms.{form, follow}
use Rattle.lexing.specs.Numbers.{number, number_after, follow_number}
use Rattle.lexing.proofs.readers.Suffixes.{LeavesEnd, then-leaves, follow-leaves, number-leaves, number_after-leaves, follow_number-leaves, in_turn-leaves, test-leaves}
use Rattle.sheet_lines.specs.SheetForms.{before_agents, before_items, before_turn, before_marks, line_end, last_line}
use Rattle.sheet_lines.specs.Grammar.{head, marks, yard_turn, yard_line, yard_lines, body, end_line}

pub head-leaves : (ts : List Token) → LeavesEnd (λ r. r.2) ts (head ts)
unfolding head
head-leaves ts =
    then-leaves ts (number_after (form before_agents) count_digits ts) _ (λ r. r.1) (λ r. r.2) (number_after-leaves (form before_agents) count_digits ts)
    (λ agents. then-leaves agents.1 (number_after (form before_items) count_digits agents.1) _ (λ r. r.1) (λ r. r.2) (number_after-leaves (form before_items) count_digits agents.1)
    (λ items. then-leaves items.1 (follow (form line_end) items.1) _ (λ us. us) (λ r. r.2) (follow-leaves (form line_end) items.1) (λ us. suffix_refl us)))

pub marks-leave : (digits items : ℕ) (ts : List Token) → LeavesEnd (λ r. r.1) ts (marks digits items ts)
marks-leave digits items ts = in_turn-leaves (λ piece. number digits) (λ piece. number-leaves digits) 1 items ts

pub yard_turn-leaves : (turn : ℕ) (ts : List Token) → LeavesEnd (λ us. us) ts (yard_turn turn ts)
unfolding yard_turn
yard_turn-leaves turn ts =
    then-leaves ts (follow_number (form before_turn) count_digits turn ts) _ (λ us. us) (λ us. us) (follow_number-leaves (form before_turn) count_digits turn ts) (follow-leaves (form before_marks))

pub yard_line-leaves : (digits items turn : ℕ) (ts : List Token) → LeavesEnd (λ r. r.1) ts (yard_line digits items turn ts)
unfolding yard_line
yard_line-leaves digits items turn ts =
    then-leaves ts (yard_turn turn ts) _ (λ us. us) (λ r. r.1) (yard_turn-leaves turn ts)
    (λ us. then-leaves us (marks digits items us) _ (λ r. r.1) (λ r. r.1) (marks-leave digits items us)
    (λ row. then-leaves row.1 (follow (form line_end) row.1) _ (λ vs. vs) (λ r. r.1) (follow-leaves (form line_end) row.1) (λ vs. suffix_refl vs)))

pub body-leaves : (digits agents items : ℕ) (ts : List Token) → LeavesEnd (λ r. r.1) ts (body digits agents items ts)
unfolding body
body-leaves digits agents items ts =
    then-leaves ts (yard_lines digits agents items ts) _ (λ r. r.1) (λ r. r.1) (in_turn-leaves (yard_line digits items) (yard_line-leaves digits items) 1 agents ts) (λ r. suffix_refl r.1)

pub end_line-leaves : (may_follow : List Token → Bool) (ts : List Token) → LeavesEnd (λ us. us) ts (end_line may_follow ts)
unfolding end_line
end_line-leaves may_follow ts = then-leaves ts (follow (form last_line) ts) _ (λ us. us) (λ us. us) (follow-leaves (form last_line) ts) (λ us. test-leaves (may_follow us) us)
