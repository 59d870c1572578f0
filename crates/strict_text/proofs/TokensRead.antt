-- The tokens of a sheet's lines are read to what they were made of, for each reader of the grammar. Assumes nothing.
use mathlib.Core.Path.{◌≡◌, refl}
use mathlib.Core.List.{List, [], ◌∷◌, ◌++◌, map, append_assoc}
use Rattle.std.specs.Prelude.{Some}
use mathlib.Core.Bool.{true, and-eq-true_iff}
use Prim.Native.Nat.{ℕ, ◌+◌, ◌^◌, ◌<◌, ◌≤◌}
use native.Mathlib.Omega.{arith}
use lib.ListN.{length}
use borrow.Author.Tests.{leb-true}
use Rattle.text.specs.Decimal.{decimal}
use Rattle.tokens.specs.Tokens.{Token}
use Rattle.lists.specs.Lists.{all}
use Rattle.lists.proofs.members.Each.{AllOfLength}
use Rattle.lexing.specs.Forms.{form, in_turn}
use Rattle.lexing.specs.Numbers.{number}
use Rattle.sheet_lines.specs.SheetForms.{before_agents, before_items, before_turn, before_marks, line_end}
use Rattle.sheet_lines.specs.Grammar.{head, yard_turn, yard_line, Body, body}
use Rattle.sheet.specs.Limits.{greatest_mark, count_digits, mark_digits}
use Rattle.sheet_lines.specs.Marks.{allowed, allowed_row}
use Rattle.strict_text.proofs.SheetTokens.{head_tokens, turn_tokens, yard_tokens, tokens_in_turn, yards_tokens, body_tokens}
use Rattle.lexing.proofs.readers.ReadBack.{follow-append, number-decimal, number_after-decimal, follow_number-decimal}

pub head-head_tokens : (agents items : ℕ) (ts : List Token) → agents < 10 ^ count_digits → items < 10 ^ count_digits
    → head (head_tokens agents items ++ ts) ≡ Some (agents, items, ts)
unfolding head head_tokens
head-head_tokens agents items ts h l = simp append_assoc (rw (number_after-decimal count_digits agents (omega arith) h (form before_agents), number_after-decimal count_digits items (omega arith) l (form before_items), follow-append (form line_end) ts))

marks-decimals : (turn : ℕ) (row : List ℕ) (ts : List Token) → allowed_row greatest_mark row ≡ true
    → in_turn (λ piece. number mark_digits) turn (length row) (map decimal row ++ ts) ≡ Some (row, ts)
unfolding in_turn
marks-decimals turn [] ts f = refl
marks-decimals turn (m ∷ ms) ts f =
    let both = (and-eq-true_iff (allowed greatest_mark m) (allowed_row greatest_mark ms)).0 f in
    let small = leb-true m greatest_mark both.0 in
    rw (number-decimal mark_digits m (omega arith) (omega arith) (map decimal ms ++ ts), marks-decimals (turn + 1) ms ts both.1)

yard_turn-turn_tokens : (turn : ℕ) (ts : List Token) → turn < 10 ^ count_digits → yard_turn turn (turn_tokens turn ++ ts) ≡ Some ts
unfolding yard_turn turn_tokens
yard_turn-turn_tokens turn ts h = simp append_assoc (rw (follow_number-decimal count_digits turn (omega arith) h (form before_turn), follow-append (form before_marks) ts))

yard_line-yard_tokens : (turn : ℕ) (row : List ℕ) (ts : List Token) → turn < 10 ^ count_digits → allowed_row greatest_mark row ≡ true
    → yard_line mark_digits (length row) turn (yard_tokens turn row ++ ts) ≡ Some (row, ts)
unfolding yard_line yard_tokens
yard_line-yard_tokens turn row ts h f = simp append_assoc (rw (yard_turn-turn_tokens turn _ h, marks-decimals 1 row _ f, follow-append (form line_end) ts))

yard_lines-yards_tokens : (turn items : ℕ) (rows : List (List ℕ)) (ts : List Token) → turn + length rows ≤ 10 ^ count_digits → AllOfLength items rows
    → all (allowed_row greatest_mark) rows ≡ true → in_turn (yard_line mark_digits items) turn (length rows) (yards_tokens turn rows ++ ts) ≡ Some (rows, ts)
unfolding in_turn tokens_in_turn
yard_lines-yards_tokens turn items [] ts h l f = refl
yard_lines-yards_tokens turn items (row ∷ rows) ts h l f =
    let both = (and-eq-true_iff (allowed_row greatest_mark row) (all (allowed_row greatest_mark) rows)).0 f in
    let this = rw l.0 at (yard_line-yard_tokens turn row (yards_tokens (turn + 1) rows ++ ts) (omega arith) both.0) in
    simp append_assoc (rw (this, yard_lines-yards_tokens (turn + 1) items rows ts (omega arith) l.1 both.1))

-- the lines of a sheet with these counts
pub body-body_tokens : (agents items : ℕ) (lines : Body) (ts : List Token) → agents < 10 ^ count_digits → length lines.rows ≡ agents → AllOfLength items lines.rows
    → all (allowed_row greatest_mark) lines.rows ≡ true → body mark_digits agents items (body_tokens lines ++ ts) ≡ Some (lines, ts)
unfolding body body_tokens
body-body_tokens agents items lines ts few n l f =
    rw (rw n at (yard_lines-yards_tokens 1 items lines.rows ts (omega (arith, n)) l f))
