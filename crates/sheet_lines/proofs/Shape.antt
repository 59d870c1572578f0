-- How many marks a yard line has, and how many lines there are. Assumes nothing.
use mathlib.Core.Path.{◌≡◌}
use mathlib.Core.List.{List}
use Rattle.std.specs.Prelude.{Some}
use Prim.Native.Nat.{ℕ}
use lib.ListN.{length}
use Rattle.lists.proofs.members.Each.{AllOfLength}
use Rattle.tokens.specs.Tokens.{Token}
use Rattle.lexing.specs.Forms.{form, follow}
use Rattle.lexing.specs.Numbers.{number}
use Rattle.lexing.proofs.readers.InTurn.{Holds, then-holds, read-holds, holds-both, in-turn-length, in-turn-each}
use Rattle.sheet_lines.specs.SheetForms.{line_end}
use Rattle.sheet_lines.specs.Grammar.{marks, yard_turn, yard_line, yard_lines, Body, body}

module _ (digits : ℕ) where
  yard-line-length : (items turn : ℕ) (ts : List Token) → Holds (λ r. length r.0 ≡ items) (yard_line digits items turn ts)
  unfolding yard_line
  yard-line-length items turn ts =
      read-holds _ (yard_turn turn ts) _ (λ ts₁.
      then-holds _ (λ r. length r.0 ≡ items) (marks digits items ts₁) _ (in-turn-length (λ piece. number digits) 1 items ts₁)
      (λ r e. read-holds _ (follow (form line_end) r.1) _ (λ ts₂. e)))

  yard-lines-shape : (agents items : ℕ) (ts : List Token) → Holds (λ r. (length r.0 ≡ agents) × AllOfLength items r.0) (yard_lines digits agents items ts)
  yard-lines-shape agents items ts =
      let line = yard_line digits items in
      holds-both _ _ (yard_lines digits agents items ts) (in-turn-length line 1 agents ts) (in-turn-each line (λ row. length row ≡ items) (yard-line-length items) 1 agents ts)

  -- as many lines as there are yards, and in each as many marks as there are pieces
  body-shape : (agents items : ℕ) (ts : List Token) → Holds (λ r. (length r.0.rows ≡ agents) × AllOfLength items r.0.rows) (body digits agents items ts)
  unfolding body
  body-shape agents items ts =
      then-holds _ (λ r. (length r.0 ≡ agents) × AllOfLength items r.0) (yard_lines digits agents items ts) _ (yard-lines-shape agents items ts) (λ r shape. shape)

  pub lines-shape : (agents items : ℕ) (ts : List Token) (lines : Body) (last : List Token) → body digits agents items ts ≡ Some (lines, last)
      → (length lines.rows ≡ agents) × AllOfLength items lines.rows
  lines-shape agents items ts lines last e = rw e at (body-shape agents items ts)
