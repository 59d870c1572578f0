-- What the head and the line `(end)` are where they are read, and the place behind them. Assumes nothing.
use mathlib.Core.Path.{◌≡◌, refl, ap}
use mathlib.Core.List.{List}
use mathlib.Core.Bool.{cond}
use Rattle.std.specs.Prelude.{Option, None, Some}
use Prim.Native.Nat.{ℕ}
use Rattle.sheet.specs.declared.Sheet.{Sheet}
use Rattle.tokens.specs.Tokens.{Token}
use Rattle.tokeniser.specs.Places.{tokens_at}
use Rattle.tokeniser.specs.Behind.{place_left}
use Rattle.tokeniser.specs.declared.Cursor.{Cursor}
use Rattle.lexing.specs.Forms.{◌>>=◌, form, follow}
use Rattle.lexing.proofs.readers.Suffixes.{LeavesEnd}
use Rattle.lexing.proofs.readers.Tested.{some-injective}
use Rattle.lexing.proofs.readers.Places.{ReadTo, read-to}
use Rattle.sheet_lines.specs.SheetForms.{last_line}
use Rattle.sheet_lines.specs.Grammar.{head, anything, end_line}
use Rattle.sheet_lines.specs.Results.{head_from}
use Rattle.sheet_lines.proofs.Suffixes.{head-leaves}

module _ (s : List ℕ) (c : Cursor) where
  -- the head is missed, or it is read
  head-none : (o : Option (ℕ × ℕ × List Token)) → None ≡ head_from s c o → o ≡ None
  unfolding head_from
  head-none None told = refl
  head-none (Some q) told = cc

  head-to : (o : Option (ℕ × ℕ × List Token)) {counts : Sheet} {c' : Cursor} → LeavesEnd (λ q. q.2) (tokens_at s c) o → Some (counts, c') ≡ head_from s c o
      → ReadTo s c o (λ ts. (counts.agents, counts.items, ts)) c'
  unfolding head_from
  head-to None last told = absurd (cc)
  head-to (Some (agents, items, ts)) {counts = counts} {c' = c'} last told =
      let read : Sheet = record { agents = agents; items = items } in
      let same = some-injective (counts, c') (read, place_left s c ts) told in
      rw (ap (λ p. p.0) same) (read-to (λ us. (agents, items, us)) last (ap (λ p. p.1) same))

  pub head-missed : None ≡ head_from s c (head (tokens_at s c)) → head (tokens_at s c) ≡ None
  head-missed told = head-none (head (tokens_at s c)) told

  pub head-read : {counts : Sheet} {c' : Cursor} → Some (counts, c') ≡ head_from s c (head (tokens_at s c)) → ReadTo s c (head (tokens_at s c)) (λ ts. (counts.agents, counts.items, ts)) c'
  head-read told = head-to (head (tokens_at s c)) (head-leaves (tokens_at s c)) told

-- the line `(end)`, whatever stands behind it
pub end-anything : (ts : List Token) → end_line anything ts ≡ follow (form last_line) ts
unfolding end_line
end-anything ts = go (follow (form last_line) ts)
  where
    go : (o : Option (List Token)) → (o >>= (λ us. cond (anything us) (Some us) None)) ≡ o
    go None = refl
    go (Some us) = refl
