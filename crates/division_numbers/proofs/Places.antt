-- What is left behind the numbers of a division is the end of the tokens, and where it is left. Assumes nothing.
use mathlib.Core.Path.{◌≡◌, refl, sym, ap}
use mathlib.Core.List.{List, suffix_refl}
use Rattle.std.specs.Prelude.{Option, None, Some}
use Rattle.std.proofs.lemmas.Option.{same_Some}
use Prim.Native.Nat.{ℕ}
use Rattle.sheet.specs.Limits.{count_digits, sum_digits}
use Rattle.tokens.specs.Tokens.{Token}
use Rattle.tokeniser.specs.Places.{tokens_at}
use Rattle.tokeniser.specs.Behind.{place_left}
use Rattle.tokeniser.specs.declared.Cursor.{Cursor}
use Rattle.lexing.specs.Forms.{form, follow}
use Rattle.lexing.specs.Numbers.{number_after, follow_number}
use Rattle.lexing.specs.Results.{number_from}
use Rattle.lexing.proofs.readers.Suffixes.{LeavesEnd, then-leaves, follow-leaves, number_after-leaves, follow_number-leaves}
use Rattle.lexing.proofs.readers.Places.{ReadTo, read-to, number-to}
use Rattle.sheet_lines.specs.SheetForms.{before_items, line_end}
use Rattle.division_numbers.specs.Forms.{before_counts, before_grade, before_worth, before_share, before_cut}
use Rattle.division_numbers.specs.Numbers.{grade_digits, stated_amounts, division_head}
use Rattle.division_numbers.specs.Results.{amounts_from}

pub stated_amounts-leave : (ts : List Token) → LeavesEnd (λ r. r.2) ts (stated_amounts ts)
unfolding stated_amounts
stated_amounts-leave ts =
    then-leaves ts (number_after (form before_worth) sum_digits ts) _ (λ r. r.1) (λ r. r.2) (number_after-leaves (form before_worth) sum_digits ts)
    (λ w. then-leaves w.1 (number_after (form before_share) sum_digits w.1) _ (λ r. r.1) (λ r. r.2) (number_after-leaves (form before_share) sum_digits w.1)
    (λ h. then-leaves h.1 (follow (form before_cut) h.1) _ (λ us. us) (λ r. r.2) (follow-leaves (form before_cut) h.1) (λ us. suffix_refl us)))

division_head-leaves : (agents items : ℕ) (ts : List Token) → LeavesEnd (λ r. r.1) ts (division_head agents items ts)
unfolding division_head
division_head-leaves agents items ts =
    then-leaves ts (follow_number (form before_counts) count_digits agents ts) _ (λ us. us) (λ r. r.1) (follow_number-leaves (form before_counts) count_digits agents ts)
    (λ us. then-leaves us (follow_number (form before_items) count_digits items us) _ (λ vs. vs) (λ r. r.1) (follow_number-leaves (form before_items) count_digits items us)
    (λ vs. then-leaves vs (number_after (form before_grade) grade_digits vs) _ (λ r. r.1) (λ r. r.1) (number_after-leaves (form before_grade) grade_digits vs)
    (λ g. then-leaves g.1 (follow (form line_end) g.1) _ (λ us. us) (λ r. r.1) (follow-leaves (form line_end) g.1) (λ us. suffix_refl us))))

module _ (s : List ℕ) (c : Cursor) where
  -- a worth and a share are missed, or they are read
  pub stated_amounts-missed : (o : Option (ℕ × ℕ × List Token)) → None ≡ amounts_from s c o → o ≡ None
  unfolding amounts_from
  stated_amounts-missed None told = refl
  stated_amounts-missed (Some q) told = cc

  pub none-stated : {o : Option (ℕ × ℕ × List Token)} → o ≡ None → None ≡ amounts_from s c o
  unfolding amounts_from
  none-stated e = rw e

  stated_amounts-to : (o : Option (ℕ × ℕ × List Token)) {worth share : ℕ} {c' : Cursor} → LeavesEnd (λ q. q.2) (tokens_at s c) o → Some (worth, share, c') ≡ amounts_from s c o
      → ReadTo s c o (λ ts. (worth, share, ts)) c'
  unfolding amounts_from
  stated_amounts-to None last told = absurd (cc)
  stated_amounts-to (Some (w, h, ts)) {worth = worth} {share = share} {c' = c'} last told =
      let same = same_Some (worth, share, c') (w, h, place_left s c ts) told in
      let same-worth : w ≡ worth = sym (ap (λ r. r.0) same) in
      let same-share : h ≡ share = sym (ap (λ r. r.1) same) in
      rw (same-worth, same-share) (read-to (λ us. (worth, share, us)) last (ap (λ r. r.2) same))

  pub stated_amounts-read : {worth share : ℕ} {c' : Cursor} → Some (worth, share, c') ≡ amounts_from s c (stated_amounts (tokens_at s c))
      → ReadTo s c (stated_amounts (tokens_at s c)) (λ ts. (worth, share, ts)) c'
  stated_amounts-read told = stated_amounts-to (stated_amounts (tokens_at s c)) (stated_amounts-leave (tokens_at s c)) told

  -- the head, where it is read
  pub division_head-read : (agents items : ℕ) {grade : ℕ} {c' : Cursor} → Some (grade, c') ≡ number_from s c (division_head agents items (tokens_at s c))
      → ReadTo s c (division_head agents items (tokens_at s c)) (λ ts. (grade, ts)) c'
  division_head-read agents items told = number-to s c (division_head agents items (tokens_at s c)) (division_head-leaves agents items (tokens_at s c)) told
