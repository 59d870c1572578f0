-- What the readers of a division's lines leave is the end of the tokens that they were given. Assumes nothing.
use mathlib.Core.List.{List, suffix_refl}
use Prim.Native.Nat.{ℕ}
use Rattle.sheet.specs.Limits.{count_digits}
use Rattle.tokens.specs.Tokens.{Token}
use Rattle.lexing.specs.Forms.{form, follow}
use Rattle.lexing.specs.Numbers.{follow_number}
use Rattle.lexing.proofs.readers.Suffixes.{LeavesEnd, then-leaves, follow-leaves, follow_number-leaves, in_turn-leaves}
use Rattle.sheet_lines.specs.SheetForms.{before_turn, line_end}
use Rattle.bundle_reading.proofs.Places.{bundle_after-leaves}
use Rattle.division_numbers.proofs.Places.{stated_amounts-leave}
use Rattle.division_reading.specs.DivisionForms.{before_pile, before_cut_pile}
use Rattle.division_reading.specs.Grammar.{bundle_after, bundle_in_turn, stated_amounts, cut_bundles, division_line, division_lines}

pub bundle_in_turn-leaves : (items turn : ℕ) (ts : List Token) → LeavesEnd (λ r. r.1) ts (bundle_in_turn items turn ts)
unfolding bundle_in_turn
bundle_in_turn-leaves items turn ts =
    then-leaves ts (follow_number (form before_turn) count_digits turn ts) _ (λ us. us) (λ r. r.1) (follow_number-leaves (form before_turn) count_digits turn ts)
    (bundle_after-leaves (form before_pile) items)

pub cut_bundles-leave : (agents items : ℕ) (ts : List Token) → LeavesEnd (λ r. r.1) ts (cut_bundles agents items ts)
cut_bundles-leave agents items ts = in_turn-leaves (λ number. bundle_after (form before_cut_pile) items) (λ number. bundle_after-leaves (form before_cut_pile) items) 1 agents ts

pub division_line-leaves : (agents items turn : ℕ) (ts : List Token) → LeavesEnd (λ r. r.1) ts (division_line agents items turn ts)
unfolding division_line
division_line-leaves agents items turn ts =
    then-leaves ts (bundle_in_turn items turn ts) _ (λ r. r.1) (λ r. r.1) (bundle_in_turn-leaves items turn ts)
    (λ b. then-leaves b.1 (stated_amounts b.1) _ (λ r. r.2) (λ r. r.1) (stated_amounts-leave b.1)
    (λ a. then-leaves a.2 (cut_bundles agents items a.2) _ (λ r. r.1) (λ r. r.1) (cut_bundles-leave agents items a.2)
    (λ cut. then-leaves cut.1 (follow (form line_end) cut.1) _ (λ us. us) (λ r. r.1) (follow-leaves (form line_end) cut.1) (λ us. suffix_refl us))))

pub division_lines-leave : (agents items : ℕ) (ts : List Token) → LeavesEnd (λ r. r.1) ts (division_lines agents items ts)
division_lines-leave agents items ts = in_turn-leaves (division_line agents items) (division_line-leaves agents items) 1 agents ts
