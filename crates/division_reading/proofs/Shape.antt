-- What a division that is read has: a line for each agent and a bundle of its cut for each agent, bundles that rise and name items of the
-- sheet only, and figures in so many digits. Assumes nothing.
use mathlib.Core.Path.{◌≡◌}
use mathlib.Core.List.{List, Memᴰ as Mem}
use Rattle.std.specs.Prelude.{Option, Some}
use Prim.Native.Nat.{ℕ, ◌^◌, ◌<◌}
use lib.ListN.{length}
use Rattle.lists.proofs.members.Each.{Each, each-mem}
use Rattle.sheet.specs.Limits.{count_digits, sum_digits}
use Rattle.tokens.specs.Tokens.{Token}
use Rattle.lexing.specs.Forms.{ended, form, follow}
use Rattle.lexing.specs.Numbers.{number_after, follow_number}
use Rattle.lexing.proofs.readers.InTurn.{Holds, then-holds, read-holds, holds-both, in-turn-length, in-turn-each}
use Rattle.lexing.proofs.readers.Bounds.{number_after-below}
use Rattle.sheet_lines.specs.SheetForms.{before_items, line_end}
use Rattle.sheet_lines.specs.Grammar.{end_line}
use Rattle.division_reading.specs.DivisionForms.{before_counts, before_grade, before_worth, before_share, before_cut, before_cut_pile}
use Rattle.division_reading.specs.Stated.{StatedLine, Stated}
use Rattle.division_reading.specs.Shape.{IsBundle, WellFormed, FewDigits}
use Rattle.division_reading.specs.Grammar.{grade_digits, bundle_after, bundle_in_turn, stated_amounts, cut_bundles, division_line, division_lines, division_head, division_text}
use Rattle.division_reading.proofs.Bundles.{bundle-read, bundle-in-turn-read}

-- a worth and a share have at most eleven digits
amounts-below : (ts : List Token) → Holds (λ r. (r.0 < 10 ^ sum_digits) × (r.1 < 10 ^ sum_digits)) (stated_amounts ts)
unfolding stated_amounts
amounts-below ts =
    then-holds _ (λ r. r.0 < 10 ^ sum_digits) (number_after (form before_worth) sum_digits ts) _ (number_after-below (form before_worth) sum_digits ts)
    (λ w worth. then-holds _ (λ r. r.0 < 10 ^ sum_digits) (number_after (form before_share) sum_digits w.1) _ (number_after-below (form before_share) sum_digits w.1)
    (λ x share. read-holds _ (follow (form before_cut) x.1) _ (λ ts₁. (worth, share))))

cut-read : (agents items : ℕ) (ts : List Token) → Holds (λ r. (length r.0 ≡ agents) × Each (IsBundle items) r.0) (cut_bundles agents items ts)
cut-read agents items ts =
    let reader : ℕ → List Token → Option (List ℕ × List Token) = λ number. bundle_after (form before_cut_pile) items in
    holds-both _ _ (cut_bundles agents items ts) (in-turn-length reader 1 agents ts) (in-turn-each reader (IsBundle items) (λ turn. bundle-read (form before_cut_pile) items) 1 agents ts)

-- a yard line that is read, of so many agents and items
record LineRead (agents items : ℕ) (l : StatedLine) : Type 0 where
  bundle : IsBundle items l.bundle
  worth_below : l.worth < 10 ^ sum_digits
  share_below : l.share < 10 ^ sum_digits
  cut_each : length l.cut ≡ agents
  cut_of_bundles : Each (IsBundle items) l.cut

line_read : (agents items turn : ℕ) (ts : List Token) → Holds (λ r. LineRead agents items r.0) (division_line agents items turn ts)
unfolding division_line
line_read agents items turn ts =
    then-holds _ (λ r. IsBundle items r.0) (bundle_in_turn items turn ts) _ (bundle-in-turn-read items turn ts)
    (λ b is-bundle. then-holds _ (λ r. (r.0 < 10 ^ sum_digits) × (r.1 < 10 ^ sum_digits)) (stated_amounts b.1) _ (amounts-below b.1)
    (λ a below. then-holds _ (λ r. (length r.0 ≡ agents) × Each (IsBundle items) r.0) (cut_bundles agents items a.2) _ (cut-read agents items a.2)
    (λ c cut. read-holds _ (follow (form line_end) c.1) _
    (λ ts₁. record { bundle = is-bundle; worth_below = below.0; share_below = below.1; cut_each = cut.0; cut_of_bundles = cut.1 }))))

lines-read : (agents items : ℕ) (ts : List Token) → Holds (λ r. (length r.0 ≡ agents) × Each (LineRead agents items) r.0) (division_lines agents items ts)
lines-read agents items ts =
    let reader = division_line agents items in
    holds-both _ _ (division_lines agents items ts) (in-turn-length reader 1 agents ts) (in-turn-each reader (LineRead agents items) (line_read agents items) 1 agents ts)

-- a grade has one digit
pub grade_below : (agents items : ℕ) (ts : List Token) → Holds (λ r. r.0 < 10 ^ grade_digits) (division_head agents items ts)
unfolding division_head
grade_below agents items ts =
    read-holds _ (follow_number (form before_counts) count_digits agents ts) _ (λ ts₁.
    read-holds _ (follow_number (form before_items) count_digits items ts₁) _ (λ ts₂.
    then-holds _ (λ r. r.0 < 10 ^ grade_digits) (number_after (form before_grade) grade_digits ts₂) _ (number_after-below (form before_grade) grade_digits ts₂)
    (λ g below. read-holds _ (follow (form line_end) g.1) _ (λ ts₃. below))))

module _ (agents items : ℕ) (lines : List StatedLine) (each : Each (LineRead agents items) lines) where
  line_of : {l : StatedLine} → Mem l lines → LineRead agents items l
  line_of ml = each-mem (LineRead agents items) lines each ml

  well-formed : (grade : ℕ) → length lines ≡ agents → WellFormed agents items (record { grade = grade; lines = lines })
  well-formed grade line_each =
      record {
        line_each = line_each;
        bundle = λ l ml. (line_of ml).bundle;
        cut_each = λ l ml. (line_of ml).cut_each;
        cut_bundle = λ l ml b mb. each-mem (IsBundle items) l.cut (line_of ml).cut_of_bundles mb;
      }

  few-digits : (grade : ℕ) → grade < 10 ^ grade_digits → FewDigits (record { grade = grade; lines = lines })
  few-digits grade below = record { grade_below = below; worth_below = λ l ml. (line_of ml).worth_below; share_below = λ l ml. (line_of ml).share_below }

division-holds : (agents items : ℕ) (ts : List Token) → Holds (λ d. WellFormed agents items d × FewDigits d) (division_text agents items ts)
unfolding division_text
division-holds agents items ts =
    then-holds _ (λ r. r.0 < 10 ^ grade_digits) (division_head agents items ts) _ (grade_below agents items ts)
    (λ g below. then-holds _ (λ r. (length r.0 ≡ agents) × Each (LineRead agents items) r.0) (division_lines agents items g.1) _ (lines-read agents items g.1)
    (λ r shape. read-holds _ (end_line ended r.1) _ (λ ts₃. (well-formed agents items r.0 shape.1 g.0 shape.0, few-digits agents items r.0 shape.1 g.0 below))))

module _ (agents items : ℕ) (ts : List Token) (d : Stated) (read : division_text agents items ts ≡ Some d) where
  pub division-shape : WellFormed agents items d
  division-shape = (rw read at (division-holds agents items ts)).0

  pub division-digits : FewDigits d
  division-digits = (rw read at (division-holds agents items ts)).1
