-- No accepted text is refused for a buffer of `longest_accepted` bytes: its worths and shares have at most eleven digits, so its margins fit 64
-- bits. Assumes nothing.
use mathlib.Core.Path.{◌≡◌, sym, ap, ap₂, ◌∙◌}
use mathlib.Core.List.{List, [], Memᴰ as Mem}
use Prim.Native.Nat.{ℕ, ◌^◌, ◌*◌, ◌-◌, ◌≤◌, ◌<◌}
use native.Mathlib.Nat.{mul-le-mul}
use native.Mathlib.Omega.{arith}
use lib.IntN.{ℤ}
use lib.ListN.{length, length-map, get_or-map}
use borrow.Author.Tests.{le-leb}
use Rattle.lists.specs.Lists.{range, nth}
use Rattle.lists.proofs.ranges.Ranges.{range-bounds, nth-mem, nth-map-range}
use Rattle.sheet.specs.Limits.{sum_digits}
use Rattle.sheet.specs.Valuations.{value}
use Rattle.sheet.specs.Tables.{valuation_of}
use Rattle.sheet.specs.Contents.{Contents, valuations_of}
use Rattle.sheet.specs.Answers.{accepted, and_then}
use Rattle.sheet.proofs.valuing.Tables.{valuation_of-profile}
use Rattle.shares.specs.Shares.{shares_of}
use Rattle.shares.proofs.Profile.{nth-shares}
use Rattle.writing.specs.Filled.{filling}
use Rattle.terms.specs.Terms.{terms_of}
use Rattle.terms.specs.Allowed.{SmallTerms}
use Rattle.terms.specs.declared.Terms.{Terms}
use Rattle.margins.specs.Margins.{margin}
use Rattle.terms.proofs.Allowed.{terms_for-small}
use Rattle.margins.proofs.Signs.{difference-small}
use Rattle.grades.specs.Grade.{own_values}
use Rattle.division_reading.specs.Stated.{Stated}
use Rattle.division_reading.specs.Shape.{FewDigits}
use Rattle.division_reading.proofs.Shape.{division-digits}
use Rattle.stated_truth.specs.Truth.{bundles_of, none_stated, line_of, AllTrue}
use Rattle.sheet_to_judgement.specs.AcceptedText.{accepted_text, longest_accepted}
use Rattle.sheet_to_judgement.specs.TextJudged.{text_judged, judgement_from}
use Rattle.sheet_to_judgement.proofs.Answers.{margin_at}
use Rattle.sheet_to_judgement.proofs.Front.{reading_front-counts}
use Rattle.sheet_to_judgement.proofs.Texts.{Small, length-accepted_text}
use Rattle.sheet_to_judgement.proofs.Theorems.{accepted-exactly-if-true}

-- the margin of a worth and a share of at most eleven digits
margin-fits : (terms : Terms) (worth share : ℕ) → SmallTerms terms → worth < 10 ^ sum_digits → share < 10 ^ sum_digits → Small (margin terms worth share)
unfolding margin
margin-fits terms worth share small small-worth small-share =
    let worth-most : worth ≤ 10 ^ sum_digits = omega arith in
    let share-most : share ≤ 10 ^ sum_digits = omega arith in
    difference-small (terms.bottom * worth) (terms.top * share) (2 ^ 63)
    (omega (arith, mul-le-mul small.small_bottom worth-most))
    (omega (arith, mul-le-mul small.small_top share-most))

module _ (sheet : Contents) (terms : Terms) (small : SmallTerms terms) (d : Stated) (digits : FewDigits d) (t : AllTrue sheet terms d) where
  module _ {i : ℕ} (in_use : Mem i (range 1 sheet.agents)) where
    line-mem : Mem (line_of d i) d.lines
    line-mem = nth-mem none_stated d.lines sheet.agents (sym (length-map d.lines (λ l. l.bundle)) ∙ t.divides.bundle_each) in_use

    worth-is : nth 0 (own_values sheet.agents (valuations_of sheet) (bundles_of d)) i ≡ (line_of d i).worth
    worth-is =
        let b = range-bounds 1 sheet.agents in_use in
        nth-map-range (λ k. value (valuation_of (valuations_of sheet) k) (nth [] (bundles_of d) k)) 0 sheet.agents in_use
        ∙ ap₂ value (valuation_of-profile sheet.agents sheet.items sheet.table in_use) (get_or-map (λ l. l.bundle) d.lines (i - 1) none_stated)
        ∙ sym (t.worth_true i b.0 (omega arith))

    share-is : nth 0 (shares_of sheet) i ≡ (line_of d i).share
    share-is = let b = range-bounds 1 sheet.agents in_use in nth-shares sheet.agents sheet.items sheet.table in_use ∙ sym (t.share_true i b.0 (omega arith))

  margins-small : (i : ℕ) → Mem i (range 1 sheet.agents) → Small (margin_at sheet terms (bundles_of d) i)
  margins-small i in_use =
      rw (worth-is in_use, share-is in_use) (margin-fits terms (line_of d i).worth (line_of d i).share small (digits.worth_below (line_of d i) (line-mem in_use)) (digits.share_below (line_of d i) (line-mem in_use)))

module _ (text : List ℕ) (margins : List ℤ) (judged : text_judged text ≡ accepted margins) where
  text-short : length (accepted_text margins) ≤ longest_accepted
  text-short =
      let told = (accepted-exactly-if-true text margins).0 judged in
      let sheet = told.sheet in
      let s = told.states in
      let digits = division-digits sheet.agents sheet.items s.behind told.division s.division_read in
      let few = (reading_front-counts text sheet s.behind s.sheet_read).few in
      rw told.margins_given
      (length-accepted_text sheet.agents (margin_at sheet (terms_of sheet) (bundles_of told.division)) few
      (margins-small sheet (terms_of sheet) (terms_for-small sheet.agents few) told.division digits told.all_true))

  -- an accepted text gets its margins printed, in a buffer of `longest_accepted` bytes or more
  pub accepted-judged : (room : ℕ) → longest_accepted ≤ room → judgement_from text room ≡ accepted (accepted_text margins)
  unfolding judgement_from
  accepted-judged room enough =
      ap (λ a. and_then a (λ ms. filling room (accepted_text ms))) judged ∙ rw (le-leb (length (accepted_text margins)) room (omega (arith, text-short)))
