-- Document 02, order 5: all that a division of the box states is true, and its margins are those by the table. Assumes nothing.
use mathlib.Core.Path.{◌≡◌, refl, sym, ap, subst, ◌∙◌}
use mathlib.Core.List.Memᴰ
use mathlib.Core.List.{List, [], map-map, Memᴰ as Mem}
use mathlib.Core.List.{Sublistᴰ as Sublist}
use Prim.Native.Nat.{ℕ}
use native.Mathlib.Omega.{arith}
use lib.ListN.{length, length-map}
use Rattle.lists.specs.Lists.{range, nth}
use Rattle.lists.proofs.ranges.Ranges.{in-range, length-range, nth-map-range, map-nth-range}
use Rattle.sheet.specs.Limits.{CountsWithin}
use Rattle.sheet.specs.Answers.{accepted}
use Rattle.sheet.specs.Contents.{Contents}
use Rattle.sheet.specs.Valuations.{item_value}
use Rattle.sheet.specs.Tables.{valuation_of, all_values}
use Rattle.sheet.specs.Allocations.{Allocates}
use Rattle.sheet.proofs.valuing.Tables.{value-all_values}
use Rattle.maximin.specs.Share.{maximin_partition}
use Rattle.maximin.proofs.Laws.{maximin_partition-within, least_bundle-maximin_partition}
use Rattle.shares.specs.Shares.{share_of}
use Rattle.shares.proofs.Profile.{nth-shares, nth-cuts}
use Rattle.terms.specs.Terms.{terms_of}
use Rattle.grades.specs.Scale.{margins_by_terms, grade_by_terms}
use Rattle.bundling.specs.Bundles.{all_bundles}
use Rattle.rounds.specs.Division.{Division, division_of, division_by_rounds, answer}
use Rattle.bundling.proofs.Allocating.{all_bundles-sublist, all_bundles-allocate}
use Rattle.rounds.proofs.Answers.{answer-accepted}
use Rattle.rounds.proofs.Graded.{division_allocates}
use Rattle.printing.proofs.printed.Printable.{division_by_rounds-printable}
use Rattle.printing.proofs.printed.Worths.{worth-by-own-marks}
use Rattle.division_reading.specs.Stated.{Stated}
use Rattle.division_reading.specs.Shape.{WellFormed}
use Rattle.division_reading.proofs.Bundles.{sublist-bundle}
use Rattle.stated_truth.specs.Truth.{bundles_of, none_stated, line_of, worth_to, least_of_cut, AllTrue}
use Rattle.own_divisions.specs.StatedBy.{stated_line_by, stated_by}
use Rattle.own_divisions.proofs.CutBundles.{least_of-all_bundles}

module _ (sheet : Contents) where
  abbrev n : ℕ
  n = sheet.agents

  abbrev m : ℕ
  m = sheet.items

  abbrev table : List (List ℕ)
  table = sheet.table

  -- the values that agent i puts on the items
  abbrev values_to : ℕ → List ℕ
  values_to i = all_values m (valuation_of table i)

  -- the box's division of the sheet
  module _ (allowance : ℕ) (d : Division) (divided : answer sheet allowance ≡ accepted d) where
    within : CountsWithin n m
    within = (answer-accepted sheet allowance d divided).1

    by_rounds : d ≡ division_by_rounds sheet
    by_rounds = (answer-accepted sheet allowance d divided).0

    abbrev stated : Stated
    stated = stated_by sheet d

    -- what the division has for each agent, and its grade and margins
    bundle-sublist : {i : ℕ} → Mem i (range 1 n) → Sublist (nth [] d.bundles i) (range 1 m)
    bundle-sublist {i} in_use = rw by_rounds ((division_by_rounds-printable sheet within.some).of_items i in_use)

    share-own : {i : ℕ} → Mem i (range 1 n) → nth 0 d.shares i ≡ share_of sheet i
    unfolding division_of
    share-own in_use = rw by_rounds (nth-shares n m table in_use)

    cut-own : {i : ℕ} → Mem i (range 1 n) → nth [] d.cuts i ≡ maximin_partition n (values_to i)
    unfolding division_of
    cut-own in_use = rw by_rounds (nth-cuts n m table in_use)

    margins-own : d.margins ≡ margins_by_terms sheet (terms_of sheet) d.bundles
    unfolding division_of
    margins-own = rw by_rounds refl

    grade-own : d.grade ≡ grade_by_terms sheet (terms_of sheet) d.bundles
    unfolding division_of
    grade-own = rw by_rounds refl

    -- it states its bundles
    bundles-stated : bundles_of stated ≡ d.bundles
    bundles-stated =
        map-map (λ l. l.bundle) (stated_line_by sheet d) (range 1 n)
        ∙ map-nth-range [] d.bundles n (division_allocates sheet allowance d divided).bundle_each

    -- and in line i what it has for agent i
    line-stated : {i : ℕ} → Mem i (range 1 n) → line_of stated i ≡ stated_line_by sheet d i
    line-stated in_use = nth-map-range (stated_line_by sheet d) none_stated n in_use

    -- the cut of a line is a partition of the items that reaches the share
    module _ {i : ℕ} (in_use : Mem i (range 1 n)) where
      cut-stated : (line_of stated i).cut ≡ all_bundles n m (maximin_partition n (values_to i))
      cut-stated = ap (λ l. l.cut) (line-stated in_use) ∙ ap (all_bundles n m) (cut-own in_use)

      cut-allocates : Allocates n m (line_of stated i).cut
      cut-allocates =
          let (each, places) = maximin_partition-within n (values_to i) within.some in
          rw cut-stated (all_bundles-allocate n m (maximin_partition n (values_to i)) each (places ∙ length-map (range 1 m) (item_value (valuation_of table i)) ∙ length-range 1 m))

      cut-least : least_of_cut sheet i (line_of stated i).cut ≡ share_of sheet i
      cut-least =
          ap (least_of_cut sheet i) cut-stated
          ∙ least_of-all_bundles m (valuation_of table i) n (maximin_partition n (values_to i))
          ∙ least_bundle-maximin_partition n (values_to i) within.some

      worth-stated : (line_of stated i).worth ≡ worth_to sheet i (line_of stated i).bundle
      worth-stated = rw (line-stated in_use) (worth-by-own-marks sheet in_use allowance d divided ∙ sym (value-all_values m (valuation_of table i) (bundle-sublist in_use)))

      share-stated : (line_of stated i).share ≡ share_of sheet i
      share-stated = ap (λ l. l.share) (line-stated in_use) ∙ share-own in_use

    -- "all it states is true"
    pub own-division-true : AllTrue sheet (terms_of sheet) (stated_by sheet d)
    own-division-true =
        record {
          divides = rw bundles-stated (division_allocates sheet allowance d divided);
          cut_divides = λ i lo hi. cut-allocates (in-range 1 n i lo (omega arith));
          worth_true = λ i lo hi. worth-stated (in-range 1 n i lo (omega arith));
          share_true = λ i lo hi. share-stated (in-range 1 n i lo (omega arith));
          cut_reaches = λ i lo hi. omega (arith, cut-least (in-range 1 n i lo (omega arith)));
          grade_true = rw bundles-stated grade-own;
        }

    -- and it has the shape of what is read
    pub own-division-shape : WellFormed n m (stated_by sheet d)
    own-division-shape =
        record {
          line_each = length-map (range 1 n) (stated_line_by sheet d) ∙ length-range 1 n;
          bundle = λ l ml. let (i, mi, e) = Memᴰ.of_map (stated_line_by sheet d) (range 1 n) ml in rw (← e) (sublist-bundle m (bundle-sublist mi));
          cut_each = λ l ml. let (i, mi, e) = Memᴰ.of_map (stated_line_by sheet d) (range 1 n) ml in ap (λ l. length l.cut) (sym e) ∙ length-map (range 1 n) _ ∙ length-range 1 n;
          cut_bundle = λ l ml b mb.
              let (i, mi, e) = Memᴰ.of_map (stated_line_by sheet d) (range 1 n) ml in
              sublist-bundle m (all_bundles-sublist n m (nth [] d.cuts i) b (subst (λ l. Mem b l.cut) (sym e) mb));
        }

    -- "its margin" is by the table, for each agent
    pub own-division-margins : margins_by_terms sheet (terms_of sheet) (bundles_of (stated_by sheet d)) ≡ d.margins
    own-division-margins = ap (margins_by_terms sheet (terms_of sheet)) bundles-stated ∙ sym margins-own
