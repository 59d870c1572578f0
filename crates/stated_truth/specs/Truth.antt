-- What a division states of a sheet, and when that is true (document 02, order 5). Assumes nothing: these are definitions.
use Rattle.std.specs.Prelude.{◌≡◌, Bool, ◌&&◌, List, [], map, ℕ, ◌≤◌, eqb, leb, length}
use Rattle.lists.specs.Lists.{range, nth, all, count, elem}
use Rattle.lists.specs.Sums.{least_of}
use Rattle.sheet.specs.Limits.{within}
use Rattle.sheet.specs.Valuations.{value}
use Rattle.sheet.specs.Tables.{valuation_of, all_values}
use Rattle.sheet.specs.Contents.{Contents}
use Rattle.sheet.specs.Allocations.{Allocates}
use Rattle.shares.specs.Shares.{share_of}
use Rattle.terms.specs.declared.Terms.{Terms}
use Rattle.grades.specs.Scale.{grade_by_terms}
use Rattle.division_reading.specs.Stated.{StatedLine, Stated}

-- the bundles (piles) of the agents, in turn
abbrev pub bundles_of : Stated → List (List ℕ)
bundles_of d = map (λ l. l.bundle) d.lines

-- a line that is not there states nothing
abbrev pub none_stated : StatedLine
none_stated = record { bundle = []; worth = 0; share = 0; cut = [] }

-- what agent i states
abbrev pub line_of : Stated → ℕ → StatedLine
line_of d i = nth none_stated d.lines i

-- whether the bundles pass a test, those "of the division" and those of each cut
unfoldable pub bundles_and_cuts : (List (List ℕ) → Bool) → Stated → Bool
bundles_and_cuts test d = test (bundles_of d) && all (λ l. test l.cut) d.lines

-- whether there are not "other counts of yards .. or a cut's piles" than n, and no bundle is "naming a piece not on the sheet": each is one of 1 .. m
unfoldable pub of_sheet : ℕ → ℕ → List (List ℕ) → Bool
of_sheet n m bundles = eqb (length bundles) n && all (all (within m)) bundles

-- whether no item of 1 .. m "is in no pile or in two": each is in just one of the bundles
unfoldable pub each_in_one : ℕ → List (List ℕ) → Bool
each_in_one m bundles = all (λ k. eqb (count (elem k) bundles) 1) (range 1 m)

module _ (sheet : Contents) where
  -- the value (worth) of a bundle by agent i's marks
  abbrev pub worth_to : ℕ → List ℕ → ℕ
  worth_to i bundle = value (all_values sheet.items (valuation_of sheet.table i)) bundle

  -- the least bundle of a cut, by agent i's marks: "the smallest worth among all n piles"
  abbrev pub least_of_cut : ℕ → List (List ℕ) → ℕ
  least_of_cut i cut = least_of (λ c. worth_to i (nth [] cut c)) sheet.agents

  -- whether agent i's line states its worth and its share as they are, and a cut "that reaches the share"
  unfoldable pub line_true : ℕ → StatedLine → Bool
  line_true i l = eqb l.worth (worth_to i l.bundle) && eqb l.share (share_of sheet i) && leb (share_of sheet i) (least_of_cut i l.cut)

  module _ (terms : Terms) where
    -- whether there is no "false worth, share, cut or grade", by the terms
    unfoldable pub figures_true : Stated → Bool
    figures_true d = all (λ i. line_true i (line_of d i)) (range 1 sheet.agents) && eqb d.grade (grade_by_terms sheet terms (bundles_of d))

    -- "all it states is true", by the terms
    pub record AllTrue (d : Stated) : Type 0 where
      -- the bundles divide the items among the agents, and so does each cut
      pub divides : Allocates sheet.agents sheet.items (bundles_of d)
      pub cut_divides : (i : ℕ) → 1 ≤ i → i ≤ sheet.agents → Allocates sheet.agents sheet.items (line_of d i).cut
      -- each worth and each share is the agent's, and each cut reaches the share
      pub worth_true : (i : ℕ) → 1 ≤ i → i ≤ sheet.agents → (line_of d i).worth ≡ worth_to i (line_of d i).bundle
      pub share_true : (i : ℕ) → 1 ≤ i → i ≤ sheet.agents → (line_of d i).share ≡ share_of sheet i
      pub cut_reaches : (i : ℕ) → 1 ≤ i → i ≤ sheet.agents → share_of sheet i ≤ least_of_cut i (line_of d i).cut
      -- the grade is that of the bundles
      pub grade_true : d.grade ≡ grade_by_terms sheet terms (bundles_of d)
