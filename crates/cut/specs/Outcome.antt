-- What cutting answers, refusals among it. Assumes nothing: these are definitions.
use Rattle.std.specs.Prelude.{Bool, cond, List, ℕ, leb, length, take}
use Rattle.lists.specs.Lists.{padded, all}
use Rattle.lists.specs.Dictionary.{greatest, first_best}
use Rattle.sheet.specs.Limits.{most_agents, most_items, within}
use Rattle.sheet.specs.Answers.{Answer, refused, accepted, require}
use Rattle.sheet.specs.Sets.{items_of}
use Rattle.sheet.specs.Valuations.{values_of}
use Rattle.growth.specs.Growth.{growth_partitions, growths}
use Rattle.maximin.specs.Share.{least_bundle, maximin_share, maximin_partition}
use Rattle.cut.specs.declared.Figure.TheVariants.{Share, Stopped}
use Rattle.cut.specs.declared.Cutting as cut

-- the maximin share, and the partition (cut) that shows it
pub record Cutting : Type 0 where
  pub share : ℕ
  pub partition : List ℕ

-- the share and the cut of values into n bundles
abbrev pub cutting_of : ℕ → List ℕ → Cutting
cutting_of n values = record { share = maximin_share n values; partition = maximin_partition n values }

-- what a cut with an allowance finds (document 02, order 7): the share and the cut, or "stopped", a least bundle (pile) and its partition;
-- each with the number of growth partitions (growth layouts) that it looked at
pub data Found : Type 0 where
  shared : (share : ℕ) → (partition : List ℕ) → (count : ℕ) → Found
  stopped : (least : ℕ) → (partition : List ℕ) → (count : ℕ) → Found

module _ (n : ℕ) (values : List ℕ) where
  -- "it answers as before, with their number"
  abbrev pub whole_cut : Found
  whole_cut = shared (maximin_share n values) (maximin_partition n values) (growths n (length values))

  -- "the first A" growth partitions, in dictionary order
  abbrev pub looked_at : ℕ → List (List ℕ)
  looked_at allowance = take allowance (growth_partitions n (length values))

  -- "it says stopped and gives the best among the first A, with the count A": of several best the first
  abbrev pub stopped_cut : ℕ → Found
  stopped_cut allowance = stopped (greatest (least_bundle n values) (looked_at allowance)) (first_best (least_bundle n values) (looked_at allowance)) allowance

  -- "If there are at most A, it answers as before ... Otherwise it says stopped"
  unfoldable pub found : ℕ → Found
  found allowance = cond (leb (growths n (length values)) allowance) whole_cut (stopped_cut allowance)

-- whether the set names only pieces of a sheet: no "piece above 12"
abbrev pub names_items : ℕ → Bool
names_items set = all (λ k. leb k most_items) (items_of set)

-- "cutting tries 4 and 5", and then 14
-- 4: "The number .. of piles handed to the cut, lies outside 1 to 6"
-- 5: "the set handed to the cut names a piece above 12"
-- 14: "by the cut when A is 0"
unfoldable pub cutting : (valuation : List ℕ) (set bundles allowance : ℕ) → Answer Found
cutting valuation set bundles allowance =
    require 4 (within most_agents bundles)
    (require 5 (names_items set)
    (require 14 (leb 1 allowance)
    (accepted (found bundles (values_of valuation set) allowance))))

-- the "least pile" that a cut gives (document 02, order 7): the share, or the best least bundle of a cut that was stopped
abbrev pub least_found : Found → ℕ
least_found (shared share partition count) = share
least_found (stopped least partition count) = least

-- the same of an answer, 0 where the cut is refused
abbrev pub least_answered : Answer Found → ℕ
least_answered (refused number) = 0
least_answered (accepted result) = least_found result

-- a partition in twelve places, 0 after its last entry
abbrev pub placed : List ℕ → List ℕ
placed partition = padded most_items 0 partition

-- how the code stores what a cut finds: the share, or the least bundle of a cut that was stopped, with the partition in twelve places and
-- the number of growth partitions looked at
abbrev pub stored : Found → cut.Cutting
stored (shared share partition count) = record { figure = Share share; partition = placed partition; count = count }
stored (stopped least partition count) = record { figure = Stopped least; partition = placed partition; count = count }
