-- What an allowance does to a cut (document 02, order 7): where it is enough the cut is the share and the cut, and a greater one never
-- gives a smaller least bundle. Assumes nothing.
use mathlib.Core.Path.{◌≡◌, refl, sym, ap, ◌∙◌}
use mathlib.Core.Bool.{Bool, true, false}
use mathlib.Core.Logic.{⊎_elim}
use mathlib.Core.List.{List}
use Prim.Native.Nat.{ℕ, ◌≤◌, ◌<◌, ◌^◌}
use native.Mathlib.Omega.{arith}
use lib.ListN.{length}
use lib.Seq.{take_all}
use borrow.Author.Tests.{le-leb, lt-leb}
use Rattle.lists.specs.Dictionary.{greatest, first_best}
use Rattle.lists.proofs.Cases.{lt-or-ge}
use Rattle.lists.proofs.dictionary.First.{greatest-take}
use Rattle.sheet.specs.Limits.{most_agents, most_items, within}
use Rattle.sheet.specs.Answers.{Answer, accepted, require}
use Rattle.sheet.specs.Valuations.{values_of}
use Rattle.sheet.proofs.Limits.{within-bounds}
use Rattle.sheet.proofs.sets.Ranges.{names-only-below}
use Rattle.growth.specs.Growth.{growth_partitions, growths}
use Rattle.growth.proofs.Growths.{growths-positive}
use Rattle.maximin.specs.Share.{least_bundle, maximin_share, maximin_partition}
use Rattle.cut.specs.Outcome.{Found, whole_cut, looked_at, stopped_cut, found, names_items, cutting, least_found, least_answered}
use Rattle.walking.proofs.growth.Share as growth

module _ (n : ℕ) (values : List ℕ) where
  -- the best over the growth partitions is the maximin share
  pub greatest-growth : 1 ≤ n → greatest (least_bundle n values) (growth_partitions n (length values)) ≡ maximin_share n values
  greatest-growth = growth.greatest-growth n values

  -- the first growth partition that reaches it is the cut
  pub first_best-growth : 1 ≤ n → first_best (least_bundle n values) (growth_partitions n (length values)) ≡ maximin_partition n values
  first_best-growth = growth.first_best-growth n values

  module _ (allowance : ℕ) where
    pub found-whole : growths n (length values) ≤ allowance → found n values allowance ≡ whole_cut n values
    unfolding found
    found-whole enough = rw (le-leb (growths n (length values)) allowance enough)

    pub found-stopped : allowance < growths n (length values) → found n values allowance ≡ stopped_cut n values allowance
    unfolding found
    found-stopped short = rw (lt-leb (growths n (length values)) allowance short)

    -- an allowance that is enough looks at all growth partitions
    looked-at-all : growths n (length values) ≤ allowance → looked_at n values allowance ≡ growth_partitions n (length values)
    unfolding growths
    looked-at-all enough = take_all allowance (growth_partitions n (length values)) enough

    module _ (some : 1 ≤ n) (enough : growths n (length values) ≤ allowance) where
      -- and finds the share
      pub greatest-looked-at : greatest (least_bundle n values) (looked_at n values allowance) ≡ maximin_share n values
      greatest-looked-at = ap (greatest (least_bundle n values)) (looked-at-all enough) ∙ greatest-growth some

      -- and the cut
      pub first_best-looked-at : first_best (least_bundle n values) (looked_at n values allowance) ≡ maximin_partition n values
      first_best-looked-at = ap (first_best (least_bundle n values)) (looked-at-all enough) ∙ first_best-growth some

-- the least bundle that is found, stopped or not, is the best of the growth partitions that the allowance reaches
least_found-greatest : (n : ℕ) (values : List ℕ) (allowance : ℕ) → 1 ≤ n
    → least_found (found n values allowance) ≡ greatest (least_bundle n values) (looked_at n values allowance)
least_found-greatest n values allowance some =
    ⊎_elim
    (λ short. ap least_found (found-stopped n values allowance short))
    (λ enough. ap least_found (found-whole n values allowance enough) ∙ sym (greatest-looked-at n values allowance some enough))
    (lt-or-ge allowance (growths n (length values)))

-- within the limits the cut answers what it finds
pub cutting-within : (valuation : List ℕ) (set n allowance : ℕ) → 1 ≤ n → n ≤ most_agents → set < 2 ^ most_items → 1 ≤ allowance
    → cutting valuation set n allowance ≡ accepted (found n (values_of valuation set) allowance)
unfolding cutting
cutting-within valuation set n allowance some few small positive =
    rw (le-leb 1 n some, le-leb n most_agents few, names-only-below set most_items (omega arith) small, le-leb 1 allowance positive)

-- "If there are at most A, it answers as before, with their number": then it is neither refused nor stopped
pub cutting-shared : (valuation : List ℕ) (set n allowance : ℕ) → 1 ≤ n → n ≤ most_agents → set < 2 ^ most_items
    → growths n (length (values_of valuation set)) ≤ allowance → cutting valuation set n allowance ≡ accepted (whole_cut n (values_of valuation set))
cutting-shared valuation set n allowance some few small enough =
    cutting-within valuation set n allowance some few small (omega (arith, growths-positive n (length (values_of valuation set)) some))
    ∙ ap accepted (found-whole n (values_of valuation set) allowance enough)

-- a test that the allowance has no part in
least_answered-require : (number : ℕ) (test : Bool) (x y : Answer Found) → (test ≡ true → least_answered x ≤ least_answered y)
    → least_answered (require number test x) ≤ least_answered (require number test y)
least_answered-require number true x y le = le refl
least_answered-require number false x y le = omega arith

-- "A greater allowance never gives a smaller least pile": for every row, set and number of bundles, stopped, refused or not
pub greater-allowance : (valuation : List ℕ) (set n a b : ℕ) → a ≤ b → least_answered (cutting valuation set n a) ≤ least_answered (cutting valuation set n b)
unfolding cutting
greater-allowance valuation set n a b le =
    least_answered-require 4 (within most_agents n) _ _ (λ inside.
    least_answered-require 5 (names_items set) _ _ (λ _.
    ⊎_elim
    (λ (none : a < 1). rw (lt-leb 1 a none) (omega arith))
    (λ (some : 1 ≤ a).
    let values = values_of valuation set in
    let more : 1 ≤ b = omega arith in
    let bundles : 1 ≤ n = (within-bounds most_agents n inside).0 in
    rw (le-leb 1 a some, le-leb 1 b more)
    (omega (
      arith,
      least_found-greatest n values a bundles,
      least_found-greatest n values b bundles,
      greatest-take (least_bundle n values) a b (growth_partitions n (length values)) le,
    )))
    (lt-or-ge a 1)))
