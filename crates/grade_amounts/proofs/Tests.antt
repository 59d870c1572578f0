-- The three tests of the grade by amounts compared agent by agent. Assumes nothing.
use mathlib.Core.Path.{◌≡◌, refl, sym, ◌∙◌}
use mathlib.Core.List.{List, Memᴰ as Mem}
use Prim.Native.Nat.{ℕ}
use Rattle.lists.specs.Lists.{range, nth}
use Rattle.lists.proofs.sums.GreatestOf.{leb-greatest_of}
use Rattle.lists.proofs.places.Places.{nth-padded-range}
use Rattle.lists.proofs.members.Tests.{all-cong}
use Rattle.sheet.specs.Limits.{most_agents}
use Rattle.sheet.specs.Amounts.{each_at_most}
use Rattle.sheet.proofs.amounts.Comparing.{each_at_most-all}
use Rattle.grades.specs.Grade.{value_to, envy_free, proportional, maximin_fair}
use Rattle.grade_amounts.specs.Compared.{own_value, greatest_bundle_value, multiple_of_own, total_value, compared}

module _ (n : ℕ) (valuations bundles : List (List ℕ)) where
  own_read : (i : ℕ) → Mem i (range 1 n) → nth 0 (compared n valuations bundles).own i ≡ own_value n valuations bundles i
  unfolding compared
  own_read i m = nth-padded-range most_agents 0 0 (own_value n valuations bundles) n m

  greatest-read : (i : ℕ) → Mem i (range 1 n) → nth 0 (compared n valuations bundles).greatest i ≡ greatest_bundle_value n valuations bundles i
  unfolding compared
  greatest-read i m = nth-padded-range most_agents 0 0 (greatest_bundle_value n valuations bundles) n m

  multiples-read : (i : ℕ) → Mem i (range 1 n) → nth 0 (compared n valuations bundles).multiples i ≡ multiple_of_own n valuations bundles i
  unfolding compared
  multiples-read i m = nth-padded-range most_agents 0 0 (multiple_of_own n valuations bundles) n m

  totals-read : (i : ℕ) → Mem i (range 1 n) → nth 0 (compared n valuations bundles).totals i ≡ total_value n valuations bundles i
  unfolding compared
  totals-read i m = nth-padded-range most_agents 0 0 (total_value n valuations bundles) n m

  -- no envy: the greatest value that an agent sees is at most that of its own bundle
  pub envy_free-compared : envy_free n valuations bundles ≡ each_at_most (compared n valuations bundles).greatest (compared n valuations bundles).own n
  unfolding envy_free
  envy_free-compared =
      let c = compared n valuations bundles in
      sym (each_at_most-all c.greatest c.own (greatest_bundle_value n valuations bundles) (own_value n valuations bundles) n greatest-read own_read
      ∙ all-cong _ _ (range 1 n) (λ i m. leb-greatest_of (value_to valuations bundles i) n (own_value n valuations bundles i)))

  -- even: its total is at most the number of agents times that
  pub proportional-compared : proportional n valuations bundles ≡ each_at_most (compared n valuations bundles).totals (compared n valuations bundles).multiples n
  unfolding proportional
  proportional-compared =
      let c = compared n valuations bundles in
      sym (each_at_most-all c.totals c.multiples (total_value n valuations bundles) (multiple_of_own n valuations bundles) n totals-read multiples-read)

  -- the whole share: its share is at most that
  pub maximin_fair-compared : (shares : List ℕ) → maximin_fair n valuations shares bundles ≡ each_at_most shares (compared n valuations bundles).own n
  unfolding maximin_fair
  maximin_fair-compared shares = sym (each_at_most-all shares (compared n valuations bundles).own (nth 0 shares) (own_value n valuations bundles) n (λ i m. refl) own_read)
