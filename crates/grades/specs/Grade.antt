-- "The loft's custom, from the whole division; the first that fits", with the even test of document 02, order 2, and the fifth grade of order 5.
-- Assumes nothing: these are definitions.
use Rattle.std.specs.Prelude.{Bool, cond, List, [], map, ℕ, ◌*◌, leb, ℤ}
use Rattle.lists.specs.Lists.{range, nth, all}
use Rattle.lists.specs.Sums.{total}
use Rattle.sheet.specs.Valuations.{value}
use Rattle.sheet.specs.Tables.{valuation_of}
use Rattle.margins.specs.Margins.{none_negative}

-- what agent i's valuation says of agent j's bundle
abbrev pub value_to : (valuations bundles : List (List ℕ)) (i j : ℕ) → ℕ
value_to valuations bundles i j = value (valuation_of valuations i) (nth [] bundles j)

module _ (n : ℕ) (valuations bundles : List (List ℕ)) where
  -- the worth of each agent's own bundle (pile), by its valuation
  abbrev pub own_values : List ℕ
  own_values = map (λ i. value_to valuations bundles i i) (range 1 n)

  -- "no yard counts another's pile as worth more than its own"
  unfoldable pub envy_free : Bool
  envy_free = all (λ i. all (λ j. leb (value_to valuations bundles i j) (value_to valuations bundles i i)) (range 1 n)) (range 1 n)

  -- "a division is even when N times the worth of each pile is at least its yard's total"
  unfoldable pub proportional : Bool
  proportional = all (λ i. leb (total (valuation_of valuations i)) (n * value_to valuations bundles i i)) (range 1 n)

-- "each pile reaches its yard's whole maximin share"
unfoldable pub maximin_fair : (n : ℕ) (valuations : List (List ℕ)) (shares : List ℕ) (bundles : List (List ℕ)) → Bool
maximin_fair n valuations shares bundles = all (λ i. leb (nth 0 shares i) (value_to valuations bundles i i)) (range 1 n)

-- "the first that fits", with the agents' margins: "4 now needs every margin to be zero or more, and 5 is the rest"
unfoldable pub grade : (n : ℕ) (valuations : List (List ℕ)) (shares : List ℕ) (margins : List ℤ) (bundles : List (List ℕ)) → ℕ
grade n valuations shares margins bundles =
    cond (envy_free n valuations bundles) 1
    (cond (proportional n valuations bundles) 2
    (cond (maximin_fair n valuations shares bundles) 3
    (cond (none_negative n margins) 4 5)))
