-- Whether the values still to be laid can bring every bundle to a goal, by two counts that need not look at a partition: what the bundles
-- lack, each value and each lack counted up to a threshold, and how many values the lacks need. Assumes nothing: these are definitions.
use Rattle.std.specs.Prelude.{◌≡◌, Bool, true, cond, List, [], ◌∷◌, ℕ, zero, suc, ◌+◌, ◌-◌, ◌/◌, ◌<◌, min, max, ltb, length, get_or, take, drop}
use Rattle.lists.specs.Lists.{range, any}
use Rattle.lists.specs.Sums.{sum_over, sum_of}
use Rattle.sheet.specs.Limits.{most_items, greatest_sum}

-- what the values can give, each counted up to a threshold
abbrev pub supply : ℕ → List ℕ → ℕ
supply most values = sum_over (λ v. min v most) values

-- the same as it is counted: of as many values as a sheet may have items, and up to one above the greatest sum of a sheet
abbrev pub counted_supply : ℕ → List ℕ → ℕ
counted_supply most values = supply (min most (greatest_sum + 1)) (take most_items values)

-- what the loads of the bundles 1 .. n lack of the goal, each lack counted up to a threshold
abbrev pub demand : (goal : ℕ) (load : ℕ → ℕ) (n most : ℕ) → ℕ
demand goal load n most = sum_of (λ c. min (goal - load c) most) n

-- the greatest of the values, and at least 1
abbrev pub greatest_value : List ℕ → ℕ
greatest_value [] = 1
greatest_value (v ∷ values) = max v (greatest_value values)

-- from place `at` on, the greatest of the values from each on
abbrev pub GreatestFrom : ℕ → List ℕ → List ℕ → Type 0
GreatestFrom at values greatest = (i : ℕ) → i < length values → get_or greatest (at + i) 0 ≡ greatest_value (drop i values)

-- how many values that are no greater than `most` a lack needs at least: the lack divided by `most`, rounded up
abbrev pub needed : ℕ → ℕ → ℕ
needed most zero = 0
needed most (suc lack) = lack / most + 1

-- how many such values the loads of the bundles 1 .. n need to reach the goal
abbrev pub needed_by : (goal : ℕ) (load : ℕ → ℕ) (n most : ℕ) → ℕ
needed_by goal load n most = sum_of (λ c. needed most (goal - load c)) n

module _ (goal : ℕ) (load : ℕ → ℕ) (n : ℕ) (values : List ℕ) where
  -- whether the bundles lack more than the values can give, with the lack of bundle c as the threshold
  abbrev pub is_short_at : ℕ → Bool
  is_short_at c = ltb (counted_supply (goal - load c) values) (demand goal load n (goal - load c))

  -- whether they do at the lack of one of the bundles
  abbrev pub is_short : Bool
  is_short = any is_short_at (range 1 n)

  -- whether the bundles need more values than there are, where none is greater than `most`
  abbrev pub needs_more : ℕ → Bool
  needs_more most = ltb (length values) (needed_by goal load n most)

-- whether the goal is out of reach: above the ceiling, or by one of the two counts
abbrev pub is_out_of_reach : (ceiling goal : ℕ) (load : ℕ → ℕ) (n : ℕ) (values : List ℕ) (most : ℕ) → Bool
is_out_of_reach ceiling goal load n values most = cond (ltb ceiling goal) true (cond (needs_more goal load n values most) true (is_short goal load n values))
