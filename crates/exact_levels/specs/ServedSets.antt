-- Sets of items from which the first agents can be served, each with its share. Assumes nothing: these are definitions.
use Rattle.std.specs.Prelude.{◌↔◌, List, [], ℕ, zero, suc, ◌-◌, ◌≤◌, get_or}
use Rattle.sheet.specs.Sets.{items_of}
use Rattle.sheet.specs.Valuations.{value}
use Rattle.exact_levels.specs.Parts.{IsPart}

-- a row and a share for each agent; agent i + 1 stands at place i
module _ (table : List (List ℕ)) (shares : List ℕ) where
  -- agent i + 1 leaves a part of the set to those before, who can be served from it, and the rest is worth its share
  pub record Leaves (Before : ℕ → Type 0) (i set part : ℕ) : Type 0 where
    pub part_is : IsPart part set
    pub before : Before part
    pub reaches : get_or shares i 0 ≤ value (get_or table i []) (items_of (set - part))

  -- the first i agents can be served from the set: each gets items worth its share, and no item goes to two
  abbrev pub Serves : ℕ → ℕ → Type 0
  Serves zero set = Unit {0}
  Serves (suc i) set = (part : ℕ) × Leaves (Serves i) i set part

  -- the level of a set tells how many of the first i agents can be served from it
  pub record RankedAt (i set level : ℕ) : Type 0 where
    pub few : level ≤ i
    pub served : (j : ℕ) → j ≤ i → (j ≤ level) ↔ Serves j set

  -- the same for each set up to `all`
  abbrev pub Ranked : ℕ → ℕ → List ℕ → Type 0
  Ranked i all levels = (set : ℕ) → set ≤ all → RankedAt i set (get_or levels set 0)
