-- How many of the first agents can be served from each set of items, each with its share. Assumes nothing: these are definitions.
use Rattle.std.specs.Prelude.{Bool, true, cond, ◌&&◌, List, [], map, ℕ, zero, suc, ◌+◌, ◌-◌, ◌^◌, leb, get_or}
use Rattle.lists.specs.Lists.{range, padded, any}
use Rattle.sheet.specs.Limits.{most_items}
use Rattle.sheet.specs.Sets.{items_of}
use Rattle.sheet.specs.Valuations.{value}
use Rattle.exact_levels.specs.Parts.{is_part}

-- a row and a share for each agent; agent i + 1 stands at place i
module _ (table : List (List ℕ)) (shares : List ℕ) where
  -- whether agent i + 1 may leave a part of the set to those before, by the sets from which these can be served: the rest is worth its share
  abbrev pub may_leave_part : (before : ℕ → Bool) (i set part : ℕ) → Bool
  may_leave_part before i set part = is_part part set && (before part && leb (get_or shares i 0) (value (get_or table i []) (items_of (set - part))))

  -- whether the first i agents can be served from the set: each gets items worth its share, and no item goes to two
  unfoldable pub can_serve : ℕ → ℕ → Bool
  can_serve zero set = true
  can_serve (suc i) set = any (may_leave_part (can_serve i) i set) (range 0 (set + 1))

  -- how many of the first i agents can be served from the set
  unfoldable pub level_of : ℕ → ℕ → ℕ
  level_of zero set = 0
  level_of (suc i) set = cond (can_serve (suc i) set) (i + 1) (level_of i set)

  -- of the first n agents, from each set of the first m items; 0 for all other sets of the items of a sheet
  unfoldable pub levels_of : ℕ → ℕ → List ℕ
  levels_of n m = padded (2 ^ most_items) 0 (map (level_of n) (range 0 (2 ^ m)))
