-- What an agent can keep of a set of items at the most, where it leaves a part to those before it. Assumes nothing: these are definitions.
use Rattle.std.specs.Prelude.{◌≡◌, cond, List, ℕ, ◌+◌, ◌-◌, ◌*◌, ◌/◌, ◌%◌, ◌^◌, ◌≤◌, ◌<◌, max, eqb, leb, length, get_or}
use Rattle.sheet.specs.Limits.{most_agents, most_items, value_bound, greatest_sum}
use Rattle.sheet.specs.Sets.{items_of}
use Rattle.sheet.specs.Valuations.{value}
use Rattle.exact_levels.specs.Parts.{IsPart}

-- what is added where those before can be served from what is left to them: more than any value
abbrev pub served_bonus : ℕ
served_bonus = 2 ^ 40

-- no sum of marks and what is added comes to more
abbrev pub greatest_kept : ℕ
greatest_kept = served_bonus + value_bound * 2 ^ most_items

-- what is added for a set from which `level` agents can be served
abbrev pub bonus_if : ℕ → ℕ → ℕ
bonus_if before level = cond (leb before level) served_bonus 0

-- the number of sets of the first items
pub record AllSets (items sets : ℕ) : Type 0 where
  pub few : items ≤ most_items
  pub all : sets ≡ 2 ^ items

-- an agent with this valuation behind `before` others, and for each set how many of them can be served from it
module _ (valuation levels : List ℕ) (before : ℕ) where
  -- what the agent keeps of a set where it leaves the part, with what is added
  abbrev pub kept_of : ℕ → ℕ → ℕ
  kept_of set part = bonus_if before (get_or levels part 0) + value valuation (items_of (set - part))

  -- the most of these over the parts that hold all items of the set above item k
  pub record IsMost (k set most : ℕ) : Type 0 where
    pub part : ℕ
    pub part_is : IsPart part set
    pub same_above : part / 2 ^ k ≡ set / 2 ^ k
    pub reached : most ≡ kept_of set part
    pub greatest : (other : ℕ) → IsPart other set → other / 2 ^ k ≡ set / 2 ^ k → kept_of set other ≤ most

  -- the same for each of the sets, once the first k items may be kept
  abbrev pub MostKept : ℕ → ℕ → List ℕ → Type 0
  MostKept k sets kept = (set : ℕ) → set < sets → IsMost k set (get_or kept set 0)

-- no more is kept of the sets from a place on than marks of the items before `bit` can come to
abbrev pub SmallFrom : ℕ → ℕ → List ℕ → Type 0
SmallFrom from bit kept = (set : ℕ) → from ≤ set → get_or kept set 0 ≤ served_bonus + value_bound * bit

-- where nothing is kept yet
pub record Started (levels : List ℕ) (before sets : ℕ) (kept : List ℕ) : Type 0 where
  pub places : length kept ≡ 2 ^ most_items
  pub each : (set : ℕ) → set < sets → get_or kept set 0 ≡ bonus_if before (get_or levels set 0)
  pub small : SmallFrom 0 1 kept

-- a block of twice `bit` sets
pub record CanKeep (kept : List ℕ) (from bit : ℕ) : Type 0 where
  pub places : length kept ≡ 2 ^ most_items
  pub within : from + bit + bit ≤ 2 ^ most_items
  pub small : SmallFrom from bit kept

-- of the sets of the second half the item may be kept, and no other place changes
pub record BlockKept (old : List ℕ) (from bit mark : ℕ) (new : List ℕ) : Type 0 where
  pub places : length new ≡ length old
  pub raised : (i : ℕ) → i < bit → get_or new (from + bit + i) 0 ≡ max (get_or old (from + bit + i) 0) (get_or old (from + i) 0 + mark)
  pub before : (set : ℕ) → set < from + bit → get_or new set 0 ≡ get_or old set 0
  pub behind : (set : ℕ) → from + bit + bit ≤ set → get_or new set 0 ≡ get_or old set 0

-- the sets are so many blocks
pub record CanKeepItem (kept : List ℕ) (bit sets : ℕ) : Type 0 where
  pub places : length kept ≡ 2 ^ most_items
  pub some : 1 ≤ bit
  pub some_sets : 1 ≤ sets
  pub within : sets ≤ 2 ^ most_items
  pub blocks : ℕ
  pub all : sets ≡ blocks * (2 * bit)
  pub small : SmallFrom 0 bit kept

-- what is kept of a set once the item of `bit` may be kept
abbrev pub with_item : (old : List ℕ) (bit mark set : ℕ) → ℕ
with_item old bit mark set = cond (eqb (set / bit % 2) 1) (max (get_or old set 0) (get_or old (set - bit) 0 + mark)) (get_or old set 0)

-- the same for each of the sets, and no other place changes
pub record ItemKept (old : List ℕ) (bit mark sets : ℕ) (new : List ℕ) : Type 0 where
  pub places : length new ≡ length old
  pub each : (set : ℕ) → set < sets → get_or new set 0 ≡ with_item old bit mark set
  pub behind : (set : ℕ) → sets ≤ set → get_or new set 0 ≡ get_or old set 0
  pub light : mark < value_bound

-- what is asked of the numbers that are added and compared
pub record CanRaise (levels : List ℕ) (before items sets : ℕ) : Type 0 where
  pub places : length levels ≡ 2 ^ most_items
  pub few : before < most_agents
  pub all_sets : AllSets items sets

-- the level of a set of which an agent with this share can keep so much at the most, behind those before
abbrev pub level_with : (level before share most : ℕ) → ℕ
level_with level before share most = cond (leb (served_bonus + share) most) (before + 1) level

-- the level of a set once the agent with this share is tried behind those before
pub record RaisedAt (valuation : List ℕ) (share : ℕ) (levels : List ℕ) (before items set level : ℕ) : Type 0 where
  pub most : ℕ
  pub is_most : IsMost valuation levels before items set most
  pub raised : level ≡ level_with (get_or levels set 0) before share most

-- the same for each of the sets, and no other place changes
pub record Raised (valuation : List ℕ) (share : ℕ) (levels : List ℕ) (before items sets : ℕ) (next : List ℕ) : Type 0 where
  pub places : length next ≡ length levels
  pub light : (set : ℕ) → value valuation (items_of set) ≤ greatest_sum
  pub each : (set : ℕ) → set < sets → RaisedAt valuation share levels before items set (get_or next set 0)
  pub behind : (set : ℕ) → sets ≤ set → get_or next set 0 ≡ get_or levels set 0
