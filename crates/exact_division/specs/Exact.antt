-- Divisions in which every agent (yard) has its whole maximin share (document 02, order 4). Assumes nothing: these are definitions.
use Rattle.std.specs.Prelude.{◌≡◌, Bool, true, ℕ, leb}
use mathlib.Core.List.{List, [], Memᴰ as Mem}
use Rattle.lists.specs.Lists.{range, nth, any, all, Rising}
use Rattle.sheet.specs.Valuations.{value}
use Rattle.sheet.specs.Tables.{valuation_of}
use Rattle.sheet.specs.Allocations.{Allocates}
use Rattle.sheet.specs.Contents.{Contents}
use Rattle.maximin.specs.Partitions.{partitions}
use Rattle.bundling.specs.Bundles.{all_bundles}
use Rattle.shares.specs.Shares.{share_of}

-- "giving each piece to a yard": the bundle of each of n agents, where entry k of the list names the agent who gets item k
abbrev pub bundles_by : ℕ → ℕ → List ℕ → List (List ℕ)
bundles_by n m agents = all_bundles n m agents

module _ (sheet : Contents) where
  -- whether a bundle (pile) is worth to the agent at least its share, both worked from the marks of the sheet
  abbrev pub has_share : ℕ → List ℕ → Bool
  has_share agent bundle = leb (share_of sheet agent) (value (valuation_of sheet.table agent) bundle)

  -- "every yard has its whole maximin share"
  unfoldable pub is_exact : List (List ℕ) → Bool
  is_exact bundles = all (λ agent. has_share agent (nth [] bundles agent)) (range 1 sheet.agents)

  -- whether there is such a division, "judged over all ways of giving each piece to a yard": the lists that name an agent for each item
  unfoldable pub exact_exists : Bool
  exact_exists = any (λ agents. is_exact (bundles_by sheet.agents sheet.items agents)) (partitions sheet.agents sheet.items)

  -- what holds of the bundles that are shown
  pub record ExactDivision (bundles : List (List ℕ)) : Type 0 where
    -- each item is in exactly one bundle, no bundle has any other item, and there is a bundle for each agent
    pub allocates : Allocates sheet.agents sheet.items bundles
    -- the items of a bundle rise
    pub items_rise : (bundle : List ℕ) → Mem bundle bundles → Rising bundle
    -- "every yard has its whole maximin share"
    pub shares_reached : is_exact bundles ≡ true
