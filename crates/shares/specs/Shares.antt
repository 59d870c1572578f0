-- The maximin share and the cut of each agent of a table, or the reason why the table is refused. Assumes nothing: these are definitions.
use Rattle.std.specs.Prelude.{Bool, List, map, ℕ, ◌*◌, leb}
use Rattle.lists.specs.Lists.{all}
use Rattle.lists.specs.Sums.{total}
use Rattle.sheet.specs.Limits.{agents_allowed, items_allowed}
use Rattle.sheet.specs.Answers.{Answer, accepted, require, and_then}
use Rattle.sheet.specs.Tables.{valuation_of, all_values}
use Rattle.sheet.specs.Contents.{Contents, valuations_of}
use Rattle.growth.specs.Growth.{growths}
use Rattle.maximin.specs.Share.{maximin_share}
use Rattle.cut.specs.Outcome.{Cutting, cutting_of}

-- whether no agent's "maximin share times the number of yards exceeds the sum of its marks"
unfoldable pub shares_covered : ℕ → List (List ℕ) → Bool
shares_covered n valuations = all (λ values. leb (n * maximin_share n values) (total values)) valuations

module _ (sheet : Contents) where
  -- "the share is over all pieces and as many piles as there are yards": of agent i, by its marks for all items
  abbrev pub share_of : ℕ → ℕ
  share_of i = maximin_share sheet.agents (all_values sheet.items (valuation_of sheet.table i))

  -- the share of each agent
  abbrev pub shares_of : List ℕ
  shares_of = map (maximin_share sheet.agents) (valuations_of sheet)

  -- "Dividing a table directly tries 4, 5 and 9":
  -- 4: "The number of yards .. lies outside 1 to 6"
  -- 5: "The number of pieces lies outside 1 to 12"
  -- 9: "A yard's maximin share times the number of yards exceeds the sum of its marks"
  -- else the share of each agent and its cut of all items into as many bundles as there are agents
  unfoldable pub sharing : Answer (List Cutting)
  sharing =
      require 4 (agents_allowed sheet.agents)
      (require 5 (items_allowed sheet.items)
      (require 9 (shares_covered sheet.agents (valuations_of sheet))
      (accepted (map (cutting_of sheet.agents) (valuations_of sheet)))))

  -- "14 after 9 and before 10 .. by the division when the growth layouts of all pieces into N piles outnumber A" (document 02, order 7)
  unfoldable pub sharing_within : ℕ → Answer (List Cutting)
  sharing_within allowance = and_then sharing (λ cuttings. require 14 (leb (growths sheet.agents sheet.items) allowance) (accepted cuttings))

-- "The dividing program allows 4,000,000" (document 02, order 7)
abbrev pub standard_allowance : ℕ
standard_allowance = 4000000
