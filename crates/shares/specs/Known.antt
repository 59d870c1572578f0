-- The shares of a sheet that is not refused, as the code has them. Assumes nothing: these are definitions.
use Rattle.std.specs.Prelude.{◌≡◌, List, ℕ}
use Rattle.lists.specs.Lists.{padded}
use Rattle.sheet.specs.Limits.{most_agents, CountsWithin}
use Rattle.sheet.specs.Contents.{Contents}
use Rattle.sheet.specs.Amounts.{SmallAmounts}
use Rattle.shares.specs.Shares.{shares_of}

-- the counts are within the limits, and the shares those of the sheet, and small
pub record SharesIn (sheet : Contents) (shares : List ℕ) : Type 0 where
  pub counts : CountsWithin sheet.agents sheet.items
  pub each : shares ≡ padded most_agents 0 (shares_of sheet)
  pub small : SmallAmounts shares
