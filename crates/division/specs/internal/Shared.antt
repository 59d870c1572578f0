-- The shares and the cuts of a sheet that is not refused, as the code has them, with the terms and the allowance. Assumes nothing: these
-- are definitions.
use Rattle.std.specs.Prelude.{◌≡◌, map, ℕ, ◌≤◌}
use Rattle.lists.specs.Lists.{padded}
use Rattle.sheet.specs.Limits.{most_agents}
use Rattle.sheet.specs.Contents.{Contents, valuations_of}
use Rattle.terms.specs.Allowed.{AllowedTerms}
use Rattle.terms.specs.declared.Terms.{Terms}
use Rattle.growth.specs.Growth.{growths}
use Rattle.maximin.specs.Share.{maximin_partition}
use Rattle.cut.specs.Outcome.{placed}
use Rattle.shares.specs.Known.{SharesIn}
use Rattle.shares.specs.Stored.{blank_cut}
use Rattle.shares.specs.declared.Shares.{Shares}

-- the shares and the cuts are those of the sheet, the terms are allowed, and the allowance is enough
pub record IsShared (sheet : Contents) (terms : Terms) (allowance : ℕ) (own : Shares) : Type 0 where
  pub known : SharesIn sheet own.shares
  pub own_cuts : own.cuts ≡ padded most_agents blank_cut (map placed (map (maximin_partition sheet.agents) (valuations_of sheet)))
  pub allowed : AllowedTerms sheet.agents terms
  pub enough : growths sheet.agents sheet.items ≤ allowance
