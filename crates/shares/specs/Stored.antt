-- How the code has the shares of a table that is not refused: each agent's share and cut, with the places that are not in use. Assumes
-- nothing: these are definitions.
use Rattle.std.specs.Prelude.{List, [], map, ℕ}
use Rattle.lists.specs.Lists.{padded}
use Rattle.sheet.specs.Limits.{most_agents}
use Rattle.cut.specs.Outcome.{Cutting, placed}
use Rattle.shares.specs.declared.Shares.{Shares}

-- the place of a cut that is not in use
abbrev pub blank_cut : List ℕ
blank_cut = placed []

-- each agent's share and cut stand in its place, of as many as a sheet may have
abbrev pub stored : List Cutting → Shares
stored cuttings =
    record {
      shares = padded most_agents 0 (map (λ c. c.share) cuttings);
      cuts = padded most_agents blank_cut (map (λ c. placed c.partition) cuttings);
    }
