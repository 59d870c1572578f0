-- How the code has a division: the paper's numbers, with the places that are not in use. Assumes nothing: these are definitions.
use Rattle.std.specs.Prelude.{map}
use Rattle.lists.specs.Lists.{padded}
use Rattle.sheet.specs.Limits.{most_agents}
use Rattle.sheet.specs.Sets.{set_of}
use Rattle.cut.specs.Outcome.{placed}
use Rattle.shares.specs.Stored.{blank_cut}
use Rattle.rounds.specs.Division.{Division}
use Rattle.division.specs.declared.Division.{Division as StoredDivision}

-- its grade, the worths, the bundles (piles) as sets, the shares, the cuts and the cutters: a place for each agent (yard) that a sheet may
-- have, blank after the last in use
abbrev pub stored : Division → StoredDivision
stored d =
    record {
      grade = d.grade;
      worths = padded most_agents 0 d.worths;
      bundles = padded most_agents 0 (map set_of d.bundles);
      shares = padded most_agents 0 d.shares;
      cuts = padded most_agents blank_cut (map placed d.cuts);
      cutters = padded most_agents 0 d.cutters;
    }
