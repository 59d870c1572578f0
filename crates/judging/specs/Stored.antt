-- How the code has the margins of a division that is accepted. Assumes nothing: these are definitions.
use Rattle.std.specs.Prelude.{List, ℤ, pos}
use Rattle.lists.specs.Lists.{padded}
use Rattle.sheet.specs.Limits.{most_agents}

-- the margins stand in the agents' places, 0 after the last
abbrev pub stored : List ℤ → List ℤ
stored margins = padded most_agents (pos 0) margins
