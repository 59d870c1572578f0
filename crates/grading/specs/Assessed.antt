-- What an allocation comes to, as the code has it. Assumes nothing: these are definitions.
use Rattle.std.specs.Prelude.{pos}
use Rattle.lists.specs.Lists.{padded}
use Rattle.sheet.specs.Limits.{most_agents}
use Rattle.grades.specs.Assessment.{Assessment}
use Rattle.grading.specs.declared.Assessed.{Assessed}

-- the worths and the margins in six places, 0 after the last agent
abbrev pub assessed : Assessment → Assessed
assessed a = record { worths = padded most_agents 0 a.worths; margins = padded most_agents (pos 0) a.margins; grade = a.grade }
