-- What a sheet carries. Assumes nothing: these are definitions.
use Rattle.std.specs.Prelude.{List, ℕ}
use Rattle.sheet.specs.Tables.{profile}
use Rattle.sheet.specs.declared.Contents as code

-- what a sheet carries, as the code has it: the counts of its agents (yards) and its items (pieces), and the table of marks
abbrev pub Contents : Type 0
Contents = code.Contents

-- so many agents and so many items, with a table
abbrev pub sheet_of : ℕ → ℕ → List (List ℕ) → Contents
sheet_of agents items table = record { agents = agents; items = items; table = table }

-- the places in use of the table of a sheet
abbrev pub valuations_of : Contents → List (List ℕ)
valuations_of sheet = profile sheet.agents sheet.items sheet.table
