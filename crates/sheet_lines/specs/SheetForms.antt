-- The forms of a sheet's lines (document 01, "The sheet"), as texts: what stands before, between and after the numbers. Assumes
-- nothing: these are definitions.
use Prim.Native.String.{String}

-- (sheet (yards 2) (pieces 3))
abbrev pub before_agents : String
before_agents = "(sheet (yards"

abbrev pub before_items : String
before_items = ") (pieces"

-- (yard 1 (marks 5 3 4))
abbrev pub before_turn : String
before_turn = "(yard"

abbrev pub before_marks : String
before_marks = "(marks"

-- the end of these lines: "Each line ends in one line feed"
abbrev pub line_end : String
line_end = "))\n"

-- "the line `(end)`"
abbrev pub last_line : String
last_line = "(end)\n"
