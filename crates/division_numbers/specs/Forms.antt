-- The forms of the numbers that a division states (document 01, "The printed division"), as texts: what stands before and between them.
-- Assumes nothing: these are definitions.
use Prim.Native.String.{String}

-- (division (yards 2) (pieces 3) (grade 3))
abbrev pub before_counts : String
before_counts = "(division (yards"

abbrev pub before_grade : String
before_grade = ") (grade"

-- (worth 5) (share 5) (cut
abbrev pub before_worth : String
before_worth = "(worth"

abbrev pub before_share : String
before_share = ") (share"

abbrev pub before_cut : String
before_cut = ") (cut"
