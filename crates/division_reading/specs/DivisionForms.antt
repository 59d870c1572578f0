-- The forms of a division's lines (document 01, "The printed division"), as texts: what stands before, between and after the numbers,
-- where a sheet's lines do not have it too. Assumes nothing: these are definitions.
use Prim.Native.String.{String}
pub use Rattle.division_numbers.specs.Forms.{before_counts, before_grade, before_worth, before_share, before_cut}
pub use Rattle.bundle_reading.specs.Bundles.{pile_end}

-- (yard 1 (pile 1) (worth 5) (share 5) (cut (1) (2 3)))
abbrev pub before_pile : String
before_pile = "(pile"

-- a pile in a cut begins with a bracket
abbrev pub before_cut_pile : String
before_cut_pile = "("
