-- Which marks are allowed (document 01, "Parts of the box"). Assumes nothing: these are definitions.
use Rattle.std.specs.Prelude.{List, Bool, ℕ, leb}
use Rattle.lists.specs.Lists.{all}

-- "A mark is a whole number from 0 to" the greatest: whether a mark is allowed, and whether all marks of a row are
abbrev pub allowed : ℕ → ℕ → Bool
allowed greatest mark = leb mark greatest

abbrev pub allowed_row : ℕ → List ℕ → Bool
allowed_row greatest row = all (allowed greatest) row
