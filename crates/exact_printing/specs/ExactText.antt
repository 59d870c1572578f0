-- The printed answer to a search for an exact division (document 02, order 4). Assumes nothing: these are definitions.
use Rattle.std.specs.Prelude.{Bool, true, false, ℕ}
use mathlib.Core.List.{List, ◌++◌, flat_map}
use Rattle.text.specs.Bytes.{bytes}
use Rattle.writing.specs.Fields.{group}

-- the items of a bundle (pile) in brackets, behind a space: "an empty one as `()`"
abbrev pub spaced_group : List ℕ → List ℕ
spaced_group bundle = bytes " " ++ group bundle

-- "It prints `(exact none)`, or `(exact (3) (1 2))` with a pile for each yard in yard order", and a line feed: whether there is an exact
-- division, and the bundles that are shown where there is one
unfoldable pub exact_text : Bool → List (List ℕ) → List ℕ
exact_text false bundles = bytes "(exact none)\n"
exact_text true bundles = bytes "(exact" ++ flat_map spaced_group bundles ++ bytes ")\n"
