-- Numbers behind a text and in brackets (document 01, "The sheet"). Assumes nothing: these are definitions.
use Rattle.std.specs.Prelude.{List, [], ◌∷◌, ◌++◌, ℕ}
use Prim.Native.String.{String}
use Rattle.text.specs.Bytes.{bytes}
use Rattle.text.specs.Decimal.{decimal, spaced_numbers}

-- a text and a number behind it
abbrev pub field : String → ℕ → List ℕ
field text n = bytes text ++ decimal n

-- numbers in brackets, "parted by one space, with none after an opening or before a closing bracket"
abbrev pub group : List ℕ → List ℕ
group [] = bytes "()"
group (k ∷ ks) = field "(" k ++ spaced_numbers ks ++ bytes ")"
