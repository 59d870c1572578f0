-- The cutters as the code has them, with 0 after the last. Assumes nothing: these are definitions.
use Rattle.std.specs.Prelude.{List, [], ◌∷◌, ℕ, zero, suc}

-- the entries before the first 0
abbrev pub before_zero : List ℕ → List ℕ
before_zero [] = []
before_zero (zero ∷ l) = []
before_zero (suc k ∷ l) = suc k ∷ before_zero l
