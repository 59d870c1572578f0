-- Laws of the cutter: it is one of the agents left, and the lowest of them. Assumes nothing.
use mathlib.Core.Path.{refl, sym}
use mathlib.Core.Logic.{⊎_elim}
use mathlib.Core.List.Memᴰ.{cases_cons}
use mathlib.Core.List.Memᴰ.{head as here}
use mathlib.Core.List.Memᴰ.{not-nil}
use mathlib.Core.List.{List, [], ◌∷◌, Memᴰ as Mem}
use Prim.Native.Nat.{ℕ, ◌≤◌}
use native.Mathlib.Nat.{le_of_eq, le_of_lt}
use native.Mathlib.Omega.{arith}
use lib.ListN.{length}
use Rattle.lists.specs.Lists.{Rising}
use Rattle.matching.specs.Matching.{cutter_of}

pub cutter_of-mem : (agents : List ℕ) → 1 ≤ length agents → Mem (cutter_of agents) agents
cutter_of-mem [] some = absurd (omega arith)
cutter_of-mem (agent ∷ agents) some = here refl

pub cutter_of-lowest : (agents : List ℕ) → Rising agents → (agent : ℕ) → Mem agent agents → cutter_of agents ≤ agent
cutter_of-lowest [] rising agent m = absurd (not-nil m)
cutter_of-lowest (a ∷ agents) rising agent m = ⊎_elim (λ e. le_of_eq (sym e)) (λ n. le_of_lt (rising.0 agent n)) (cases_cons m)
