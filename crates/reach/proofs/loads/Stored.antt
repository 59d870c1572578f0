-- Loads with a value more on one bundle, as a function and as they are stored. Assumes nothing.
use mathlib.Core.Path.{◌≡◌, sym, ◌∙◌}
use mathlib.Core.Bool.{cond}
use mathlib.Core.Logic.{⊎_elim}
use mathlib.Core.List.{List}
use Prim.Native.Nat.{ℕ, ◌+◌, ◌-◌, ◌≤◌, ◌<◌}
use native.Mathlib.Nat.{add-zero}
use native.Mathlib.Omega.{arith}
use lib.Dec.{eqb}
use lib.ListN.{length, get_or, set}
use lib.Seq.{get_or-set_same, get_or-set_other}
use borrow.Author.Tests.{eq-eqb, ne_eqb}
use Rattle.lists.proofs.Cases.{eq-or-ne}
use Rattle.reach.specs.Loads.{load_of}

-- the loads with v more on bundle c
abbrev pub loaded : (ℕ → ℕ) → ℕ → ℕ → ℕ → ℕ
loaded load c v d = load d + cond (eqb d c) v 0

-- v more is stored on bundle i + 1
pub loaded-stored : (loads : List ℕ) (i v d : ℕ) → i < length loads → 1 ≤ d → loaded (load_of loads) (i + 1) v d ≡ load_of (set loads i (get_or loads i 0 + v)) d
loaded-stored loads i v d inside pos =
    ⊎_elim
    (λ e. let e' : d - 1 ≡ i = omega arith in rw (eq-eqb d (i + 1) e, e') (sym (get_or-set_same loads i (get_or loads i 0 + v) 0 inside)))
    (λ ne. rw (ne_eqb d (i + 1) ne) (add-zero _ ∙ sym (get_or-set_other loads i (d - 1) (get_or loads i 0 + v) 0 (λ e. ne (omega arith)))))
    (eq-or-ne d (i + 1))
