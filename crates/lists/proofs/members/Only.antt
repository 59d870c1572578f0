-- The only member of a list that passes a test. Assumes nothing.
use mathlib.Core.Path.{◌≡◌, refl, sym, ap, subst, ◌∙◌}
use mathlib.Core.Bool.{Bool, true, false, true≢false}
use mathlib.Core.List.Memᴰ.{eq_of_singleton}
use mathlib.Core.List.Memᴰ.{head as here}
use mathlib.Core.List.{List, [], ◌∷◌, Memᴰ as Mem}
use Prim.Native.Nat.{ℕ}
use native.Mathlib.Omega.{arith}
use lib.Dec.{eqb}
use lib.ListN.{length}
use borrow.Author.Tests.{eq-eqb, ne_eqb}
use Rattle.lists.specs.Lists.{nth, filter, count}
use Rattle.lists.proofs.members.Counting.{mem-filter, filter-mem, length-filter}

singleton : (xs : List ℕ) → length xs ≡ 1 → xs ≡ nth 0 xs 1 ∷ []
singleton [] one = absurd (omega arith)
singleton (x ∷ []) one = refl
singleton (x ∷ y ∷ xs) one = absurd (omega arith)

module _ (p : ℕ → Bool) (xs : List ℕ) where
  -- the first that passes, and 0 where none does
  abbrev pub only : ℕ
  only = nth 0 (filter p xs) 1

  module _ (one : count p xs ≡ 1) where
    filter-only : filter p xs ≡ only ∷ []
    filter-only = singleton (filter p xs) (length-filter p xs ∙ one)

    only-passes : Mem only xs × (p only ≡ true)
    only-passes = filter-mem p xs (subst (Mem only) (sym filter-only) (here refl))

    pub only-mem : Mem only xs
    only-mem = only-passes.0

    -- a member is it exactly where it passes the test
    pub eqb-only : (x : ℕ) → Mem x xs → eqb x only ≡ p x
    eqb-only x m = step (p x) refl
      where
        step : (b : Bool) → p x ≡ b → eqb x only ≡ b
        step true e = eq-eqb x only (eq_of_singleton (subst (Mem x) filter-only (mem-filter p m e)))
        step false e = ne_eqb x only (λ same. true≢false (sym only-passes.1 ∙ sym (ap p same) ∙ e))
