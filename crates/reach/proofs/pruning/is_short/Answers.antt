use mathlib.Core.Path.{◌≡◌, refl, sym, ap, ◌∙◌}
use mathlib.Core.Bool.{Bool, ◌||◌, ◌&&◌}
use mathlib.Core.Logic.{⊎_elim}
use mathlib.Core.List.{List, [], ◌∷◌}
use Prim.Native.Nat.{ℕ, ◌-◌, ◌≤◌}
use native.Mathlib.Omega.{arith}
use lib.Dec.{ltb}
use lib.ListN.{length, take, length-take}
use lib.Seq.{get_or-take}
use Rattle.std.proofs.Common.{rules, tests}
use Rattle.std.specs.List.{list_any}
use Rattle.std.proofs.lemmas.Iterator.{YieldsList-from_slice}
use Rattle.std.proofs.lemmas.Iterator.Search.{any_from_yields_List}
use borrow.Author.Tests.{lt-ltb, le-ltb}
use Rattle.lists.specs.Lists.{range, any, nth}
use Rattle.lists.proofs.Cases.{lt-or-ge}
use Rattle.lists.proofs.members.Congruence.{any-cong}
use Rattle.lists.proofs.members.Tests.{any-map}
use Rattle.lists.proofs.ranges.Ranges.{range-bounds, map-nth-range}
use Rattle.reach.specs.Loads.{load_of}
use Rattle.reach.specs.Pruning.{counted_supply, demand, is_short_at}
use Rattle.reach.proofs.pruning.Threshold.{is_short_at-reached}
use Rattle.reach.proofs.pruning.is_short.Goals as goal

-- the library's word for the test of a list
list_any-is : {A : Type 0} (p : A → Bool) (xs : List A) → list_any p xs ≡ any p xs
list_any-is p [] = refl
list_any-is p (x ∷ xs) = ap (λ b. p x || b) (list_any-is p xs)

-- the test of the first n members is the test of the places 1 .. n
list_any-front : (p : ℕ → Bool) (xs : List ℕ) (n : ℕ) → n ≤ length xs → list_any p (take n xs) ≡ any (λ c. p (nth 0 xs c)) (range 1 n)
list_any-front p xs n inside =
    let whole : length (take n xs) ≡ n = omega (arith, length-take n xs) in
    list_any-is p (take n xs)
    ∙ ap (any p) (sym (map-nth-range 0 (take n xs) n whole))
    ∙ any-map p (nth 0 (take n xs)) (range 1 n)
    ∙ any-cong (λ c. p (nth 0 (take n xs) c)) (λ c. p (nth 0 xs c)) (range 1 n)
    (λ c m. let b = range-bounds 1 n m in ap p (get_or-take n xs (c - 1) 0 (omega (arith, b))))

-- a bundle that has the goal may be passed over: the test passes there
below-and-short : (goal : ℕ) (load : ℕ → ℕ) (n : ℕ) (values : List ℕ) (c : ℕ) → ltb (load c) goal && is_short_at goal load n values c ≡ is_short_at goal load n values c
below-and-short goal load n values c =
    ⊎_elim
    (λ below. rw (lt-ltb (load c) goal below) refl)
    (λ reached. rw (le-ltb (load c) goal reached, is_short_at-reached goal load n values c reached) refl)
    (lt-or-ge (load c) goal)

pub returns : goal.returns
returns c =
    let a = c.args in
    let load = load_of a.loads.now in
    let test : ℕ → Bool = λ l. ltb l a.goal && ltb (counted_supply (a.goal - l) a.values.now) (demand a.goal load a.bundles (a.goal - l)) in
    let by_call : c.any.result ≡ list_any test (take a.bundles a.loads.now) =
    any_from_yields_List test _ _ _ c.any.ensures.ran (YieldsList-from_slice (take a.bundles a.loads.now) cc) (λ x b q k. search (rules, tests)) in
    by_call
    ∙ list_any-front test a.loads.now a.bundles (omega (arith, c.requires))
    ∙ any-cong (λ k. test (load k)) (is_short_at a.goal load a.bundles a.values.now) (range 1 a.bundles) (λ k m. below-and-short a.goal load a.bundles a.values.now k)
