-- Laws of the waiting set: it is tight, and no tight set is larger. Assumes nothing.
use mathlib.Core.Path.{◌≡◌, refl}
use mathlib.Core.Bool.{Bool, true}
use mathlib.Core.List.{List, [], Memᴰ as Mem}
use mathlib.Core.List.Sublistᴰ.{nil-sublist}
use mathlib.Core.List.{Sublistᴰ as Sublist}
use Prim.Native.Nat.{ℕ, ◌≤◌}
use native.Mathlib.Omega.{arith}
use lib.ListN.{length}
use borrow.Author.Tests.{leb-true, le-leb}
use Rattle.lists.specs.Lists.{filter}
use Rattle.lists.specs.Dictionary.{sublists}
use Rattle.lists.proofs.dictionary.First.{le-greatest, first_best-reaches}
use Rattle.lists.proofs.members.Counting.{mem-filter, filter-mem, count_none}
use Rattle.lists.proofs.ranges.Sublists.{sublists-mem, mem-sublists}
use Rattle.matching.specs.Matching.{wanted, neighbours, tight, waiting_set}

module _ (suits : ℕ → ℕ → Bool) where
  pub record LargestTight (agents bundles set : List ℕ) : Type 0 where
    pub sublist : Sublist set agents
    pub bound : neighbours suits set bundles ≤ length set
    pub largest : (zs : List ℕ) → Sublist zs agents → neighbours suits zs bundles ≤ length zs → length zs ≤ length set

  pub mem-tight : (agents bundles : List ℕ) {zs : List ℕ} → Sublist zs agents → neighbours suits zs bundles ≤ length zs → Mem zs (filter (tight suits bundles) (sublists agents))
  mem-tight agents bundles {zs} s le =
      let enough : tight suits bundles zs ≡ true = search (le-leb, arith) in
      mem-filter (tight suits bundles) (mem-sublists s) enough

  pub waiting_set-largest : (agents bundles : List ℕ) → LargestTight agents bundles (waiting_set suits agents bundles)
  unfolding waiting_set
  waiting_set-largest agents bundles =
      let sets = filter (tight suits bundles) (sublists agents) in
      let none = mem-tight agents bundles (nil-sublist agents) (omega (arith, count_none (wanted suits []) bundles (λ p m. refl))) in
      let (listed, best) = first_best-reaches length sets none in
      let (m, e) = filter-mem (tight suits bundles) (sublists agents) listed in
      record {
        sublist = sublists-mem agents m;
        bound = leb-true _ _ e;
        largest = λ zs s le. omega (arith, best, le-greatest length sets (mem-tight agents bundles s le));
      }
