-- The set of all items up to m, the sets of lists of them, and the sets that name only them. Assumes nothing.
use mathlib.Core.Path.{◌≡◌, refl, sym, ap, ◌∙◌}
use mathlib.Core.Bool.{Bool, true, false, true≢false}
use mathlib.Core.Logic.{⊎_elim}
use mathlib.Core.List.{List, [], ◌∷◌}
use mathlib.Core.List.Sublistᴰ.{cases_cons as sublist-cases}
use mathlib.Core.List.Sublistᴰ.{eq-nil as sublist-nil}
use mathlib.Core.List.{Sublistᴰ as Sublist}
use Prim.Native.Nat.{ℕ, zero, suc, ◌+◌, ◌-◌, ◌^◌, ◌≤◌, ◌<◌}
use native.Mathlib.Nat.{pow-suc, add-zero, add-suc, suc-add, zero-add}
use native.Mathlib.Omega.{arith}
use lib.Dec.{leb}
use borrow.Author.Tests.{le-leb, lt-leb}
use Rattle.lists.specs.Lists.{range, all}
use Rattle.lists.proofs.ranges.Ranges.{in-range, range-bounds, range-sublist}
use Rattle.lists.proofs.members.Counting.{filter-sublist, sublist-mem, mem-filter, mem-all, all-mem}
use Rattle.sheet.specs.Limits.{set_bits}
use Rattle.sheet.specs.Sets.{names, items_of, set_of}
use Rattle.sheet.proofs.sets.Sets.{items-set_of}
use Rattle.sheet.proofs.sets.Items.{items_up_to-none, items-sublist, set_of-items}

-- the items i + 1 .. i + n as a set
set_of-range : (i n : ℕ) → set_of (range (suc i) n) + 2 ^ i ≡ 2 ^ (i + n)
set_of-range i zero = rw (add-zero i) (zero-add (2 ^ i))
set_of-range i (suc n) =
    let p : suc i - 1 ≡ i = omega arith in
    rw (add-suc i n, p) (omega (arith, rw suc-add at (set_of-range (suc i) n), pow-suc 2 i))

-- the items 1 .. m as a set
pub set_of-up_to : (m : ℕ) → set_of (range 1 m) + 1 ≡ 2 ^ m
set_of-up_to m = rw zero-add at (set_of-range 0 m)

-- fewer items make a lesser set
set_of-sublist : {l : List ℕ} (k : List ℕ) → Sublist l k → set_of l ≤ set_of k
set_of-sublist [] s = rw (sublist-nil s) (omega arith)
set_of-sublist (x ∷ k) s = ⊎_elim (λ t. omega (arith, set_of-sublist k t)) (λ w. rw w.1 (omega (arith, set_of-sublist k w.2))) (sublist-cases s)

-- the set of some of the items 1 .. m
pub set_of-below : (m : ℕ) {l : List ℕ} → Sublist l (range 1 m) → set_of l < 2 ^ m
set_of-below m s = omega (arith, set_of-sublist (range 1 m) s, set_of-up_to m)

-- a set that names nothing above m is below 2 ^ m
pub below_names : (m set : ℕ) → m ≤ set_bits → set < 2 ^ set_bits → ((k : ℕ) → m < k → k ≤ set_bits → names set k ≡ false) → set < 2 ^ m
below_names m set few small none =
    let first : Sublist (items_of set) (range 1 m) = rw (← items_up_to-none set m few none) (filter-sublist (names set) (range 1 m)) in
    omega (arith, set_of-below m first, set_of-items set set_bits small (omega arith))

-- whether a set names only items up to m
module _ (set m : ℕ) (few : m ≤ set_bits) where
  -- a set below 2 ^ m does
  pub names-only-below : set < 2 ^ m → all (λ k. leb k m) (items_of set) ≡ true
  names-only-below small =
      mem-all (λ k. leb k m) (items_of set) (λ k named. le-leb k m (omega (arith, range-bounds 1 m (sublist-mem (items-sublist set m small few) named))))

  -- a 16-bit set that is not below 2 ^ m does not
  pub names-one-above : 2 ^ m ≤ set → set < 2 ^ set_bits → all (λ k. leb k m) (items_of set) ≡ false
  unfolding items_of
  names-one-above large wide = step (all (λ k. leb k m) (items_of set)) refl
    where
      unnamed : all (λ k. leb k m) (items_of set) ≡ true → (k : ℕ) → m < k → k ≤ set_bits → (b : Bool) → names set k ≡ b → names set k ≡ false
      unnamed only k above le false e = e
      unnamed only k above le true e =
          let named = mem-filter (names set) (in-range 1 set_bits k (omega arith) (omega arith)) e in
          absurd (true≢false (sym (all-mem (λ i. leb i m) only named) ∙ lt-leb k m above))

      step : (b : Bool) → all (λ k. leb k m) (items_of set) ≡ b → all (λ k. leb k m) (items_of set) ≡ false
      step false e = e
      step true e = absurd (omega (arith, below_names m set few wide (λ k above le. unnamed e k above le (names set k) refl)))

-- the set of the items 1 .. m
pub items-all : (m : ℕ) → m ≤ set_bits → items_of (2 ^ m - 1) ≡ range 1 m
items-all m few =
    let e : 2 ^ m - 1 ≡ set_of (range 1 m) = omega (arith, set_of-up_to m) in
    ap items_of e ∙ items-set_of (range 1 m) (range-sublist 1 m set_bits few)
