-- The recurrence counts the growth partitions, and its numbers grow with the bundles and with the items. Assumes nothing.
use mathlib.Core.Path.{◌≡◌, refl, sym, ap, ◌∙◌}
use mathlib.Core.Logic.{⊎_elim}
use mathlib.Core.List.{List, [], ◌∷◌}
use Prim.Native.Nat.{ℕ, zero, suc, ◌+◌, ◌*◌, ◌^◌, ◌≤◌, ◌<◌, min, max}
use native.Mathlib.Nat.{mul-le-mul, mul-le-mul_left, mul_comm, suc-mul, pow-zero, pow-suc, one-mul, add-zero, add-suc}
use native.Mathlib.Omega.{arith}
use lib.ListN.{length}
use borrow.Author.Tests.{lt-ltb, le-ltb}
use Rattle.lists.specs.Lists.{range}
use Rattle.lists.specs.Dictionary.{branches}
use Rattle.lists.proofs.Cases.{lt-or-ge}
use Rattle.lists.proofs.ranges.Ranges.{range-append, range-bounds, length-range}
use Rattle.lists.proofs.dictionary.Listed.{length-branches, length-branches-same}
use Rattle.growth.specs.Growth.{growth_from}
use Rattle.growth.specs.Counts.{growth_count}

-- a new bundle can be opened
pub growth_count-below : (n used k : ℕ) → used < n → growth_count n used (suc k) ≡ used * growth_count n used k + growth_count n (suc used) k
growth_count-below n used k lt = rw (lt-ltb used n lt)

-- all bundles are in use
pub growth_count-full : (n used k : ℕ) → n ≤ used → growth_count n used (suc k) ≡ used * growth_count n used k
growth_count-full n used k le = rw (le-ltb used n le) (omega arith)

module _ (n used k : ℕ) where
  abbrev next : ℕ → List (List ℕ)
  next c = growth_from n (max used c) k

  -- on the bundles in use
  length-in-use : length (branches next (range 1 used)) ≡ used * length (growth_from n used k)
  length-in-use =
      length-branches-same next (length (growth_from n used k)) (range 1 used)
      (λ c m. let b = range-bounds 1 used m in let e : max used c ≡ used = omega arith in ap (λ u. length (growth_from n u k)) e)
      ∙ ap (λ x. x * length (growth_from n used k)) (length-range 1 used)

  length-below : used < n → length (growth_from n used (suc k)) ≡ used * length (growth_from n used k) + length (growth_from n (suc used) k)
  length-below lt =
      let all : min (suc used) n ≡ used + 1 = omega arith in
      let new : max used (1 + used) ≡ suc used = omega arith in
      ap (λ m. length (branches next (range 1 m))) all
      ∙ ap (λ cs. length (branches next cs)) (range-append 1 used 1)
      ∙ length-branches next (range 1 used) ((1 + used) ∷ [])
      ∙ omega (
        arith,
        length-in-use,
        length-branches-same next (length (growth_from n (suc used) k)) ((1 + used) ∷ []) (λ c m. let b = range-bounds (1 + used) 1 m in
            let e : max used c ≡ suc used = omega arith in ap (λ u. length (growth_from n u k)) e),
        one-mul (length (growth_from n (suc used) k)),
      )

  length-full : used ≡ n → length (growth_from n used (suc k)) ≡ used * length (growth_from n used k)
  length-full e = let all : min (suc used) n ≡ used = omega arith in ap (λ m. length (branches next (range 1 m))) all ∙ length-in-use

-- the recurrence counts the growth partitions
pub length-growth_from : (n used k : ℕ) → used ≤ n → length (growth_from n used k) ≡ growth_count n used k
length-growth_from n used zero le = refl
length-growth_from n used (suc k) le =
    ⊎_elim
    (λ lt. length-below n used k lt ∙ rw (length-growth_from n used k le, length-growth_from n (suc used) k lt) (sym (growth_count-below n used k lt)))
    (λ ge. length-full n used k (omega arith) ∙ rw (length-growth_from n used k le) (sym (growth_count-full n used k ge)))
    (lt-or-ge used n)

-- no more than all partitions of k items into as many bundles
pub growth_count-le-pow : (n most used k : ℕ) → n ≤ most → used ≤ most → growth_count n used k ≤ most ^ k
growth_count-le-pow n most used zero few le = omega (arith, pow-zero most)
growth_count-le-pow n most used (suc k) few le =
    ⊎_elim
    (λ lt. omega (
      arith,
      growth_count-below n used k lt,
      mul-le-mul_left used (growth_count-le-pow n most used k few le),
      growth_count-le-pow n most (suc used) k few (omega arith),
      mul-le-mul {n₁ = suc used} {m₁ = most ^ k} {n₂ = most} {m₂ = most ^ k} (omega arith) (omega arith),
      suc-mul used (most ^ k),
      pow-suc most k,
      mul_comm most (most ^ k),
    ))
    (λ ge. omega (
      arith,
      growth_count-full n used k ge,
      mul-le-mul le (growth_count-le-pow n most used k few le),
      pow-suc most k,
      mul_comm most (most ^ k),
    ))
    (lt-or-ge used n)

-- one more bundle gives no fewer
growth_count-bundle : (n used k : ℕ) → growth_count n used k ≤ growth_count (suc n) used k
growth_count-bundle n used zero = omega arith
growth_count-bundle n used (suc k) =
    let same = mul-le-mul_left used (growth_count-bundle n used k) in
    ⊎_elim
    (λ lt. omega (arith, same, growth_count-below n used k lt, growth_count-below (suc n) used k (omega arith), growth_count-bundle n (suc used) k))
    (λ ge. omega (arith, same, growth_count-full n used k ge))
    (lt-or-ge used n)

-- one more item gives no fewer
growth_count-item : (n used k : ℕ) → 1 ≤ used → growth_count n used k ≤ growth_count n used (suc k)
growth_count-item n used k some = omega (arith, once)
  where
    once : 1 * growth_count n used k ≤ used * growth_count n used k
    once = mul-le-mul {n₁ = 1} {m₁ = growth_count n used k} {n₂ = used} {m₂ = growth_count n used k} some (omega arith)

first-item : (n k : ℕ) → 1 ≤ n → growth_count n 0 k ≤ growth_count n 0 (suc k)
first-item n zero some = omega (arith, growth_count-below n 0 0 some)
first-item n (suc k) some = omega (arith, growth_count-below n 0 k some, growth_count-below n 0 (suc k) some, growth_count-item n 1 k (omega arith))

-- so many bundles more
pub more-bundles : (m k d : ℕ) → growth_count m 0 k ≤ growth_count (m + d) 0 k
more-bundles m k zero = rw (add-zero m) (omega arith)
more-bundles m k (suc d) = rw (add-suc m d) (omega (arith, more-bundles m k d, growth_count-bundle (m + d) 0 k))

-- so many items more
pub more-items : (n j d : ℕ) → 1 ≤ n → growth_count n 0 j ≤ growth_count n 0 (j + d)
more-items n j zero some = rw (add-zero j) (omega arith)
more-items n j (suc d) some = rw (add-suc j d) (omega (arith, more-items n j d some, first-item n (j + d) some))
