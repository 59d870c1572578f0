-- A walk over the items that cuts off each branch in which the agents lack more than the items left are worth: where it finds no way, there
-- is no exact division. It is for tables that are too large to be tried in all ways by computation. Assumes nothing.
use mathlib.Core.Path.{◌≡◌, refl, sym, ap, ◌∙◌}
use mathlib.Core.Bool.{Bool, true, false, cond, true≢false}
use mathlib.Core.List.Memᴰ.{head as here}
use mathlib.Core.List.Memᴰ.{tail as there}
use mathlib.Core.List.{List, [], ◌∷◌, Memᴰ as Mem}
use Prim.Native.Nat.{ℕ, ◌+◌, ◌-◌, ◌≤◌}
use native.Mathlib.Omega.{arith}
use lib.Dec.{eqb, leb}
use lib.ListN.{length}
use borrow.Author.Tests.{le-leb, leb-true}
use Rattle.lists.specs.Lists.{range, nth, cons_if, any, all}
use Rattle.lists.specs.Sums.{sum_of, sum_over, greatest_of}
use Rattle.lists.proofs.ranges.Ranges.{in-range, range-bounds, length-range, nth-map-range}
use Rattle.lists.proofs.members.Counting.{mem-any, mem-all, all-mem}
use Rattle.lists.proofs.dictionary.Listed.{lists_over-in}
use Rattle.lists.proofs.sums.Sums.{sum_of-zero, sum_of-add, sum_of-mono, sum_of-once}
use Rattle.lists.proofs.sums.Totals.{sum_over-cons_if}
use Rattle.lists.proofs.sums.GreatestOf.{le-greatest_of}
use Rattle.sheet.specs.Valuations.{item_value, value}
use Rattle.sheet.specs.Tables.{valuation_of}
use Rattle.sheet.specs.Contents.{sheet_of}
use Rattle.shares.specs.Shares.{share_of}
use Rattle.bundling.specs.Bundles.{bundle}
use Rattle.exact_division.specs.Exact.{is_exact, bundles_by, exact_exists}
use Rattle.exact_division.proofs.Existence.{exists-giving}

module _ (n : ℕ) (v : ℕ → ℕ → ℕ) where
  -- the most that an item is worth to one of the agents 1 .. n
  abbrev pub most : ℕ → ℕ
  most k = greatest_of (λ a. v a k) n

  -- whether the items, worth at most `rest`, can be given so that each agent gets what it lacks
  abbrev pub possible : List ℕ → ℕ → (ℕ → ℕ) → Bool
  possible [] rest lacks = all (λ a. leb (lacks a) 0) (range 1 n)
  possible (k ∷ items) rest lacks =
      let later = any (λ a. possible items (rest - most k) (λ b. cond (eqb b a) (lacks b - v b k) (lacks b))) (range 1 n) in
      cond (leb (sum_of lacks n) rest) later false

  -- what the agents' bundles are worth to them
  bundles-le-most : (items l : List ℕ) → sum_of (λ a. sum_over (v a) (bundle items l a)) n ≤ sum_over most items
  bundles-le-most [] l = omega (arith, sum_of-zero (λ a. 0) n (λ a. refl))
  bundles-le-most (k ∷ items) [] = omega (arith, sum_of-zero (λ a. 0) n (λ a. refl))
  bundles-le-most (k ∷ items) (c ∷ l) = omega (
    arith,
    sum_of-mono (λ a. sum_over (v a) (cons_if (eqb a c) k (bundle items l a))) (λ a. cond (eqb a c) (most k) 0 + sum_over (v a) (bundle items l a)) n
        (λ a lo hi. omega (arith, sum_over-cons_if (v a) (eqb a c) k (bundle items l a), at_most (eqb a c) a lo hi)),
    sum_of-add (λ a. cond (eqb a c) (most k) 0) (λ a. sum_over (v a) (bundle items l a)) n,
    sum_of-once c (most k) n,
    bundles-le-most items l,
  )
    where
      at_most : (t : Bool) (a : ℕ) → 1 ≤ a → a ≤ n → cond t (v a k) 0 ≤ cond t (most k) 0
      at_most true a lo hi = le-greatest_of (λ a. v a k) n a lo hi
      at_most false a lo hi = omega arith

  -- a list that gives each agent what it lacks is found
  pub given-possible : (items l : List ℕ) (rest : ℕ) (lacks : ℕ → ℕ) → sum_over most items ≤ rest → length l ≡ length items
      → ((c : ℕ) → Mem c l → Mem c (range 1 n)) → ((a : ℕ) → 1 ≤ a → a ≤ n → lacks a ≤ sum_over (v a) (bundle items l a)) → possible items rest lacks ≡ true
  given-possible [] l rest lacks fits same each enough =
      mem-all (λ a. leb (lacks a) 0) (range 1 n) (λ a ma. let b = range-bounds 1 n ma in le-leb (lacks a) 0 (enough a b.0 (omega arith)))
  given-possible (k ∷ items) [] rest lacks fits same each enough = absurd (omega arith)
  given-possible (k ∷ items) (c ∷ l) rest lacks fits same each enough =
      rw (le-leb (sum_of lacks n) rest (omega (arith, sum_of-mono lacks (λ a. sum_over (v a) (bundle (k ∷ items) (c ∷ l) a)) n enough, bundles-le-most (k ∷ items) (c ∷ l))))
      (mem-any (λ a. possible items (rest - most k) (λ b. cond (eqb b a) (lacks b - v b k) (lacks b))) (each c (here refl))
      (given-possible items l (rest - most k) (λ b. cond (eqb b c) (lacks b - v b k) (lacks b)) (omega arith) (omega arith) (λ d m. each d (there m))
      (λ b lo hi. left b (eqb b c) (enough b lo hi))))
    where
      left : (b : ℕ) (t : Bool) → lacks b ≤ sum_over (v b) (cons_if t k (bundle items l b)) → cond t (lacks b - v b k) (lacks b) ≤ sum_over (v b) (bundle items l b)
      left b true le = omega arith
      left b false le = le

-- what an item is worth to an agent
abbrev pub marks_of : List (List ℕ) → ℕ → ℕ → ℕ
marks_of table agent k = item_value (valuation_of table agent) k

module _ (n m : ℕ) (table : List (List ℕ)) (shares : ℕ → ℕ) (is_share : (agent : ℕ) → 1 ≤ agent → agent ≤ n → share_of (sheet_of n m table) agent ≡ shares agent) where
  pub impossible-none : possible n (marks_of table) (range 1 m) (sum_over (most n (marks_of table)) (range 1 m)) shares ≡ false → exact_exists (sheet_of n m table) ≡ false
  unfolding is_exact
  impossible-none impossible = step (exact_exists (sheet_of n m table)) refl
    where
      found : exact_exists (sheet_of n m table) ≡ true → possible n (marks_of table) (range 1 m) (sum_over (most n (marks_of table)) (range 1 m)) shares ≡ true
      found exists =
          let (agents, listed, exact) = exists-giving (sheet_of n m table) exists in
          let (each, places) = lists_over-in (range 1 n) m listed in
          given-possible n (marks_of table) (range 1 m) agents (sum_over (most n (marks_of table)) (range 1 m)) shares (omega arith) (places ∙ sym (length-range 1 m)) each
          (λ a lo hi.
          let ma = in-range 1 n a lo (omega arith) in
          let reached = leb-true (share_of (sheet_of n m table) a) (value (valuation_of table a) (nth [] (bundles_by n m agents) a)) (all-mem _ exact ma) in
          omega (arith, reached, is_share a lo hi, ap (value (valuation_of table a)) (nth-map-range (bundle (range 1 m) agents) [] n ma)))

      step : (b : Bool) → exact_exists (sheet_of n m table) ≡ b → exact_exists (sheet_of n m table) ≡ false
      step false e = e
      step true e = absurd (true≢false (sym (found e) ∙ impossible))
