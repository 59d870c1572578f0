-- The table of counts, row after row. Assumes nothing.
use mathlib.Core.Path.{◌≡◌, sym, ap, ap₂, ◌∙◌}
use mathlib.Core.Logic.{⊎_elim}
use mathlib.Core.List.{[], ◌∷◌, ◌++◌, map}
use Prim.Native.Nat.{ℕ, suc, ◌+◌, ◌-◌, ◌*◌, ◌≤◌, ◌<◌}
use native.Mathlib.Nat.{pow-le-pow_right, add-zero, mul-zero}
use native.Mathlib.Numerals.{add-one}
use native.Mathlib.Omega.{arith}
use lib.ListN.{length, get_or, length-map}
use lib.Seq.{get_or-append-add}
use Rattle.lists.specs.Lists.{range, zeros, nth, padded}
use Rattle.lists.proofs.Cases.{lt-or-ge}
use Rattle.lists.proofs.ranges.Ranges.{in-range, length-range, map-nth-range}
use Rattle.lists.proofs.places.Padding.{length-padded}
use Rattle.lists.proofs.places.Places.{nth-next, nth-padded-range}
use Rattle.lists.proofs.places.Zeros.{get_d-zeros}
use Rattle.lists.proofs.sums.Totals.{map-cong}
use Rattle.sheet.specs.Limits.{most_agents, most_items}
use Rattle.growth.specs.Growth.{growth_from}
use Rattle.growth.specs.Counts.{growth_count, used_places, count_row, count_table}
use Rattle.growth.specs.internal.Rows.{one_more, next_row, NextFits}
use Rattle.growth.proofs.Counted.{growth_count-below, growth_count-full, length-growth_from, growth_count-le-pow}

-- place i, where f fills the places 0 .. n
pub get_d-filled : {A : Type 0} (places : ℕ) (d e : A) (f : ℕ → A) (n i : ℕ) → i ≤ n → get_or (padded places d (map (λ c. f (c - 1)) (range 1 (n + 1)))) i e ≡ f i
get_d-filled places d e f n i le =
    sym (nth-next e (padded places d (map (λ c. f (c - 1)) (range 1 (n + 1)))) i)
    ∙ nth-padded-range places d e (λ c. f (c - 1)) (n + 1) (in-range 1 (n + 1) (i + 1) (omega arith) (omega arith))
    ∙ ap f (omega arith)

module _ (n k : ℕ) where
  -- what a row says for so many bundles in use
  pub get_d-count_row : (used : ℕ) → used ≤ n → get_or (count_row n k) used 0 ≡ growth_count n used k
  unfolding count_row
  get_d-count_row = get_d-filled used_places 0 0 (λ used. growth_count n used k) n

  -- the other places are blank
  get_d-count_row-blank : (used : ℕ) → n < used → get_or (count_row n k) used 0 ≡ 0
  unfolding count_row
  get_d-count_row-blank used above =
      let row = map (λ c. growth_count n (c - 1) k) (range 1 (n + 1)) in
      let places : used ≡ length row + (used - (n + 1)) = omega (arith, length-map (range 1 (n + 1)) (λ c. growth_count n (c - 1) k), length-range 1 (n + 1)) in
      ap (λ i. get_or (padded used_places 0 row) i 0) places
      ∙ get_or-append-add row (zeros (used_places - length row)) (used - (n + 1)) 0
      ∙ get_d-zeros (used_places - length row) (used - (n + 1))

  length-count_row : n ≤ most_agents → length (count_row n k) ≡ used_places
  unfolding count_row
  length-count_row few =
      let row = map (λ c. growth_count n (c - 1) k) (range 1 (n + 1)) in
      length-padded used_places 0 row (omega (arith, length-map (range 1 (n + 1)) (λ c. growth_count n (c - 1) k), length-range 1 (n + 1)))

module _ (n k : ℕ) where
  one_more-counts : (used : ℕ) → used ≤ n → one_more (count_row n k) used ≡ growth_count n used (suc k)
  one_more-counts used le =
      ⊎_elim
      (λ (lt : used < n).
      let new : get_or (count_row n k) (used + 1) 0 ≡ growth_count n (suc used) k = get_d-count_row n k (used + 1) (omega arith) ∙ ap (λ u. growth_count n u k) (add-one used) in
      ap₂ (λ same opened. used * same + opened) (get_d-count_row n k used le) new ∙ sym (growth_count-below n used k lt))
      (λ (ge : n ≤ used).
      ap₂ (λ same opened. used * same + opened) (get_d-count_row n k used le) (get_d-count_row-blank n k (used + 1) (omega arith)) ∙ add-zero _ ∙ sym (growth_count-full n used k ge))
      (lt-or-ge used n)

  -- each place of the next row
  one_more-next : (used : ℕ) → one_more (count_row n k) used ≡ get_or (count_row n (suc k)) used 0
  one_more-next used =
      ⊎_elim
      (λ (above : n < used).
      ap₂ (λ same opened. used * same + opened) (get_d-count_row-blank n k used above) (get_d-count_row-blank n k (used + 1) (omega arith))
      ∙ omega (arith, mul-zero used)
      ∙ sym (get_d-count_row-blank n (suc k) used above))
      (λ le. one_more-counts used le ∙ sym (get_d-count_row n (suc k) used le))
      (lt-or-ge n used)

  -- the numbers of the next row have 32 bits: 6 ^ 12 has
  pub next_fits : n ≤ most_agents → k < most_items → NextFits (count_row n k)
  next_fits few more used le =
      let left : suc k ≤ most_items = omega arith in
      ⊎_elim
      (λ (above : n < used). omega (arith, one_more-next used, get_d-count_row-blank n (suc k) used above))
      (λ in_use. omega (
        arith,
        one_more-counts used in_use,
        growth_count-le-pow n most_agents used (suc k) few le,
        pow-le-pow_right {n = most_agents} (omega arith) left,
      ))
      (lt-or-ge n used)

  pub next_row-count_row : n ≤ most_agents → next_row (count_row n k) ≡ count_row n (suc k)
  unfolding next_row
  next_row-count_row few =
      let next = count_row n (suc k) in
      ap (padded used_places 0)
      (map-cong (λ c. one_more (count_row n k) (c - 1)) (nth 0 next) (range 1 (most_agents + 1)) (λ c m. one_more-next (c - 1)))
      ∙ ap (λ last. map (nth 0 next) (range 1 (most_agents + 1)) ++ (last ∷ [])) (sym (get_d-count_row-blank n (suc k) (most_agents + 1) (omega arith)))
      ∙ map-nth-range 0 next used_places (length-count_row n (suc k) few)

-- what the table says for so many items more and so many bundles in use
pub count_table-counts : (n m left used : ℕ) → left ≤ m → used ≤ n → get_or (get_or (count_table n m) left []) used 0 ≡ length (growth_from n used left)
unfolding count_table
count_table-counts n m left used few le =
    ap (λ row. get_or row used 0) (get_d-filled (most_items + 1) (zeros used_places) [] (count_row n) m left few)
    ∙ get_d-count_row n left used le
    ∙ sym (length-growth_from n used left le)
