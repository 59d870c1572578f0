-- The margins and the grade from the amounts that the code compares are those of the definition. Assumes nothing.
use mathlib.Core.Path.{◌≡◌, refl, sym, ap₂, ◌∙◌}
use mathlib.Core.List.{List, map, Memᴰ as Mem}
use Prim.Native.Nat.{ℕ, ◌-◌, min}
use native.Mathlib.Omega.{arith}
use lib.IntN.{ℤ, pos}
use lib.ListN.{get_or, get_or-map}
use Rattle.lists.specs.Lists.{range, nth, padded}
use Rattle.lists.proofs.ranges.Ranges.{nth-map-range}
use Rattle.lists.proofs.places.Places.{nth-padded-range}
use Rattle.lists.proofs.sums.Totals.{map-cong}
use Rattle.sheet.specs.Limits.{most_agents, greatest_sum}
use Rattle.sheet.specs.Amounts.{SmallAmounts}
use Rattle.terms.specs.declared.Terms.{Terms}
use Rattle.margins.specs.Margins.{margin, margins_of, limited_terms, limited_margin}
use Rattle.grades.specs.Grade.{own_values, grade}
use Rattle.grades.proofs.Grades.{grade-cong}
use Rattle.grade_amounts.specs.Compared.{own_value, compared}
use Rattle.grade_amounts.specs.declared.Compared.{Compared}
use Rattle.grade_amounts.proofs.Tests.{envy_free-compared, proportional-compared, maximin_fair-compared}
use Rattle.grading.specs.internal.ByAmounts.{grade_by_amounts}

module _ (n : ℕ) (valuations bundles : List (List ℕ)) (shares : List ℕ) where
  -- the worths in six places
  abbrev worths : List ℕ
  worths = padded most_agents 0 (own_values n valuations bundles)

  -- no worth is so great that it would be cut
  pub margins-by-amounts : (terms : Terms) → SmallAmounts worths
      → map (λ i. limited_margin terms (nth 0 worths i) (nth 0 shares i)) (range 1 n)
      ≡ margins_of n (limited_terms terms) (own_values n valuations bundles) (map (λ share. min share greatest_sum) shares)
  margins-by-amounts terms small =
      map-cong _ _ (range 1 n)
      (λ i mi. ap₂ (margin (limited_terms terms)) (worth-not-cut i mi) (sym (get_or-map (λ share. min share greatest_sum) shares (i - 1) 0)))
    where
      worth-not-cut : (i : ℕ) → Mem i (range 1 n) → min (nth 0 worths i) greatest_sum ≡ nth 0 (own_values n valuations bundles) i
      worth-not-cut i mi =
          let kept : min (get_or worths (i - 1) 0) greatest_sum ≡ get_or worths (i - 1) 0 = omega (arith, small (i - 1)) in
          kept
          ∙ nth-padded-range most_agents 0 0 (own_value n valuations bundles) n mi
          ∙ sym (nth-map-range (own_value n valuations bundles) 0 n mi)

  grade-compared : (margins : List ℤ) → grade_by_amounts n (compared n valuations bundles) shares margins ≡ grade n valuations shares margins bundles
  unfolding grade_by_amounts grade
  grade-compared margins =
      rw (envy_free-compared n valuations bundles, proportional-compared n valuations bundles, maximin_fair-compared n valuations bundles shares)

  -- with the margins in six places
  pub grade-by-amounts : {amounts : Compared} {margins : List ℤ} (own : ℕ → ℤ) → amounts ≡ compared n valuations bundles → margins ≡ padded most_agents (pos 0) (map own (range 1 n))
      → grade_by_amounts n amounts shares margins ≡ grade n valuations shares (map own (range 1 n)) bundles
  grade-by-amounts own same-amounts same-margins =
      let placed : List ℤ = padded most_agents (pos 0) (map own (range 1 n)) in
      ap₂ (λ a m. grade_by_amounts n a shares m) same-amounts same-margins
      ∙ grade-compared placed
      ∙ grade-cong n valuations shares shares placed (map own (range 1 n)) bundles bundles
      (λ i mi. refl)
      (λ i mi. nth-padded-range most_agents (pos 0) (pos 0) own n mi ∙ sym (nth-map-range own (pos 0) n mi))
      (λ i mi. refl)
