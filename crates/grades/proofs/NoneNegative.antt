-- No margin is below zero exactly where each bundle is worth the part of the share that is promised. Assumes nothing.
use mathlib.Core.Path.{◌≡◌, ap, ◌∙◌}
use mathlib.Core.List.{List}
use Prim.Native.Nat.{ℕ, ◌*◌}
use lib.Dec.{leb}
use lib.IntN.{pos}
use lib.Signed.{non_neg}
use Rattle.lists.specs.Lists.{range, nth, all}
use Rattle.lists.proofs.ranges.Ranges.{nth-map-range}
use Rattle.lists.proofs.members.Tests.{all-cong}
use Rattle.terms.specs.declared.Terms.{Terms}
use Rattle.margins.specs.Margins.{margin, margins_of, none_negative}
use Rattle.margins.proofs.Signs.{non_neg-margin}
use Rattle.grades.specs.Grade.{own_values, value_to}

module _ (n : ℕ) (terms : Terms) (valuations bundles : List (List ℕ)) (shares : List ℕ) where
  -- by the value of each agent's own bundle
  pub none_negative-own : none_negative n (margins_of n terms (own_values n valuations bundles) shares)
      ≡ all (λ i. leb (terms.top * nth 0 shares i) (terms.bottom * value_to valuations bundles i i)) (range 1 n)
  none_negative-own =
      let own : ℕ → ℕ = λ i. value_to valuations bundles i i in
      all-cong _ _ (range 1 n)
      (λ i mi.
      ap non_neg (nth-map-range (λ i. margin terms (nth 0 (own_values n valuations bundles) i) (nth 0 shares i)) (pos 0) n mi)
      ∙ non_neg-margin terms (nth 0 (own_values n valuations bundles) i) (nth 0 shares i)
      ∙ ap (λ worth. leb (terms.top * nth 0 shares i) (terms.bottom * worth)) (nth-map-range own 0 n mi))
