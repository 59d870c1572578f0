-- A grade is one of 1 to 5. It goes by the shares and the margins of the agents in use and by what they think of their bundles, and by nothing else. Assumes nothing.
use mathlib.Core.Path.{◌≡◌, ap}
use mathlib.Core.Bool.{Bool, true, false, cond}
use mathlib.Core.List.{List, [], Memᴰ as Mem}
use Prim.Native.Nat.{ℕ, ◌≤◌}
use native.Mathlib.Omega.{arith}
use lib.IntN.{ℤ, pos}
use lib.Signed.{non_neg}
use Rattle.lists.specs.Lists.{range, nth}
use Rattle.lists.proofs.members.Tests.{all-cong}
use Rattle.margins.specs.Margins.{none_negative}
use Rattle.grades.specs.Grade.{envy_free, proportional, maximin_fair, grade}

-- the number of the first of four tests that passes, or 5
abbrev pub first_passed : Bool → Bool → Bool → Bool → ℕ
first_passed a b c d = cond a 1 (cond b 2 (cond c 3 (cond d 4 5)))

pub first_passed-bounds : (a b c d : Bool) → (1 ≤ first_passed a b c d) × (first_passed a b c d ≤ 5)
first_passed-bounds true b c d = omega arith
first_passed-bounds false true c d = omega arith
first_passed-bounds false false true d = omega arith
first_passed-bounds false false false true = omega arith
first_passed-bounds false false false false = omega arith

-- a grade is 1, 2, 3, 4 or 5
pub grade-bounds : (n : ℕ) (rows : List (List ℕ)) (shares : List ℕ) (margins : List ℤ) (bundles : List (List ℕ))
    → (1 ≤ grade n rows shares margins bundles) × (grade n rows shares margins bundles ≤ 5)
unfolding grade
grade-bounds n rows shares margins bundles =
    first_passed-bounds (envy_free n rows bundles) (proportional n rows bundles) (maximin_fair n rows shares bundles) (none_negative n margins)

-- the bundles, the shares and the margins may be written otherwise, if each agent's are the same
module _ (n : ℕ) (rows : List (List ℕ)) (shares shares' : List ℕ) (margins margins' : List ℤ) (bundles bundles' : List (List ℕ))
    (same-shares : (i : ℕ) → Mem i (range 1 n) → nth 0 shares i ≡ nth 0 shares' i)
    (same-margins : (i : ℕ) → Mem i (range 1 n) → nth (pos 0) margins i ≡ nth (pos 0) margins' i)
    (same-bundles : (i : ℕ) → Mem i (range 1 n) → nth [] bundles i ≡ nth [] bundles' i) where
  envy_free-cong : envy_free n rows bundles ≡ envy_free n rows bundles'
  unfolding envy_free
  envy_free-cong = all-cong _ _ (range 1 n) (λ i mi. all-cong _ _ (range 1 n) (λ j mj. rw (same-bundles j mj, same-bundles i mi)))

  proportional-cong : proportional n rows bundles ≡ proportional n rows bundles'
  unfolding proportional
  proportional-cong = all-cong _ _ (range 1 n) (λ i mi. rw (same-bundles i mi))

  maximin_fair-cong : maximin_fair n rows shares bundles ≡ maximin_fair n rows shares' bundles'
  unfolding maximin_fair
  maximin_fair-cong = all-cong _ _ (range 1 n) (λ i mi. rw (same-shares i mi, same-bundles i mi))

  none_negative-cong : none_negative n margins ≡ none_negative n margins'
  none_negative-cong = all-cong _ _ (range 1 n) (λ i mi. ap non_neg (same-margins i mi))

  pub grade-cong : grade n rows shares margins bundles ≡ grade n rows shares' margins' bundles'
  unfolding grade
  grade-cong = rw (envy_free-cong, proportional-cong, maximin_fair-cong, none_negative-cong)
