-- The terms that pass the test are just the allowed ones; those of document 01 are allowed, and no allowed terms promise more than the whole
-- share. Assumes nothing.
use mathlib.Core.Path.{◌≡◌}
use mathlib.Core.Bool.{true, ◌&&◌, and-eq-true_iff}
use mathlib.Core.Logic.{◌↔◌}
use Prim.Native.Nat.{ℕ, ◌*◌, ◌≤◌}
use native.Mathlib.Nat.{mul_comm, mul-le-mul_right, le_of_mul-le-mul_left}
use native.Mathlib.Omega.{arith}
use lib.Dec.{leb}
use borrow.Author.Tests.{leb-true, le-leb}
use Rattle.sheet.specs.Limits.{most_agents, greatest_term, within}
use Rattle.sheet.proofs.Limits.{within-bounds, within_both}
use Rattle.terms.specs.Terms.{terms_for}
use Rattle.terms.specs.Allowed.{terms_allowed, AtMostStandard, SmallTerms, AllowedTerms}
use Rattle.terms.specs.declared.Terms.{Terms}
use Rattle.terms.proofs.TermsFor.{top-le-bottom, top_small, bottom-small, bottom-positive}

-- document 01's terms promise what they promise, for any number of agents, and within the limits they are allowed
pub terms_for-at-most-standard : (n : ℕ) → AtMostStandard n (terms_for n)
terms_for-at-most-standard n = record { positive = bottom-positive n; lower = omega arith }

pub terms_for-small : (n : ℕ) → n ≤ most_agents → SmallTerms (terms_for n)
terms_for-small n few = record { small_top = omega (arith, top_small n few); small_bottom = omega (arith, bottom-small n few) }

pub terms_for-allowed : (n : ℕ) → n ≤ most_agents → AllowedTerms n (terms_for n)
terms_for-allowed n few = record { small = terms_for-small n few; at_most_standard = terms_for-at-most-standard n }

-- no more than the whole share is promised
pub at-most-whole : {n : ℕ} {terms : Terms} → AtMostStandard n terms → terms.top ≤ terms.bottom
at-most-whole {n} {terms} a =
    let whole = mul-le-mul_right terms.bottom (top-le-bottom n) in
    let scaled : (terms_for n).bottom * terms.top ≤ (terms_for n).bottom * terms.bottom = omega (arith, a.lower, mul_comm terms.top (terms_for n).bottom, whole) in
    le_of_mul-le-mul_left scaled (bottom-positive n)

-- the test passes exactly the allowed terms
pub terms_allowed-iff : (n : ℕ) (terms : Terms) → (terms_allowed n terms ≡ true) ↔ AllowedTerms n terms
unfolding terms_allowed
terms_allowed-iff n terms = (passed, allowed)
  where
    passed : terms_allowed n terms ≡ true → AllowedTerms n terms
    passed passes =
        let small = leb terms.top greatest_term in
        let ranged = within greatest_term terms.bottom in
        let lower = leb (terms.top * (terms_for n).bottom) ((terms_for n).top * terms.bottom) in
        let (in-range, is-lower) = (and-eq-true_iff (small && ranged) lower).0 passes in
        let (is-small, is-ranged) = (and-eq-true_iff small ranged).0 in-range in
        let (some, few) = within-bounds greatest_term terms.bottom is-ranged in
        record {
          small = record { small_top = leb-true terms.top greatest_term is-small; small_bottom = few };
          at_most_standard = record { positive = some; lower = leb-true (terms.top * (terms_for n).bottom) ((terms_for n).top * terms.bottom) is-lower };
        }

    allowed : AllowedTerms n terms → terms_allowed n terms ≡ true
    allowed a =
        rw (
          le-leb terms.top greatest_term a.small.small_top,
          within_both greatest_term terms.bottom a.at_most_standard.positive a.small.small_bottom,
          le-leb (terms.top * (terms_for n).bottom) ((terms_for n).top * terms.bottom) a.at_most_standard.lower,
        )
