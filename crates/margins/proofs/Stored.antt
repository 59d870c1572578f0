-- Terms with small numbers are not cut. Assumes nothing.
use mathlib.Core.Path.{◌≡◌}
use Prim.Native.Nat.{min}
use native.Mathlib.Omega.{arith}
use Rattle.sheet.specs.Limits.{greatest_term}
use Rattle.terms.specs.Allowed.{SmallTerms}
use Rattle.terms.specs.declared.Terms.{Terms}
use Rattle.margins.specs.Margins.{limited_terms}

pub limited_terms-small : (terms : Terms) → SmallTerms terms → limited_terms terms ≡ terms
limited_terms-small terms small =
    let top : min terms.top greatest_term ≡ terms.top = omega (arith, small.small_top) in
    let bottom : min terms.bottom greatest_term ≡ terms.bottom = omega (arith, small.small_bottom) in
    rw (top, bottom)
