-- Which terms are allowed: those that promise no more than document 01 does (document 02, order 11). Assumes nothing: these are definitions.
use Rattle.std.specs.Prelude.{Bool, ◌&&◌, ℕ, ◌*◌, ◌≤◌, leb}
use Rattle.sheet.specs.Limits.{greatest_term, within}
use Rattle.terms.specs.Terms.{terms_for}
use Rattle.terms.specs.declared.Terms.{Terms}

-- whether the numbers are "from 0 to 999" and "from 1 to 999", and the ratio is not "greater than that of document 01 for N"
unfoldable pub terms_allowed : ℕ → Terms → Bool
terms_allowed n terms =
    leb terms.top greatest_term
    && within greatest_term terms.bottom
    && leb (terms.top * (terms_for n).bottom) ((terms_for n).top * terms.bottom)

-- terms that promise no more than document 01 does for n agents
pub record AtMostStandard (n : ℕ) (terms : Terms) : Type 0 where
  pub positive : 1 ≤ terms.bottom
  pub lower : terms.top * (terms_for n).bottom ≤ (terms_for n).top * terms.bottom

-- terms whose numbers are not above the greatest
pub record SmallTerms (terms : Terms) : Type 0 where
  pub small_top : terms.top ≤ greatest_term
  pub small_bottom : terms.bottom ≤ greatest_term

-- "allowed terms" for n agents
pub record AllowedTerms (n : ℕ) (terms : Terms) : Type 0 where
  pub small : SmallTerms terms
  pub at_most_standard : AtMostStandard n terms
