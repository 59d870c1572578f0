-- Which answer the search gives: whether there is an exact division, or a refusal; never a refusal where the counts are within the limits.
-- Assumes nothing.
use mathlib.Core.Path.{◌≡◌, sym, ◌∙◌}
use mathlib.Core.Bool.{Bool}
use mathlib.Core.Logic.{◌⊎◌, inl, inr, ⊎_elim}
use Prim.Native.Nat.{ℕ, ◌≤◌}
use Rattle.sheet.specs.Limits.{CountsWithin}
use Rattle.sheet.specs.Answers.{NeverRefused, refused, accepted}
use Rattle.sheet.specs.Contents.{Contents}
use Rattle.sheet.proofs.Accepted.{refused-not-accepted}
use Rattle.sheet.proofs.Refusals.{never-accepted, never-and_then}
use Rattle.shares.specs.Shares.{sharing}
use Rattle.shares.proofs.Refusals.{sharing-within, sharing-cases, sharing-refusals}
use Rattle.exact_division.specs.Exact.{exact_exists}
use Rattle.exact_division.specs.Search.{searching}

module _ (sheet : Contents) where
  -- where the counts are within the limits, the answer is whether there is an exact division
  pub searching-within-limits : CountsWithin sheet.agents sheet.items → searching sheet ≡ accepted (exact_exists sheet)
  unfolding searching
  searching-within-limits w = rw (sharing-within sheet w)

  -- where the shares are refused, so is the search
  pub searching-refused : (number : ℕ) → sharing sheet ≡ refused number → searching sheet ≡ refused number
  unfolding searching
  searching-refused number e = rw e

  pub searching-cases : ((searching sheet ≡ accepted (exact_exists sheet)) × CountsWithin sheet.agents sheet.items) ⊎ ((number : ℕ) × (searching sheet ≡ refused number))
  searching-cases = ⊎_elim (λ w. inl (searching-within-limits w, w)) (λ r. inr (r.0, searching-refused r.0 r.1)) (sharing-cases sheet)

  -- what is answered is whether there is one
  pub searching-accepted : (exists : Bool) → searching sheet ≡ accepted exists → (exact_exists sheet ≡ exists) × CountsWithin sheet.agents sheet.items
  searching-accepted exists is = ⊎_elim (λ c. (same c.0, c.1)) (λ r. absurd (refused-not-accepted exists r.0 (sym r.1 ∙ is))) searching-cases
    where
      same : searching sheet ≡ accepted (exact_exists sheet) → exact_exists sheet ≡ exists
      same e = cc

  -- the search has no allowance: it refuses as the shares are refused, and never with 14
  pub searching-refusals : (k : ℕ) → 10 ≤ k → NeverRefused k (searching sheet)
  unfolding searching
  searching-refusals k above = never-and_then k (sharing sheet) _ (sharing-refusals sheet k above) (λ _. never-accepted k _)
