-- What the allowance decides: where the growth partitions of all items do not outnumber it a table gets the answer that it has without
-- an allowance, and else, within the limits, refusal 14. Assumes nothing.
use mathlib.Core.Path.{◌≡◌, sym, ap, ◌∙◌}
use mathlib.Core.Logic.{◌⊎◌, inl, inr, ⊎_elim}
use Prim.Native.Nat.{ℕ, ◌≤◌, ◌<◌}
use native.Mathlib.Omega.{arith}
use borrow.Author.Tests.{le-leb, lt-leb}
use Rattle.lists.proofs.Cases.{lt-or-ge}
use Rattle.sheet.specs.Limits.{CountsWithin}
use Rattle.sheet.specs.Contents.{Contents}
use Rattle.sheet.specs.Answers.{refused, accepted, require, and_then}
use Rattle.sheet.proofs.Accepted.{and_then-accepted}
use Rattle.growth.specs.Growth.{growths}
use Rattle.growth.proofs.Growths.{most_growths, growths-le-most}
use Rattle.shares.specs.Shares.{sharing, sharing_within, standard_allowance}
use Rattle.shares.proofs.Refusals.{sharing-within, sharing-cases}

module _ (sheet : Contents) (allowance : ℕ) where
  -- 4, 5 and 9 are tried before 14
  pub sharing_within-refused : (number : ℕ) → sharing sheet ≡ refused number → sharing_within sheet allowance ≡ refused number
  unfolding sharing_within
  sharing_within-refused number e = rw e

  -- the allowance is enough
  pub sharing_within-enough : growths sheet.agents sheet.items ≤ allowance → sharing_within sheet allowance ≡ sharing sheet
  unfolding sharing_within
  sharing_within-enough enough =
      ap (λ b. and_then (sharing sheet) (λ cuttings. require 14 b (accepted cuttings))) (le-leb (growths sheet.agents sheet.items) allowance enough)
      ∙ and_then-accepted (sharing sheet)

  -- "when the growth layouts of all pieces into N piles outnumber A"
  pub sharing_within-short : CountsWithin sheet.agents sheet.items → allowance < growths sheet.agents sheet.items → sharing_within sheet allowance ≡ refused 14
  unfolding sharing_within
  sharing_within-short w short = rw (sharing-within sheet w, lt-leb (growths sheet.agents sheet.items) allowance short)

  -- an allowance of the most growth partitions that a table has is enough for every table
  pub sharing_within-most : most_growths ≤ allowance → sharing_within sheet allowance ≡ sharing sheet
  sharing_within-most most =
      ⊎_elim
      (λ w. sharing_within-enough (omega (arith, most, growths-le-most sheet.agents sheet.items w.some w.few w.few_items)))
      (λ (r : (number : ℕ) × (sharing sheet ≡ refused number)). sharing_within-refused r.0 r.1 ∙ sym r.1)
      (sharing-cases sheet)

  -- the counts are within the limits and the allowance is enough, or the table is refused
  pub sharing_within-cases : (CountsWithin sheet.agents sheet.items × (growths sheet.agents sheet.items ≤ allowance)) ⊎ ((number : ℕ) × (sharing_within sheet allowance ≡ refused number))
  sharing_within-cases =
      ⊎_elim
      (λ w. ⊎_elim (λ short. inr (14, sharing_within-short w short)) (λ enough. inl (w, enough)) (lt-or-ge allowance (growths sheet.agents sheet.items)))
      (λ r. inr (r.0, sharing_within-refused r.0 r.1))
      (sharing-cases sheet)

-- "The dividing program allows 4,000,000, so no sheet is lost" (document 02, order 7): that is enough for every table within the limits
pub standard_allowance-enough : (n m : ℕ) → CountsWithin n m → growths n m ≤ standard_allowance
standard_allowance-enough n m w =
    let most : most_growths ≤ standard_allowance = omega arith in
    omega (arith, most, growths-le-most n m w.some w.few w.few_items)
