-- Which answer a table gets: a division by the rounds, or a refusal; where the counts are within the limits the allowance decides, by
-- refusal 14, and nothing else hangs on it. Assumes nothing.
use mathlib.Core.Path.{◌≡◌, sym, ◌∙◌}
use mathlib.Core.Logic.{◌⊎◌, inl, inr, ⊎_elim, ◌↔◌}
use Prim.Native.Nat.{ℕ, ◌≤◌, ◌<◌}
use native.Mathlib.Omega.{arith}
use Rattle.lists.proofs.Cases.{lt-or-ge}
use Rattle.sheet.specs.Limits.{CountsWithin}
use Rattle.sheet.specs.Contents.{Contents}
use Rattle.sheet.specs.Answers.{refused, accepted}
use Rattle.sheet.proofs.Accepted.{refused-not-accepted}
use Rattle.growth.specs.Growth.{growths}
use Rattle.growth.proofs.Growths.{most_growths, growths-le-most}
use Rattle.shares.specs.Shares.{sharing_within}
use Rattle.shares.proofs.Refusals.{sharing-within}
use Rattle.shares.proofs.Allowance.{sharing_within-enough, sharing_within-short, sharing_within-cases}
use Rattle.rounds.specs.Division.{Division, division_by_rounds, answer}

module _ (sheet : Contents) (allowance : ℕ) where
  -- "all other tables within the limits are divided": by the rounds, where the growth partitions of all items do not outnumber the allowance
  pub answer-within-limits : CountsWithin sheet.agents sheet.items → growths sheet.agents sheet.items ≤ allowance → answer sheet allowance ≡ accepted (division_by_rounds sheet)
  unfolding answer
  answer-within-limits w enough = rw (sharing_within-enough sheet allowance enough, sharing-within sheet w)

  -- where its shares are refused, so is its division
  pub answer-refused : (number : ℕ) → sharing_within sheet allowance ≡ refused number → answer sheet allowance ≡ refused number
  unfolding answer
  answer-refused number e = rw e

  -- a table is divided by the rounds, and then its counts are within the limits and the allowance is enough, or it is refused
  pub answer-cases : ((answer sheet allowance ≡ accepted (division_by_rounds sheet)) × CountsWithin sheet.agents sheet.items × (growths sheet.agents sheet.items ≤ allowance))
      ⊎ ((number : ℕ) × (answer sheet allowance ≡ refused number))
  answer-cases =
      ⊎_elim
      (λ w. inl (answer-within-limits w.0 w.1, w.0, w.1))
      (λ r. inr (r.0, answer-refused r.0 r.1))
      (sharing_within-cases sheet allowance)

  -- a division that is answered is the one by the rounds
  pub answer-accepted : (d : Division) → answer sheet allowance ≡ accepted d → (d ≡ division_by_rounds sheet) × CountsWithin sheet.agents sheet.items × (growths sheet.agents sheet.items ≤ allowance)
  answer-accepted d divided = ⊎_elim (λ c. (same c.0, c.1, c.2)) (λ r. absurd (refused-not-accepted d r.0 (sym r.1 ∙ divided))) answer-cases
    where
      same : answer sheet allowance ≡ accepted (division_by_rounds sheet) → d ≡ division_by_rounds sheet
      same is = cc

  -- 14 "by the division when the growth layouts of all pieces into N piles outnumber A", and for no other reason
  pub answer-refused-14 : CountsWithin sheet.agents sheet.items → (answer sheet allowance ≡ refused 14) ↔ (allowance < growths sheet.agents sheet.items)
  answer-refused-14 w = (short, λ less. answer-refused 14 (sharing_within-short sheet allowance w less))
    where
      short : answer sheet allowance ≡ refused 14 → allowance < growths sheet.agents sheet.items
      short is =
          ⊎_elim
          (λ less. less)
          (λ enough. absurd (refused-not-accepted (division_by_rounds sheet) 14 (sym is ∙ answer-within-limits w enough)))
          (lt-or-ge allowance (growths sheet.agents sheet.items))

  -- "so no sheet is lost": an allowance of at least 3,403,127, as 4,000,000 is, is enough for every table within the limits
  pub answer-with-most : most_growths ≤ allowance → CountsWithin sheet.agents sheet.items → answer sheet allowance ≡ accepted (division_by_rounds sheet)
  answer-with-most most w = answer-within-limits w (omega (arith, most, growths-le-most sheet.agents sheet.items w.some w.few w.few_items))

-- the division does not depend on the allowance: with every allowance that is enough the answer is the same
pub same-answer-with-any-allowance : (sheet : Contents) (allowance allowance' : ℕ) → growths sheet.agents sheet.items ≤ allowance → growths sheet.agents sheet.items ≤ allowance'
    → answer sheet allowance ≡ answer sheet allowance'
unfolding answer
same-answer-with-any-allowance sheet allowance allowance' enough enough' =
    rw (sharing_within-enough sheet allowance enough, sharing_within-enough sheet allowance' enough')
