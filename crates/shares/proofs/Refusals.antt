-- Which answer a table gets, by its three tests in turn: never a refusal where its counts are within the limits. Assumes nothing.
use mathlib.Core.Path.{◌≡◌, refl, ap, ◌∙◌}
use mathlib.Core.Bool.{Bool, true, false}
use mathlib.Core.Logic.{◌⊎◌, inl, inr}
use mathlib.Core.List.{List, map}
use Prim.Native.Nat.{ℕ, ◌*◌, ◌≤◌}
use native.Mathlib.Omega.{arith}
use lib.Dec.{leb}
use borrow.Author.Tests.{le-leb}
use Rattle.lists.specs.Sums.{total}
use Rattle.lists.proofs.members.Counting.{mem-all}
use Rattle.sheet.specs.Limits.{agents_allowed, items_allowed, CountsWithin}
use Rattle.sheet.specs.Answers.{NeverRefused, refused, accepted, require}
use Rattle.sheet.specs.Contents.{Contents, valuations_of}
use Rattle.sheet.proofs.Limits.{counts-within, counts-allowed}
use Rattle.sheet.proofs.Refusals.{never-accepted, never-require}
use Rattle.maximin.specs.Share.{maximin_share}
use Rattle.cut.specs.Outcome.{cutting_of}
use Rattle.maximin.proofs.Laws.{shares-le-total}
use Rattle.shares.specs.Shares.{shares_covered, sharing}

-- refusal 9 "cannot fire": n bundles sum to the total and each is at least the least
pub shares-covered : (n : ℕ) (valuations : List (List ℕ)) → 1 ≤ n → shares_covered n valuations ≡ true
unfolding shares_covered
shares-covered n valuations some = mem-all (λ values. leb (n * maximin_share n values) (total values)) valuations (λ values m. le-leb _ _ (shares-le-total n values some))

module _ (sheet : Contents) where
  pub sharing-agents-outside : agents_allowed sheet.agents ≡ false → sharing sheet ≡ refused 4
  unfolding sharing
  sharing-agents-outside out = rw out

  pub sharing-items-outside : agents_allowed sheet.agents ≡ true → items_allowed sheet.items ≡ false → sharing sheet ≡ refused 5
  unfolding sharing
  sharing-items-outside agents_within out = rw (agents_within, out)

  -- within the limits the shares decide
  pub sharing-counts-within : agents_allowed sheet.agents ≡ true → items_allowed sheet.items ≡ true
      → sharing sheet ≡ require 9 (shares_covered sheet.agents (valuations_of sheet)) (accepted (map (cutting_of sheet.agents) (valuations_of sheet)))
  unfolding sharing
  sharing-counts-within agents_within items_within = rw (agents_within, items_within)

  -- a table whose counts are within the limits is not refused
  pub sharing-within : CountsWithin sheet.agents sheet.items → sharing sheet ≡ accepted (map (cutting_of sheet.agents) (valuations_of sheet))
  sharing-within w =
      let allowed = counts-allowed sheet.agents sheet.items w in
      sharing-counts-within allowed.0 allowed.1
      ∙ ap (λ b. require 9 b (accepted (map (cutting_of sheet.agents) (valuations_of sheet)))) (shares-covered sheet.agents (valuations_of sheet) w.some)

  -- the counts are within the limits, or the table is refused with 4 or 5
  pub sharing-cases : CountsWithin sheet.agents sheet.items ⊎ ((number : ℕ) × (sharing sheet ≡ refused number))
  sharing-cases = step (agents_allowed sheet.agents) refl (items_allowed sheet.items) refl
    where
      step : (b : Bool) → agents_allowed sheet.agents ≡ b → (c : Bool) → items_allowed sheet.items ≡ c → CountsWithin sheet.agents sheet.items ⊎ ((number : ℕ) × (sharing sheet ≡ refused number))
      step false e c f = inr (4, sharing-agents-outside e)
      step true e false f = inr (5, sharing-items-outside e f)
      step true e true f = inl (counts-within sheet.agents sheet.items e f)

  -- its refusals are 4, 5 and 9, so that 14 is none of them
  pub sharing-refusals : (k : ℕ) → 10 ≤ k → NeverRefused k (sharing sheet)
  unfolding sharing
  sharing-refusals k above =
      never-require k 4 (agents_allowed sheet.agents) _ (λ e. omega arith)
      (never-require k 5 (items_allowed sheet.items) _ (λ e. omega arith)
      (never-require k 9 (shares_covered sheet.agents (valuations_of sheet)) _ (λ e. omega arith) (never-accepted k _)))
