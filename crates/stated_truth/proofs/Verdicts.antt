-- The answer on what a division states, by its tests in turn. Assumes nothing.
use mathlib.Core.Path.{◌≡◌}
use mathlib.Core.Bool.{true, false}
use Rattle.std.specs.Prelude.{Option}
use Prim.Native.Nat.{ℕ, ◌≤◌}
use native.Mathlib.Omega.{arith}
use Rattle.sheet.specs.Limits.{CountsWithin}
use Rattle.sheet.specs.Contents.{Contents}
use Rattle.sheet.specs.Answers.{NeverRefused, refused, accepted, require_some}
use Rattle.sheet.proofs.Refusals.{never-accepted, never-require, never-require_some, never-and_then}
use Rattle.shares.specs.Shares.{sharing}
use Rattle.shares.proofs.Refusals.{sharing-within, sharing-refusals}
use Rattle.terms.specs.declared.Terms.{Terms}
use Rattle.grades.specs.Scale.{margins_by_terms}
use Rattle.division_reading.specs.Stated.{Stated}
use Rattle.stated_truth.specs.Truth.{bundles_of, bundles_and_cuts, of_sheet, each_in_one, figures_true}
use Rattle.stated_truth.specs.Judging.{judging_by, judging_read}

module _ (sheet : Contents) (terms : Terms) (stated : Option Stated) where
  -- refused as the shares are
  pub judging-refused : (number : ℕ) → sharing sheet ≡ refused number → judging_by sheet terms stated ≡ refused number
  unfolding judging_by
  judging-refused number out = rw out

  -- within the limits there are shares
  pub judging-within : CountsWithin sheet.agents sheet.items → judging_by sheet terms stated ≡ require_some 11 stated (judging_read sheet terms)
  unfolding judging_by
  judging-within counts = rw (sharing-within sheet counts)

  -- judging has no allowance: its refusals are those of the shares, 11, 12 and 13, and never 14
  pub judging-refusals : (k : ℕ) → 14 ≤ k → NeverRefused k (judging_by sheet terms stated)
  unfolding judging_by
  judging-refusals k above =
      never-and_then k (sharing sheet) _ (sharing-refusals sheet k (omega arith)) (λ shares.
      never-require_some k 11 stated _ (λ e. omega arith) (λ d.
      never-require k 11 (bundles_and_cuts (of_sheet sheet.agents sheet.items) d) _ (λ e. omega arith)
      (never-require k 12 (bundles_and_cuts (each_in_one sheet.items) d) _ (λ e. omega arith)
      (never-require k 13 (figures_true sheet terms d) _ (λ e. omega arith) (never-accepted k _)))))

module _ (sheet : Contents) (terms : Terms) (d : Stated) where
  pub judged-off-sheet : bundles_and_cuts (of_sheet sheet.agents sheet.items) d ≡ false → judging_read sheet terms d ≡ refused 11
  judged-off-sheet out = rw out

  module _ (of-sheet : bundles_and_cuts (of_sheet sheet.agents sheet.items) d ≡ true) where
    pub judged-not-once : bundles_and_cuts (each_in_one sheet.items) d ≡ false → judging_read sheet terms d ≡ refused 12
    judged-not-once out = rw (of-sheet, out)

    module _ (once : bundles_and_cuts (each_in_one sheet.items) d ≡ true) where
      pub judged-false : figures_true sheet terms d ≡ false → judging_read sheet terms d ≡ refused 13
      judged-false out = rw (of-sheet, once, out)

      pub judged-true : figures_true sheet terms d ≡ true → judging_read sheet terms d ≡ accepted (margins_by_terms sheet terms (bundles_of d))
      judged-true correct = rw (of-sheet, once, correct)
