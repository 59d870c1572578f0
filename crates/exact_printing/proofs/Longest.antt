-- No sheet is refused for a buffer of `longest_exact` bytes: the text for it is no longer. Assumes nothing.
use mathlib.Core.Path.{◌≡◌, refl, ap, ◌∙◌}
use mathlib.Core.Bool.{Bool, true, false}
use mathlib.Core.List.{List}
use Prim.Native.Nat.{ℕ, ◌≤◌}
use native.Mathlib.Omega.{arith}
use lib.ListN.{length}
use borrow.Author.Tests.{le-leb}
use Rattle.sheet.specs.Limits.{CountsWithin}
use Rattle.sheet.specs.Answers.{Answer, refused, accepted, and_then}
use Rattle.sheet.specs.Contents.{Contents}
use Rattle.writing.specs.Filled.{filling}
use Rattle.exact_division.specs.Exact.{exact_exists}
use Rattle.exact_division.specs.Search.{searching, MayShow}
use Rattle.exact_division.proofs.Answers.{searching-accepted, searching-within-limits}
use Rattle.exact_printing.specs.ExactText.{exact_text}
use Rattle.exact_printing.specs.Printing.{printing_exact, longest_exact}
use Rattle.exact_printing.proofs.Texts.{length-exact_text}

module _ (sheet : Contents) (bundles : List (List ℕ)) (shown : MayShow sheet bundles) where
  -- the text that a search answers, found or none
  text-short : (exists : Bool) → searching sheet ≡ accepted exists → length (exact_text exists bundles) ≤ longest_exact
  unfolding exact_text
  text-short false e = omega arith
  text-short true e = let w = (searching-accepted sheet true e).1 in length-exact_text sheet bundles (shown e) w.few_items w.few

  module _ (room : ℕ) (enough : longest_exact ≤ room) where
    -- a buffer of `longest_exact` bytes or more is never refused with 10
    pub printing_exact-not-short : printing_exact sheet bundles room ≡ and_then (searching sheet) (λ exists. accepted (exact_text exists bundles))
    unfolding printing_exact
    printing_exact-not-short = step (searching sheet) refl
      where
        step : (a : Answer Bool) → searching sheet ≡ a
            → and_then a (λ exists. filling room (exact_text exists bundles)) ≡ and_then a (λ exists. accepted (exact_text exists bundles))
        step (refused number) e = refl
        step (accepted exists) e = rw (le-leb (length (exact_text exists bundles)) room (omega (arith, text-short exists e)))

    -- every sheet within the limits gets its text
    pub printing_exact-within-limits : CountsWithin sheet.agents sheet.items → printing_exact sheet bundles room ≡ accepted (exact_text (exact_exists sheet) bundles)
    printing_exact-within-limits w =
        printing_exact-not-short ∙ ap (λ a. and_then a (λ exists. accepted (exact_text exists bundles))) (searching-within-limits sheet w)
