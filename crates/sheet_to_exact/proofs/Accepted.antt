-- Every accepted text gets its answer in a buffer that is long enough for every exact division. Assumes nothing.
use mathlib.Core.Path.{◌≡◌, ap, ◌∙◌}
use mathlib.Core.List.{List}
use Prim.Native.Nat.{ℕ, ◌≤◌}
use Rattle.sheet.specs.Answers.{accepted, and_then}
use Rattle.sheet.specs.Contents.{Contents}
use Rattle.reading.specs.Reading.{reading}
use Rattle.reading.proofs.Accepted.{accepted-counts}
use Rattle.exact_division.specs.Exact.{exact_exists}
use Rattle.exact_printing.specs.ExactText.{exact_text}
use Rattle.exact_printing.specs.Printing.{longest_exact, printing_exact}
use Rattle.exact_printing.proofs.Longest.{printing_exact-within-limits}
use Rattle.sheet_to_exact.specs.Showing.{exact_from, MayShowFor}

module _ (text : List ℕ) (sheet : Contents) (read : reading text ≡ accepted sheet) where
  -- every accepted text gets its answer, an exact division or none: it is never refused with a buffer of `longest_exact` bytes
  pub accepted-shown : (bundles : List (List ℕ)) (room : ℕ) → MayShowFor text bundles → longest_exact ≤ room
      → exact_from text bundles room ≡ accepted (exact_text (exact_exists sheet) bundles)
  unfolding exact_from
  accepted-shown bundles room shown enough =
      ap (λ a. and_then a (λ c. printing_exact c bundles room)) read
      ∙ printing_exact-within-limits sheet bundles (shown sheet read) room enough (accepted-counts text sheet read)
