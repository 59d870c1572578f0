-- Sheet a of document 01, from its text to the printed text of one of its exact divisions, by computation. Assumes nothing.
use mathlib.Core.Path.{◌≡◌}
use mathlib.Core.List.{[], ◌∷◌, flat_map}
use Rattle.sheet.specs.Answers.{accepted}
use Rattle.sheet.specs.Tables.{profile}
use Rattle.text.specs.Bytes.{bytes}
use Rattle.text.specs.Decimal.{digits_in, decimal, spaced_numbers}
use Rattle.reading.specs.SampleTexts.{sheet_text_a}
use Rattle.reading.proofs.SheetA.{sheet-a-read}
use Rattle.maximin.specs.Share.{maximin_share}
use Rattle.shares.specs.Shares.{shares_covered, sharing}
use Rattle.exact_division.specs.Exact.{is_exact, exact_exists}
use Rattle.exact_division.specs.Search.{searching}
use Rattle.exact_printing.specs.ExactText.{exact_text}
use Rattle.exact_printing.specs.Printing.{printing_exact, longest_exact}
use Rattle.sheet_to_exact.specs.Showing.{exact_from}

pub sheet-a : exact_from sheet_text_a ((1 ∷ []) ∷ (2 ∷ 3 ∷ []) ∷ []) longest_exact
    ≡ accepted (bytes "(exact (1) (2 3))\n")
unfolding exact_from searching exact_exists is_exact sharing shares_covered profile maximin_share printing_exact exact_text digits_in decimal spaced_numbers flat_map
sheet-a = rw sheet-a-read
