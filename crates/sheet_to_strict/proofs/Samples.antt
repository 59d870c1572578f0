-- Sheet a of document 01 as a yard would type it (samples/typed.sheet), written in the strict layout, by computation. Assumes nothing.
use mathlib.Core.Path.{◌≡◌}
use mathlib.Core.List.{flat_map}
use Rattle.sheet.specs.Answers.{accepted}
use Rattle.text.specs.Decimal.{digits_in, decimal, spaced_numbers}
use Rattle.reading.specs.SampleTexts.{sheet_text_a, typed_sheet_a}
use Rattle.reading.proofs.SheetA.{typed-sheet-a-read}
use Rattle.strict_text.specs.StrictText.{head_text, yard_text, yard_texts, body_text, sheet_text, strict_text, longest_strict}
use Rattle.sheet_to_strict.specs.Rewriting.{rewriting}

pub typed-sheet-a : rewriting typed_sheet_a longest_strict ≡ accepted sheet_text_a
unfolding rewriting flat_map strict_text sheet_text body_text head_text yard_text yard_texts digits_in decimal spaced_numbers
typed-sheet-a = rw typed-sheet-a-read
