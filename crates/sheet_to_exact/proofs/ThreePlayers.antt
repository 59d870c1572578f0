-- "The three players of section 2 must give none" (document 02, order 4): what their sheet (samples/three_players.sheet) is answered.
-- Assumes nothing.
use mathlib.Core.Path.{◌≡◌, ap, ◌∙◌}
use mathlib.Core.Bool.{false}
use mathlib.Core.List.{List, []}
use Prim.Native.Nat.{ℕ, ◌-◌}
use native.Mathlib.Omega.{arith}
use lib.ListN.{replicate, get_or-append}
use Rattle.text.specs.Bytes.{bytes}
use Rattle.sheet.specs.Limits.{blank_row}
use Rattle.sheet.specs.Answers.{accepted, and_then}
use Rattle.sheet.specs.Valuations.{item_value}
use Rattle.sheet.specs.Tables.{AgreeInUse}
use Rattle.sheet.specs.Contents.{sheet_of}
use Rattle.sheet.specs.ThreePlayers.{players}
use Rattle.sheet_lines.specs.Kept.{table_of}
use Rattle.reading.specs.SampleTexts.{three_players_sheet}
use Rattle.reading.proofs.ThreePlayers.{three-players-read}
use Rattle.writing.specs.Filled.{filling}
use Rattle.exact_division.specs.Search.{searching}
use Rattle.exact_division.proofs.Theorems.{agreeing-tables-same-search}
use Rattle.exact_division.proofs.NoneSamples.{three-players-none}
use Rattle.exact_printing.specs.ExactText.{exact_text}
use Rattle.exact_printing.specs.Printing.{printing_exact}
use Rattle.sheet_to_exact.specs.Showing.{exact_from}

-- the rows behind the third count for nothing
same-marks : AgreeInUse 3 12 (table_of players) players
same-marks agent k some few some_items few_items = ap (λ row. item_value row k) (get_or-append players (replicate 3 blank_row) [] (agent - 1) (omega arith))

searched : searching (sheet_of 3 12 (table_of players)) ≡ accepted false
searched = agreeing-tables-same-search 3 12 (table_of players) players same-marks ∙ three-players-none

-- whatever the bundles and the length of the buffer
pub three-players-none-shown : (bundles : List (List ℕ)) (room : ℕ) → exact_from three_players_sheet bundles room ≡ filling room (bytes "(exact none)\n")
unfolding exact_from printing_exact exact_text
three-players-none-shown bundles room =
    ap (λ a. and_then a (λ c. printing_exact c bundles room)) three-players-read
    ∙ ap (λ a. and_then a (λ exists. filling room (exact_text exists bundles))) searched
