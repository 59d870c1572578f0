-- The printed text of a division is at most `longest_printed` bytes long, so that every table within the limits is printed whole.
-- Assumes nothing.
use mathlib.Core.Path.{◌≡◌}
use mathlib.Core.List.{Memᴰ as Mem}
use Prim.Native.Nat.{ℕ, ◌+◌, ◌^◌, ◌≤◌, ◌<◌}
use native.Mathlib.Omega.{arith}
use lib.ListN.{length}
use borrow.Author.Tests.{le-leb}
use Rattle.lists.specs.Lists.{range, nth}
use Rattle.lists.proofs.places.Places.{nth-next}
use Rattle.sheet.specs.Limits.{most_agents, most_items, greatest_mark, sum_digits, CountsWithin}
use Rattle.sheet.specs.Answers.{accepted}
use Rattle.sheet.specs.Valuations.{item_value}
use Rattle.sheet.specs.Tables.{valuation_of}
use Rattle.sheet.specs.Contents.{Contents}
use Rattle.sheet.proofs.valuing.Tables.{value-small}
use Rattle.growth.specs.Growth.{growths}
use Rattle.shares.proofs.Marks.{share_small}
use Rattle.shares.proofs.Profile.{nth-shares}
use Rattle.rounds.specs.Division.{division_of, division_by_rounds}
use Rattle.rounds.proofs.Answers.{answer-within-limits}
use Rattle.printing.specs.Printed.{printed}
use Rattle.printing.specs.Printing.{printing, longest_printed}
use Rattle.printing.proofs.printed.Printable.{division_by_rounds-printable}
use Rattle.printing.proofs.printed.Worths.{division_by_rounds-worth}
use Rattle.printing.proofs.printed.Lengths.{length-printed}

-- "six rows of twelve places", each mark at most the greatest: the worths and shares of the division of every such table
module _ (sheet : Contents) (some : 1 ≤ sheet.agents) (few_items : sheet.items ≤ most_items) (small : (i k : ℕ) → item_value (valuation_of sheet.table i) k ≤ greatest_mark) where
  division_by_rounds-worth-small : (i : ℕ) → Mem i (range 1 sheet.agents) → nth 0 (division_by_rounds sheet).worths i < 10 ^ sum_digits
  division_by_rounds-worth-small i in_use =
      omega (arith, division_by_rounds-worth sheet in_use, value-small sheet.items (valuation_of sheet.table i) ((division_by_rounds-printable sheet some).of_items i in_use) few_items (small i))

  division_by_rounds-share-small : (i : ℕ) → Mem i (range 1 sheet.agents) → nth 0 (division_by_rounds sheet).shares i < 10 ^ sum_digits
  unfolding division_of
  division_by_rounds-share-small i in_use =
      let row = valuation_of sheet.table i in
      rw (nth-shares sheet.agents sheet.items sheet.table in_use) (omega (arith, share_small sheet.agents sheet.items row some few_items (λ k. omega (arith, nth-next 0 row k, small i (k + 1)))))

  -- and its printed text
  pub division_by_rounds-length : sheet.agents ≤ most_agents → length (printed sheet (division_by_rounds sheet)) ≤ longest_printed
  division_by_rounds-length few =
      length-printed sheet (division_by_rounds sheet) few few_items (division_by_rounds-printable sheet some) division_by_rounds-worth-small division_by_rounds-share-small

-- every table within the limits, with no more growth partitions than the allowance, is printed whole into a buffer of `longest_printed` bytes
pub printing-within-limits : (sheet : Contents) (allowance room : ℕ) → CountsWithin sheet.agents sheet.items
    → ((i k : ℕ) → item_value (valuation_of sheet.table i) k ≤ greatest_mark) → growths sheet.agents sheet.items ≤ allowance → longest_printed ≤ room
    → printing sheet allowance room ≡ accepted (printed sheet (division_by_rounds sheet))
unfolding printing
printing-within-limits sheet allowance room w small allowed enough =
    let short = division_by_rounds-length sheet w.some w.few_items small w.few in
    rw (answer-within-limits sheet allowance w allowed, le-leb (length (printed sheet (division_by_rounds sheet))) room (omega arith))
