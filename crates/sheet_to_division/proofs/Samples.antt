-- Sheet a of document 01, from its text to its printed text, by computation. Assumes nothing.
use mathlib.Core.Path.{◌≡◌}
use mathlib.Core.List.{flat_map}
use Rattle.sheet.specs.Answers.{accepted}
use Rattle.sheet.specs.Tables.{profile}
use Rattle.text.specs.Bytes.{bytes}
use Rattle.text.specs.Decimal.{digits_in, decimal, spaced_numbers}
use Rattle.reading.specs.SampleTexts.{sheet_text_a}
use Rattle.reading.proofs.SheetA.{sheet-a-read}
use Rattle.maximin.specs.Share.{maximin_share, maximin_partition}
use Rattle.matching.specs.Matching.{waiting_set, matching}
use Rattle.terms.specs.Terms.{largest_odd, terms_for}
use Rattle.rounds.specs.Round.{round, rounds, held}
use Rattle.grades.specs.Grade.{envy_free, proportional, maximin_fair, grade}
use Rattle.growth.specs.Growth.{growths}
use Rattle.shares.specs.Shares.{shares_covered, sharing, sharing_within, standard_allowance}
use Rattle.rounds.specs.Division.{division_of, answer}
use Rattle.printing.specs.Printed.{head_line, pile_group, worth_and_share, cut_group, printed_yard, cutters_line, all_lines, printed}
use Rattle.printing.specs.Printing.{longest_printed}
use Rattle.sheet_to_division.specs.DividedFrom.{divided_from}
use Rattle.sheet_to_division.specs.ShareOut.{share_out}

pub sheet-a : share_out sheet_text_a standard_allowance longest_printed
    ≡ accepted (bytes "(division (yards 2) (pieces 3) (grade 3))\n(yard 1 (pile 1) (worth 5) (share 5) (cut (1) (2 3)))\n(yard 2 (pile 2 3) (worth 4) (share 4) (cut (1) (2 3)))\n(cutters 1)\n(end)\n")
unfolding share_out divided_from answer division_of sharing_within growths sharing shares_covered profile terms_for largest_odd round rounds held waiting_set matching maximin_share maximin_partition grade envy_free proportional maximin_fair printed all_lines head_line pile_group worth_and_share cut_group printed_yard cutters_line digits_in decimal spaced_numbers flat_map
sheet-a = rw sheet-a-read
