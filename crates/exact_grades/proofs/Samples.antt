-- The starred sheets of document 01 all have an exact division, by computation. Assumes nothing.
use mathlib.Core.Path.{◌≡◌, refl}
use mathlib.Core.Bool.{true}
use mathlib.Core.List.{map}
use Rattle.sheet.specs.Tables.{profile}
use Rattle.sheet.specs.Answers.{accepted}
use Rattle.maximin.specs.Share.{maximin_share}
use Rattle.shares.specs.Shares.{shares_covered, sharing}
use Rattle.rounds.specs.SampleSheets.{starred, samples}
use Rattle.exact_division.specs.Exact.{is_exact, exact_exists}
use Rattle.exact_division.specs.Search.{searching}

-- sheets a to f and i, and the sheet of grade 2 behind them; the box's division of c is graded 4
pub starred-have-one : map (λ s. searching s.sheet) samples ≡ map (λ s. accepted true) samples
unfolding starred searching exact_exists is_exact sharing shares_covered profile maximin_share
starred-have-one = refl
