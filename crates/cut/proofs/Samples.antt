-- The sample cuts have their answers, by computation: one table, one theorem. Assumes nothing.
use mathlib.Core.Path.{◌≡◌, refl}
use mathlib.Core.List.{map}
use Rattle.sheet.specs.Sets.{items_of}
use Rattle.sheet.specs.Valuations.{values_of}
use Rattle.growth.specs.Growth.{growths}
use Rattle.maximin.specs.Share.{maximin_share, maximin_partition}
use Rattle.cut.specs.Outcome.{found, cutting}
use Rattle.cut.specs.SampleCuts.{samples}

pub samples-hold : map (λ s. cutting s.valuation s.set s.bundles s.allowance) samples ≡ map (λ s. s.answered) samples
unfolding samples cutting found growths maximin_share maximin_partition values_of items_of
samples-hold = refl
