-- What the contract of `own_cut` cites: one agent's share and cut. Assumes nothing: these are definitions.
use Rattle.std.specs.Prelude.{List, ℕ}
use Rattle.maximin.specs.Share.{maximin_share, maximin_partition}
use Rattle.cut.specs.Outcome.{placed}
use Rattle.shares.specs.declared.OwnCut.{OwnCut}

-- the share and the cut of values in n bundles
abbrev pub own_cut : ℕ → List ℕ → OwnCut
own_cut n values = record { share = maximin_share n values; partition = placed (maximin_partition n values) }
