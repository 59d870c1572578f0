-- What the lines of a division in the right shape have: bundles of the items, one of the cut for each agent. Assumes nothing.
use mathlib.Core.Path.{◌≡◌}
use mathlib.Core.List.{List, Memᴰ as Mem}
use mathlib.Core.List.{Sublistᴰ as Sublist}
use Prim.Native.Nat.{ℕ}
use lib.ListN.{length}
use Rattle.lists.specs.Lists.{range}
use Rattle.lists.proofs.ranges.Ranges.{nth-mem}
use Rattle.division_reading.specs.Stated.{Stated}
use Rattle.stated_truth.specs.Truth.{none_stated, line_of}
use Rattle.division_reading.specs.Shape.{WellFormed}
use Rattle.division_reading.proofs.Bundles.{bundle-sublist}

module _ (n m : ℕ) (d : Stated) (shape : WellFormed n m d) {i : ℕ} (in_use : Mem i (range 1 n)) where
  pub line-mem : Mem (line_of d i) d.lines
  line-mem = nth-mem none_stated d.lines n shape.line_each in_use

  pub line-bundle : Sublist (line_of d i).bundle (range 1 m)
  line-bundle = bundle-sublist m (shape.bundle (line_of d i) line-mem)

  pub line-cut-each : length (line_of d i).cut ≡ n
  line-cut-each = shape.cut_each (line_of d i) line-mem

  pub line-cut-bundle : (b : List ℕ) → Mem b (line_of d i).cut → Sublist b (range 1 m)
  line-cut-bundle b mb = bundle-sublist m (shape.cut_bundle (line_of d i) line-mem b mb)
