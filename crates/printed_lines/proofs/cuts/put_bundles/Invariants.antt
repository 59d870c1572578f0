-- The loop's invariant: the first i bundles are written.
use mathlib.Core.List.{List, flat_map}
use Rattle.lists.specs.Lists.{range}
use Prim.Native.Nat.{ℕ}
use Rattle.bundling.specs.Bundles.{bundle}
use Rattle.printed_lines.specs.PrintedLines.{cut_pile}
use Rattle.writing.specs.WithText.{Writes}
use Rattle.printed_lines.proofs.cuts.put_bundles.Given as goal

-- the text of each bundle
abbrev pub bundle_text : ℕ → List ℕ → ℕ → List ℕ
bundle_text items partition c = cut_pile (bundle (range 1 items) partition c)

abbrev pub invariant-loop-i : goal.invariant-loop-i
invariant-loop-i l = Writes l.initial.writer (flat_map (bundle_text l.fn.counts.items l.partition) (range 1 l.i)) l.writer
