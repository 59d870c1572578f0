-- The loop's invariant: the set so far is that of the numbers up to i that stand in the list.
use mathlib.Core.Path.{◌≡◌}
use Rattle.lists.specs.Lists.{range, filter, elem}
use Rattle.sheet.specs.Sets.{set_of}
use Rattle.sheet.proofs.naming.set_of.Given as goal

abbrev pub invariant-loop-i : goal.invariant-loop-i
invariant-loop-i l = l.set ≡ set_of (filter (λ k. elem k l.numbers) (range 1 l.i))
