use mathlib.Core.List.{List, flat_map}
use Prim.Native.Nat.{ℕ, ◌+◌}
use Rattle.std.proofs.Math.Nat.{min-eq_left}
use Rattle.writing.specs.WithText.{Writes}
use Rattle.printed_division.specs.OutcomeText.{outcome_line}
use Rattle.writing.proofs.Written.{nothing, ◌then◌}
use Rattle.lists.proofs.members.FlatMap.{flat_map-next}
use Rattle.printed_division.proofs.OutcomeLine.{outcome_line-next}
use Rattle.printed_division.proofs.put_yards.Goals as goal
use Rattle.printed_division.proofs.put_yards.Goals.{After-put_yard}

module _ (c : After-put_yard) where
  -- the line of each agent
  abbrev line_of : ℕ → List ℕ
  line_of = let a = c.args in outcome_line a.counts.agents a.counts.items a.division.bundles a.division.worths a.division.shares a.division.cuts

  -- the line of the next agent is written
  line-written : let l = c.loop-i in Writes l.writer (line_of (l.i + 1)) c.put_yard.new.writer
  line-written =
      let a = c.args in
      rw (outcome_line-next a.counts.agents a.counts.items a.division.bundles a.division.worths a.division.shares a.division.cuts c.loop-i.i)
      (rw (min-eq_left a.counts.few, min-eq_left a.counts.few_items) at c.put_yard.ensures)

pub loop-i-init : goal.loop-i-init
unfolding flat_map
loop-i-init c = nothing

pub loop-i-preserved : goal.loop-i-preserved
loop-i-preserved c =
    let at-line = (goal.at.loop-i-preserved c).After-put_yard in
    rw (flat_map-next (line_of at-line) c.loop-i.i) (c.loop-i.invariant then line-written at-line)
