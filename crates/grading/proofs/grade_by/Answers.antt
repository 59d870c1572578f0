-- The first test that passes says the grade.
use mathlib.Core.Path.{sym}
use Rattle.grading.specs.internal.ByAmounts.{grade_by_amounts}
use Rattle.grading.proofs.grade_by.Goals as goal

pub returns-then-each_at_most : goal.returns-then-each_at_most
unfolding grade_by_amounts
returns-then-each_at_most c = rw (sym c.if-each_at_most.ensures)

pub returns-then-each_at_most-2 : goal.returns-then-each_at_most-2
unfolding grade_by_amounts
returns-then-each_at_most-2 c = rw (sym c.if-each_at_most.ensures, sym c.if-each_at_most-2.ensures)

pub returns-then-each_at_most-3 : goal.returns-then-each_at_most-3
unfolding grade_by_amounts
returns-then-each_at_most-3 c = rw (sym c.if-each_at_most.ensures, sym c.if-each_at_most-2.ensures, sym c.if-each_at_most-3.ensures)

pub returns-then-none_negative : goal.returns-then-none_negative
unfolding grade_by_amounts
returns-then-none_negative c =
    rw (sym c.if-each_at_most.ensures, sym c.if-each_at_most-2.ensures, sym c.if-each_at_most-3.ensures, sym c.if-none_negative.ensures)

pub returns-else-none_negative : goal.returns-else-none_negative
unfolding grade_by_amounts
returns-else-none_negative c =
    rw (sym c.if-each_at_most.ensures, sym c.if-each_at_most-2.ensures, sym c.if-each_at_most-3.ensures, sym c.if-none_negative.ensures)
