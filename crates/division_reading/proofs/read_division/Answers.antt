use mathlib.Core.Path.{◌≡◌, sym, ap}
use Rattle.std.specs.Prelude.{Option, None, Some}
use Prim.Native.Nat.{◌≤◌}
use native.Mathlib.Omega.{arith}
use Rattle.sheet.specs.Limits.{most_agents, most_items}
use Rattle.tokeniser.specs.Places.{tokens_at}
use Rattle.lexing.proofs.readers.Places.{place-none, place-to, found-none, found-to}
use Rattle.sheet_lines.proofs.Suffixes.{end_line-leaves}
use Rattle.division_numbers.proofs.Places.{division_head-read}
use Rattle.division_reading.specs.Grammar.{division_text, reading_division}
use Rattle.division_reading.specs.Outcome.{kept}
use Rattle.division_reading.specs.declared.Stated.{Stated}
use Rattle.division_reading.proofs.Suffixes.{division_lines-leave}
use Rattle.division_reading.proofs.Shape.{grade_below}
use Rattle.division_reading.proofs.kept.Division.{too-many-agents, too-many-items, reading_division-text}
use Rattle.division_reading.proofs.read_division.Goals as goal
use Rattle.division_reading.proofs.read_division.Goals.{then-sheet-gt-AGENTS-via-then-sheet-gt-AGENTS, then-sheet-gt-AGENTS-via-else-sheet-gt-AGENTS+then-sheet-gt-ITEMS}

pub returns-then-sheet-gt-AGENTS : goal.returns-then-sheet-gt-AGENTS
returns-then-sheet-gt-AGENTS c =
    let a = c.args in
    let none : reading_division a.sheet.agents a.sheet.items (tokens_at a.s.now a.c) ≡ None =
    elim c.then-sheet-gt-AGENTS.branch [
      | then-sheet-gt-AGENTS-via-then-sheet-gt-AGENTS w ↦ too-many-agents _ _ _ w.if-sheet-gt-AGENTS.true
      | then-sheet-gt-AGENTS-via-else-sheet-gt-AGENTS+then-sheet-gt-ITEMS w ↦ too-many-items _ _ _ w.if-sheet-gt-ITEMS.true
    ] in
    ap kept (sym none)

pub returns-in_err-grade : goal.returns-in_err-grade
unfolding division_text
returns-in_err-grade c =
    let a = c.args in
    let few : a.sheet.agents ≤ most_agents = omega arith in
    let few_items : a.sheet.items ≤ most_items = omega arith in
    rw (reading_division-text _ _ _ few few_items, found-none _ _ _ _ c.in_err-grade.ensures) c.from_residual.ensures

pub returns-in_err-lines : goal.returns-in_err-lines
unfolding division_text
returns-in_err-lines c =
    let a = c.args in
    let few : a.sheet.agents ≤ most_agents = omega arith in
    let few_items : a.sheet.items ≤ most_items = omega arith in
    let head = division_head-read _ _ _ _ c.in_ok-grade.ensures in
    rw (reading_division-text _ _ _ few few_items, head.read, found-none _ _ _ _ c.in_err-lines.ensures) c.from_residual-in_err-lines.ensures

pub returns-in_err-_end : goal.returns-in_err-_end
unfolding division_text
returns-in_err-_end c =
    let a = c.args in
    let few : a.sheet.agents ≤ most_agents = omega arith in
    let few_items : a.sheet.items ≤ most_items = omega arith in
    let head = division_head-read _ _ _ _ c.in_ok-grade.ensures in
    let lines = found-to _ _ _ _ (division_lines-leave _ _ _) c.in_ok-lines.ensures in
    rw (reading_division-text _ _ _ few few_items, head.read, lines.to.read, place-none _ _ _ c.in_err-_end.ensures) c.from_residual-in_err-_end.ensures

pub overflow_cast-result : goal.overflow_cast-result
overflow_cast-result c =
    let a = c.args in
    let head = division_head-read _ _ _ _ c.in_ok-grade.ensures in
    let small = rw head.read at (grade_below a.sheet.agents a.sheet.items (tokens_at a.s.now a.c)) in
    omega (arith, small)

pub returns : goal.returns
unfolding division_text
returns c =
    let a = c.args in
    let few : a.sheet.agents ≤ most_agents = omega arith in
    let few_items : a.sheet.items ≤ most_items = omega arith in
    let head = division_head-read _ _ _ _ c.in_ok-grade.ensures in
    let lines = found-to _ _ _ _ (division_lines-leave _ _ _) c.in_ok-lines.ensures in
    let end = place-to _ _ _ (end_line-leaves _ _) c.in_ok-_end.ensures in
    rw (reading_division-text _ _ _ few few_items, head.read, lines.to.read, end.read)
    (ap {B = Option Stated} (λ lines. Some (record { grade = c.in_ok-grade.grade; lines = lines })) lines.is_kept)
