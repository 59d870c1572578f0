use mathlib.Core.Path.{ap₂, ◌∙◌}
use Rattle.std.specs.Prelude.{Some}
use Rattle.sheet.specs.Limits.{mark_digits}
use Rattle.tokeniser.specs.Places.{tokens_at}
use Rattle.tokeniser.proofs.Behind.{reached_then, reached-place}
use Rattle.lexing.specs.Results.{found_from}
use Rattle.lexing.proofs.readers.Places.{ReadTo, place-none, place-to, found-none, none-found, Found, found-to, follow-read}
use Rattle.sheet_lines.specs.Grammar.{marks, yard_turn, yard_line}
use Rattle.sheet_lines.specs.internal.Results.{read_marks}
use Rattle.sheet_lines.proofs.Suffixes.{marks-leave, yard_turn-leaves}
use Rattle.sheet_lines.proofs.yards.yard_line.Goals as goal
use Rattle.sheet_lines.proofs.yards.yard_line.Goals.{In_ok-c1, In_ok-line}

-- what the yard's number and the marks say, where they have been read
turn-read : (c : In_ok-c1) → let a = c.args in
    ReadTo a.s.now a.c (yard_turn a.turn (tokens_at a.s.now a.c)) (λ ts. ts) c.in_ok-c1.c1
turn-read c = place-to _ _ _ (yard_turn-leaves _ _) c.in_ok-c1.ensures

marks-read : (c : In_ok-line) → let a = c.args in
    let place = c.in_ok-c1.c1 in
    Found a.s.now place read_marks (marks mark_digits a.items (tokens_at a.s.now place)) c.in_ok-line.line c.in_ok-line.c2
marks-read c = found-to _ _ _ _ (marks-leave _ _ _) c.in_ok-line.ensures

pub returns-in_err-c1 : goal.returns-in_err-c1
unfolding yard_line
returns-in_err-c1 c = c.from_residual.ensures ∙ none-found _ _ _ (rw (place-none _ _ _ c.in_err-c1.ensures))

pub returns-in_err-line : goal.returns-in_err-line
unfolding yard_line
returns-in_err-line c =
    c.from_residual-in_err-line.ensures ∙ none-found _ _ _ (rw ((turn-read (goal.at.returns-in_err-line c).In_ok-c1).read, found-none _ _ _ _ c.in_err-line.ensures))

pub returns-in_err-c3 : goal.returns-in_err-c3
unfolding yard_line
returns-in_err-c3 c =
    let at = goal.at.returns-in_err-c3 c in
    c.from_residual-in_err-c3.ensures ∙ none-found _ _ _ (rw ((turn-read at.In_ok-c1).read, (marks-read at.In_ok-line).to.read, place-none _ _ _ c.in_err-c3.ensures))

pub returns : goal.returns
unfolding yard_line found_from
returns c =
    let at = goal.at.returns c in
    let turn = turn-read at.In_ok-c1 in
    let marks = marks-read at.In_ok-line in
    let end = follow-read _ _ _ c.in_ok-c3.ensures in
    rw (turn.read, marks.to.read, end.read)
    (ap₂ (λ line place. Some (line, place)) marks.is_kept (reached-place (reached_then turn.reached (reached_then marks.to.reached end.reached))))
