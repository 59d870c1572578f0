use mathlib.Core.Path.{ap}
use Rattle.std.specs.Prelude.{Some}
use Rattle.sheet.specs.Limits.{count_digits}
use Rattle.sheet.specs.declared.Sheet.{Sheet}
use Rattle.lexing.specs.Forms.{form}
use Rattle.lexing.specs.Numbers.{number_after}
use Rattle.tokeniser.specs.Places.{tokens_at}
use Rattle.tokeniser.proofs.Behind.{reached_then, reached-place}
use Rattle.lexing.proofs.readers.Places.{ReadTo, found-none, place-none, number_after-read, follow-read}
use Rattle.sheet_lines.specs.SheetForms.{before_agents, before_items}
use Rattle.sheet_lines.specs.Grammar.{head}
use Rattle.sheet_lines.specs.Results.{head_from}
use Rattle.sheet_lines.proofs.head.read_head.Goals as goal
use Rattle.sheet_lines.proofs.head.read_head.Goals.{In_ok-agents, In_ok-items}

-- what the two numbers say, where they have been read
agents-read : (c : In_ok-agents) → let a = c.args in
    ReadTo a.s.now a.c (number_after (form before_agents) count_digits (tokens_at a.s.now a.c)) (λ ts. (c.in_ok-agents.agents, ts)) c.in_ok-agents.c1
agents-read c = number_after-read _ _ _ _ c.in_ok-agents.ensures

items-read : (c : In_ok-items) → let s = c.args.s.now in
    ReadTo s c.in_ok-agents.c1 (number_after (form before_items) count_digits (tokens_at s c.in_ok-agents.c1)) (λ ts. (c.in_ok-items.items, ts)) c.in_ok-items.c2
items-read c = number_after-read _ _ _ _ c.in_ok-items.ensures

pub returns-in_err-agents : goal.returns-in_err-agents
unfolding head head_from
returns-in_err-agents c = rw (c.from_residual.ensures, found-none _ _ _ _ c.in_err-agents.ensures)

pub returns-in_err-items : goal.returns-in_err-items
unfolding head head_from
returns-in_err-items c =
    rw (c.from_residual-in_err-items.ensures, (agents-read (goal.at.returns-in_err-items c).In_ok-agents).read, found-none _ _ _ _ c.in_err-items.ensures)

pub returns-in_err-c3 : goal.returns-in_err-c3
unfolding head head_from
returns-in_err-c3 c =
    let at = goal.at.returns-in_err-c3 c in
    rw (c.from_residual-in_err-c3.ensures, (agents-read at.In_ok-agents).read, (items-read at.In_ok-items).read, place-none _ _ _ c.in_err-c3.ensures)

pub returns : goal.returns
unfolding head head_from
returns c =
    let at = goal.at.returns c in
    let agents = agents-read at.In_ok-agents in
    let items = items-read at.In_ok-items in
    let end = follow-read _ _ _ c.in_ok-c3.ensures in
    let counts : Sheet = record { agents = c.in_ok-agents.agents; items = c.in_ok-items.items } in
    rw (agents.read, items.read, end.read) (ap (λ place. Some (counts, place)) (reached-place (reached_then agents.reached (reached_then items.reached end.reached))))
