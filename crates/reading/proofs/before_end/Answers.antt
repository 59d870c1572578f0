use mathlib.Core.Path.{◌≡◌, sym, ap₂, ◌∙◌}
use mathlib.Core.List.{List}
use mathlib.Core.Bool.{true}
use Rattle.std.specs.Prelude.{Option}
use Prim.Native.Nat.{ℕ, ◌≤◌, min}
use native.Mathlib.Omega.{arith}
use lib.Dec.{leb, ltb}
use lib.ListN.{length}
use borrow.Author.Tests.{lt-leb, le-leb, lt-ltb, eqb-true, eqb-false}
use Rattle.sheet.specs.Limits.{longest_text, most_agents, most_items, mark_digits, agents_allowed, items_allowed}
use Rattle.sheet.specs.Answers.{accepted}
use Rattle.sheet.proofs.Limits.{within-bounds}
use Rattle.tokens.specs.Tokens.{tokens}
use Rattle.tokeniser.specs.Places.{tokens_at, start}
use Rattle.tokeniser.specs.declared.Cursor.{Cursor}
use Rattle.tokeniser.proofs.Places.{tokens-start}
use Rattle.tokeniser.proofs.Behind.{reached_then, reached-place}
use Rattle.lexing.proofs.readers.Places.{ReadTo, found-none, found-to}
use Rattle.sheet_lines.specs.Grammar.{head, body}
use Rattle.sheet_lines.specs.Results.{body_from}
use Rattle.sheet_lines.specs.declared.body.Body.{Body}
use Rattle.sheet_lines.proofs.Suffixes.{body-leaves}
use Rattle.sheet_lines.proofs.Places.{head-missed, head-read}
use Rattle.reading.specs.internal.BeforeEnd.{lines_before_end}
use Rattle.reading.proofs.Exits.{exit-missing}
use Rattle.reading.proofs.before_end.Goals as goal
use Rattle.reading.proofs.before_end.Goals.{Else-is_empty, In_ok-sheet, Else-not-items_allowed}

-- the tests before the head
nonempty : (c : Else-is_empty) → let text = c.args.text.now in (leb (length text) longest_text ≡ true) × (ltb 0 (length text) ≡ true)
nonempty c =
    let text = c.args.text.now in
    let some : length text ≡ 0 → ⊥ = eqb-false (length text) 0 (sym c.if-is_empty.ensures) in
    (le-leb (length text) longest_text (omega arith), lt-ltb 0 (length text) (omega arith))

pub returns-then-text-gt-LONGEST_TEXT : goal.returns-then-text-gt-LONGEST_TEXT
unfolding lines_before_end
returns-then-text-gt-LONGEST_TEXT c = rw (lt-leb (length c.args.text.now) longest_text (omega arith))

pub returns-then-is_empty : goal.returns-then-is_empty
unfolding lines_before_end
returns-then-is_empty c =
    let text = c.args.text.now in
    let none : length text ≡ 0 = eqb-true (length text) 0 (sym c.if-is_empty.ensures) in
    rw none

-- the head, where it has been read, and the counts within the limits
head-told : (c : In_ok-sheet) → let text = c.args.text.now in
    ReadTo text start (head (tokens text)) (λ ts. (c.in_ok-sheet.sheet.agents, c.in_ok-sheet.sheet.items, ts)) c.in_ok-sheet.first
head-told c =
    rw (c.start.ensures, tokens-start) at (head-read c.args.text.now c.start.result (sym c.in_ok-sheet.ensures.ok_part ∙ c.read_head.ensures))

counts-told : (c : Else-not-items_allowed) → let sheet = c.in_ok-sheet.sheet in (agents_allowed sheet.agents ≡ true) × (items_allowed sheet.items ≡ true)
counts-told c = (sym c.if-not-agents_allowed.ensures, sym c.if-not-items_allowed.ensures)

pub returns-in_err-sheet : goal.returns-in_err-sheet
unfolding lines_before_end
returns-in_err-sheet c =
    let missed = head-missed _ _ (sym c.in_err-sheet.ensures.ok_part ∙ c.read_head.ensures) in
    let some = nonempty (goal.at.returns-in_err-sheet c).Else-is_empty in
    rw (some.0, some.1, rw (c.start.ensures, tokens-start) at missed)
    (exit-missing c.from_residual.result _ c.from_residual.ensures.1 _ _ c.in_err-sheet.ensures.value c.in_err-sheet.ensures.ok_part)

pub returns-then-not-agents_allowed : goal.returns-then-not-agents_allowed
unfolding lines_before_end
returns-then-not-agents_allowed c =
    let at = goal.at.returns-then-not-agents_allowed c in
    let some = nonempty at.Else-is_empty in
    rw (some.0, some.1, (head-told at.In_ok-sheet).read, sym c.if-not-agents_allowed.ensures)

pub returns-then-not-items_allowed : goal.returns-then-not-items_allowed
unfolding lines_before_end
returns-then-not-items_allowed c =
    let at = goal.at.returns-then-not-items_allowed c in
    let some = nonempty at.Else-is_empty in
    rw (some.0, some.1, (head-told at.In_ok-sheet).read, sym c.if-not-agents_allowed.ensures, sym c.if-not-items_allowed.ensures)

-- the lines are read with these counts, which are within the limits
lesser-first : (a b : ℕ) → a ≤ b → min a b ≡ a
lesser-first a b few = omega arith

body-told : (text : List ℕ) (place : Cursor) (agents items : ℕ) {r : Option (Body × Cursor)} → (agents_allowed agents ≡ true) × (items_allowed items ≡ true)
    → r ≡ body_from text place (body mark_digits (min agents most_agents) (min items most_items) (tokens_at text place))
    → r ≡ body_from text place (body mark_digits agents items (tokens_at text place))
body-told text place agents items allowed told =
    let few = lesser-first agents most_agents (within-bounds _ _ allowed.0).1 in
    let few_items = lesser-first items most_items (within-bounds _ _ allowed.1).1 in
    rw (few, few_items) at told

pub returns-in_err-lines : goal.returns-in_err-lines
unfolding lines_before_end
returns-in_err-lines c =
    let at = goal.at.returns-in_err-lines c in
    let some = nonempty at.Else-is_empty in
    let counts = counts-told at.Else-not-items_allowed in
    let missed = found-none _ _ _ _ (sym c.in_err-lines.ensures.ok_part ∙ body-told _ _ _ _ counts c.read_body.ensures) in
    rw (some.0, some.1, (head-told at.In_ok-sheet).read, counts.0, counts.1, missed)
    (exit-missing c.from_residual-in_err-lines.result _ c.from_residual-in_err-lines.ensures.1 _ _ c.in_err-lines.ensures.value c.in_err-lines.ensures.ok_part)

pub returns : goal.returns
unfolding lines_before_end
returns c =
    let at = goal.at.returns c in
    let some = nonempty at.Else-is_empty in
    let first = head-told at.In_ok-sheet in
    let counts = counts-told at.Else-not-items_allowed in
    let found = found-to _ _ _ _ (body-leaves _ _ _ _) (sym c.in_ok-lines.ensures.ok_part ∙ body-told _ _ _ _ counts c.read_body.ensures) in
    rw (some.0, some.1, first.read, counts.0, counts.1, found.to.read)
    (ap₂ (λ lines last. accepted (c.in_ok-sheet.sheet, lines, last)) found.is_kept (reached-place (reached_then first.reached found.to.reached)))
