-- What stands before the line `(end)` of a sheet, with the reasons that are looked for before it. Assumes nothing: these are definitions.
use Rattle.std.specs.Prelude.{List, ℕ, length, leb, ltb}
use Rattle.sheet.specs.Limits.{MarkLimits, agents_allowed, items_allowed, longest_text}
use Rattle.sheet.specs.Answers.{Answer, accepted, require, require_some}
use Rattle.sheet.specs.declared.Sheet.{Sheet}
use Rattle.tokens.specs.Tokens.{Token, tokens}
use Rattle.tokeniser.specs.Places.{start}
use Rattle.tokeniser.specs.Behind.{place_left}
use Rattle.tokeniser.specs.declared.Cursor.{Cursor}
use Rattle.sheet_lines.specs.Grammar.{head, Body, body}
use Rattle.sheet_lines.specs.Results.{read_body}
use Rattle.sheet_lines.specs.declared.body.Body as code

-- the reasons 1 to 6 of `sheet_at_front`; else the counts, the lines of the yards, and the tokens behind these
unfoldable pub lines_before_end : MarkLimits → List ℕ → Answer (ℕ × ℕ × Body × List Token)
lines_before_end limits text =
    require 1 (leb (length text) longest_text)
    (require 2 (ltb 0 (length text))
    (require_some 3 (head (tokens text)) (λ (agents, items, ts₁).
    require 4 (agents_allowed agents)
    (require 5 (items_allowed items)
    (require_some 6 (body limits.digits agents items ts₁) (λ (lines, ts₂).
    accepted (agents, items, lines, ts₂)))))))

-- the counts, what the lines give, and the place behind them
abbrev pub stored_lines : List ℕ → ℕ × ℕ × Body × List Token → Sheet × code.Body × Cursor
stored_lines s (agents, items, lines, ts) = (record { agents = agents; items = items }, read_body lines, place_left s start ts)
