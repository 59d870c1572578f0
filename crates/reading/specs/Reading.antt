-- What reading a text answers: the number of a refusal, or the counts and the table of marks (document 01, "Reasons to turn a sheet
-- down", 1 to 8), of a sheet alone and of a sheet with another text behind it. Assumes nothing: these are definitions.
use Rattle.std.specs.Prelude.{List, Bool, ℕ, length, leb, ltb}
use Rattle.lists.specs.Lists.{all}
use Rattle.sheet.specs.Limits.{MarkLimits, agents_allowed, items_allowed, mark_limits, longest_text}
use Rattle.sheet.specs.Contents.{Contents, sheet_of}
use Rattle.sheet.specs.Answers.{Answer, accepted, require, and_then, require_some}
use Rattle.tokens.specs.Tokens.{Token, tokens}
use Rattle.lexing.specs.Forms.{ended}
use Rattle.sheet_lines.specs.Grammar.{head, Body, body, anything, end_line}
use Rattle.sheet_lines.specs.Marks.{allowed_row}
use Rattle.sheet_lines.specs.Kept.{table_of}

-- what the lines between the first line and the line `(end)` of a sheet with these counts carry, where none of these reasons is found:
-- 8: "A mark is above" the greatest
unfoldable pub contents_of : (limits : MarkLimits) (agents items : ℕ) (lines : Body) → Answer Contents
contents_of limits agents items lines =
    require 8 (all (allowed_row limits.greatest) lines.rows)
    (accepted (sheet_of agents items (table_of lines.rows)))

-- "Each is looked for over the whole input before the following one":
-- 1: "The text is longer than 4,096 bytes"
-- 2: "The text has no byte"
-- 3: "The first line is missing or is not the head form above"
-- 4: "The number of yards .. lies outside 1 to 6"
-- 5: "The number of pieces lies outside 1 to 12"
-- 6: "One of the lines due for the yards is missing, malformed, out of turn, or has another count of marks than the pieces"
-- 7: "After the yard lines stands anything but the line `(end)` and the end of the text", or what else may stand behind that line
-- then those of `contents_of`
-- A text that is accepted carries, besides its sheet, the tokens behind the line `(end)`.
abbrev pub sheet_at_front : MarkLimits → (List Token → Bool) → List ℕ → Answer (Contents × List Token)
sheet_at_front limits may_follow text =
    require 1 (leb (length text) longest_text)
    (require 2 (ltb 0 (length text))
    (require_some 3 (head (tokens text)) (λ (agents, items, ts₁).
    require 4 (agents_allowed agents)
    (require 5 (items_allowed items)
    (require_some 6 (body limits.digits agents items ts₁) (λ (lines, ts₂).
    require_some 7 (end_line may_follow ts₂) (λ ts₃.
    and_then (contents_of limits agents items lines) (λ sheet.
    accepted (sheet, ts₃)))))))))

-- the sheet alone of what is read
abbrev pub sheet_alone : Answer (Contents × List Token) → Answer Contents
sheet_alone a = and_then a (λ (c, ts). accepted c)

-- a text that is a sheet: behind the line `(end)` stands "the end of the text"
abbrev pub reading_by : MarkLimits → List ℕ → Answer Contents
reading_by limits text = sheet_alone (sheet_at_front limits ended text)

-- the limits of a mark are those of order 3 of document 02
unfoldable pub reading : List ℕ → Answer Contents
reading text = reading_by mark_limits text

-- a sheet with another text behind it (document 02, order 5): "a sheet through its `(end)` line (in this reading refusal 7 is given only
-- where that line does not follow the yard lines)"
unfoldable pub reading_front : List ℕ → Answer (Contents × List Token)
reading_front text = sheet_at_front mark_limits anything text
