-- Reading refuses with 1 to 8 only, a sheet alone and one with another text behind it. Assumes nothing.
use mathlib.Core.List.{List}
use mathlib.Core.Bool.{Bool}
use Prim.Native.Nat.{ℕ, ◌≤◌}
use native.Mathlib.Omega.{arith}
use lib.Dec.{leb, ltb}
use lib.ListN.{length}
use Rattle.lists.specs.Lists.{all}
use Rattle.sheet.specs.Limits.{MarkLimits, mark_limits, longest_text, agents_allowed, items_allowed}
use Rattle.sheet.specs.Answers.{NeverRefused}
use Rattle.sheet.proofs.Refusals.{never-accepted, never-require, never-require_some, never-and_then}
use Rattle.tokens.specs.Tokens.{Token, tokens}
use Rattle.lexing.specs.Forms.{ended}
use Rattle.sheet_lines.specs.Grammar.{head, Body, body, anything, end_line}
use Rattle.sheet_lines.specs.Marks.{allowed_row}
use Rattle.reading.specs.Reading.{contents_of, sheet_at_front, reading, reading_front}

module _ (k : ℕ) (above : 9 ≤ k) where
  contents-refusals : (limits : MarkLimits) (agents items : ℕ) (lines : Body) → NeverRefused k (contents_of limits agents items lines)
  unfolding contents_of
  contents-refusals limits agents items lines = never-require k 8 (all (allowed_row limits.greatest) lines.rows) _ (λ e. omega arith) (never-accepted k _)

  sheet-refusals : (limits : MarkLimits) (may_follow : List Token → Bool) (text : List ℕ) → NeverRefused k (sheet_at_front limits may_follow text)
  sheet-refusals limits may_follow text =
      never-require k 1 (leb (length text) longest_text) _ (λ e. omega arith)
      (never-require k 2 (ltb 0 (length text)) _ (λ e. omega arith)
      (never-require_some k 3 (head (tokens text)) _ (λ e. omega arith) (λ (agents, items, ts₁).
      never-require k 4 (agents_allowed agents) _ (λ e. omega arith)
      (never-require k 5 (items_allowed items) _ (λ e. omega arith)
      (never-require_some k 6 (body limits.digits agents items ts₁) _ (λ e. omega arith) (λ (lines, ts₂).
      never-require_some k 7 (end_line may_follow ts₂) _ (λ e. omega arith) (λ ts₃.
      never-and_then k (contents_of limits agents items lines) _ (contents-refusals limits agents items lines) (λ sheet. never-accepted k _))))))))

  pub reading-refusals : (text : List ℕ) → NeverRefused k (reading text)
  unfolding reading
  reading-refusals text = never-and_then k (sheet_at_front mark_limits ended text) _ (sheet-refusals mark_limits ended text) (λ _. never-accepted k _)

  pub reading_front-refusals : (text : List ℕ) → NeverRefused k (reading_front text)
  unfolding reading_front
  reading_front-refusals text = sheet-refusals mark_limits anything text
