-- What reading the parts of a text one after another says of the whole: what stands before the line `(end)`, that line, and the marks.
-- Assumes nothing.
use mathlib.Core.Path.{◌≡◌, sym, ap, ◌∙◌, subst}
use mathlib.Core.List.{List}
use mathlib.Core.Bool.{Bool, true, false}
use Rattle.std.specs.Prelude.{None, Some, Ok, Err}
use Prim.Native.Nat.{ℕ}
use Rattle.sheet.specs.Limits.{mark_limits}
use Rattle.sheet.specs.Answers.{refused, accepted, and_then, map_answer}
use Rattle.sheet.specs.Refusals.{number, answer_of}
use Rattle.sheet.specs.Contents.{sheet_of}
use Rattle.sheet.specs.declared.Sheet.{Sheet}
use Rattle.sheet.specs.declared.refusal.Refusal.{Refusal}
use Rattle.sheet.proofs.Answering.{refused-of_err, accepted-of_ok}
use Rattle.tokens.specs.Tokens.{Token}
use Rattle.tokeniser.specs.Places.{tokens_at, start}
use Rattle.tokeniser.specs.Behind.{place_left}
use Rattle.tokeniser.specs.declared.Cursor.{Cursor}
use Rattle.tokeniser.proofs.Behind.{LeavesTokens, reached_then, reached-place}
use Rattle.lexing.specs.Results.{place_after}
use Rattle.lexing.proofs.readers.Places.{ReadTo, place-none, place-to}
use Rattle.sheet_lines.specs.Grammar.{Body, end_line}
use Rattle.sheet_lines.specs.Results.{read_body}
use Rattle.sheet_lines.specs.declared.body.Body as code
use Rattle.sheet_lines.proofs.Suffixes.{end_line-leaves}
use Rattle.reading.specs.Reading.{sheet_at_front}
use Rattle.reading.specs.internal.BeforeEnd.{lines_before_end, stored_lines}
use Rattle.reading.proofs.BeforeEnd.{at_end, front-by-parts, lines-left, end-missed, mark-too-great, sheet-read}

-- a reason that is found before the line `(end)`
pub refused-before : (text : List ℕ) (e : Refusal) (may_follow : List Token → Bool) → answer_of (Err e) ≡ map_answer (stored_lines text) (lines_before_end mark_limits text)
    → sheet_at_front mark_limits may_follow text ≡ refused (number e)
refused-before text e may_follow told =
    sym (front-by-parts mark_limits may_follow text)
    ∙ ap (λ a. and_then a (at_end mark_limits may_follow)) (refused-of_err (stored_lines text) (lines_before_end mark_limits text) e told)

-- what has been read before the line `(end)`
pub record Before (text : List ℕ) (sheet : Sheet) (given : code.Body) (last : Cursor) : Type 0 where
  pub lines : Body
  pub tokens_left : List Token
  pub read : lines_before_end mark_limits text ≡ accepted (sheet.agents, sheet.items, lines, tokens_left)
  pub given_is : given ≡ read_body lines
  pub left : LeavesTokens text start tokens_left last

module _ (text : List ℕ) (sheet : Sheet) (given : code.Body) (last : Cursor) where
  pub before-told : answer_of (Ok (sheet, given, last)) ≡ map_answer (stored_lines text) (lines_before_end mark_limits text) → Before text sheet given last
  before-told told =
      let (x, read, same) = accepted-of_ok (stored_lines text) (lines_before_end mark_limits text) (sheet, given, last) told in
      record {
        lines = x.2;
        tokens_left = x.3;
        read = read ∙ ap (λ counts. accepted (counts.agents, counts.items, x.2, x.3)) (sym (ap (λ p. p.0) same));
        given_is = ap (λ p. p.1) same;
        left = subst (LeavesTokens text start x.3) (sym (ap (λ p. p.2) same)) (lines-left text read);
      }

  -- then the line `(end)` is missed
  module _ (may_follow : List Token → Bool) (b : Before text sheet given last) where
    pub refused-end : None ≡ place_after text last (end_line may_follow (tokens_at text last)) → sheet_at_front mark_limits may_follow text ≡ refused 7
    refused-end told = end-missed text b.read may_follow (rw b.left.tokens_left at (place-none text last (end_line may_follow (tokens_at text last)) told))

    -- or it is read, and the marks decide
    module _ (next : Cursor) (told : Some next ≡ place_after text last (end_line may_follow (tokens_at text last))) where
      end-read : ReadTo text last (end_line may_follow b.tokens_left) (λ ts. ts) next
      end-read = rw b.left.tokens_left at (place-to text last (end_line may_follow (tokens_at text last)) (end_line-leaves may_follow (tokens_at text last)) told)

      pub end-place : next ≡ place_left text start (tokens_at text next)
      end-place = reached-place (reached_then b.left.reached end-read.reached)

      pub refused-mark : given.allowed ≡ false → sheet_at_front mark_limits may_follow text ≡ refused 8
      refused-mark f = mark-too-great text b.read may_follow (tokens_at text next) end-read.read (sym (ap (λ g. g.allowed) b.given_is) ∙ f)

      pub accepted-table : given.allowed ≡ true → sheet_at_front mark_limits may_follow text ≡ accepted (sheet_of sheet.agents sheet.items given.table, tokens_at text next)
      accepted-table f =
          sheet-read text b.read may_follow (tokens_at text next) end-read.read (sym (ap (λ g. g.allowed) b.given_is) ∙ f)
          ∙ ap (λ g. accepted (sheet_of sheet.agents sheet.items g.table, tokens_at text next)) (sym b.given_is)
