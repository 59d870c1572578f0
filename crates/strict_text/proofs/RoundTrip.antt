-- The strict text and the reading. The strict text of everything within the limits is read to just that; an accepted text has the tokens
-- of its strict text, so that the two differ in spaces, remarks and blank lines alone; two accepted texts have the same strict text exactly
-- when they carry the same counts and marks. Assumes nothing.
use mathlib.Core.Path.{◌≡◌, sym, ap, ◌∙◌}
use mathlib.Core.List.{List, [], ◌++◌, append_assoc, append-nil}
use mathlib.Core.Bool.{true}
use mathlib.Core.Logic.{◌↔◌}
use Prim.Native.Nat.{ℕ, ◌≤◌, ◌<◌}
use native.Mathlib.Omega.{arith}
use lib.ListN.{length}
use borrow.Author.Tests.{le-leb, lt-ltb}
use Rattle.lists.specs.Lists.{all}
use Rattle.lists.proofs.members.Each.{AllOfLength}
use Rattle.sheet.specs.Limits.{most_agents, most_items, greatest_mark, mark_digits, mark_limits, longest_text, CountsWithin}
use Rattle.sheet.specs.Answers.{accepted}
use Rattle.sheet.specs.Contents.{Contents}
use Rattle.sheet.proofs.Limits.{counts-allowed}
use Rattle.tokens.specs.Tokens.{Token, tokens}
use Rattle.lexing.specs.Forms.{form}
use Rattle.lexing.proofs.readers.ReadBack.{follow-append}
use Rattle.sheet_lines.specs.SheetForms.{last_line}
use Rattle.sheet_lines.specs.Grammar.{head, Body}
use Rattle.sheet_lines.specs.Marks.{allowed_row}
use Rattle.sheet_lines.specs.Kept.{table_of}
use Rattle.reading.specs.Reading.{reading}
use Rattle.reading.proofs.Accepted.{AcceptedText, carried-contents_of, passes-sheet, accepted-injective, accepted-text, accepted-carried, accepted-counts}
use Rattle.strict_text.specs.StrictText.{head_text, sheet_text, lines_of, strict_text}
use Rattle.strict_text.specs.WithinLimits.{WithinLimits}
use Rattle.strict_text.proofs.SheetTokens.{head_tokens, body_tokens, sheet_tokens}
use Rattle.strict_text.proofs.SheetLexed.{tokens-sheet_text}
use Rattle.strict_text.proofs.Readers.{head-inverse, body-inverse, last_line-inverse}
use Rattle.strict_text.proofs.TokensRead.{head-head_tokens, body-body_tokens}
use Rattle.strict_text.proofs.RowsInUse.{rows_in_use-table_of, rows_in_use-rows, rows_in_use-places, lines-carried, blanked_beyond}
use Rattle.strict_text.proofs.WithinLimits.{rows-in-use, marks-in-use}
use Rattle.strict_text.proofs.TextLength.{length-strict_text}

sheet_text-nonempty : (agents items : ℕ) (lines : Body) → 0 < length (sheet_text agents items lines)
unfolding sheet_text head_text
sheet_text-nonempty agents items lines = omega arith

module _ (c : Contents) where
  -- the strict text of what is within the limits is no longer than a text may be, and is read to just that
  module _ (w : WithinLimits c) where
    strict_text-length : length (strict_text c) ≤ longest_text
    strict_text-length = omega (arith, length-strict_text w)

    -- a text of the sheet's tokens, with others behind them
    pub sheet_tokens-accepted : (text : List ℕ) (behind : List Token) → 0 < length text → length text ≤ longest_text
        → tokens text ≡ sheet_tokens c.agents c.items (lines_of c) ++ behind → AcceptedText mark_limits text c behind
    unfolding sheet_tokens
    sheet_tokens-accepted text behind some_byte short same =
        let few-agents = w.counts.few in
        let few_items = w.counts.few_items in
        let last = form last_line ++ behind in
        record {
          short = le-leb (length text) longest_text short;
          some_byte = lt-ltb 0 (length text) some_byte;
          after_head = body_tokens (lines_of c) ++ last;
          head_is =
              ap head (same ∙ append_assoc (head_tokens c.agents c.items) _ behind ∙ ap (λ ts. head_tokens c.agents c.items ++ ts) (append_assoc (body_tokens (lines_of c)) (form last_line) behind))
              ∙ head-head_tokens c.agents c.items (body_tokens (lines_of c) ++ last) (omega arith) (omega arith);
          agents_within = (counts-allowed c.agents c.items w.counts).0;
          items_within = (counts-allowed c.agents c.items w.counts).1;
          lines = lines_of c;
          last = last;
          lines_are = body-body_tokens c.agents c.items (lines_of c) last (omega arith) (rows-in-use w) (marks-in-use w) w.marks_allowed;
          ends = follow-append (form last_line) behind;
          carries = carried-contents_of mark_limits (lines_of c) c w.marks_allowed w.blank_beyond;
        }

    pub strict_text-read : reading (strict_text c) ≡ accepted c
    unfolding reading strict_text
    strict_text-read =
        let text = sheet_text c.agents c.items (lines_of c) in
        let same = tokens-sheet_text c.agents c.items (lines_of c) ∙ sym (append-nil (sheet_tokens c.agents c.items (lines_of c))) in
        passes-sheet mark_limits text c (sheet_tokens-accepted text [] (sheet_text-nonempty c.agents c.items (lines_of c)) strict_text-length same)

  -- an accepted text: what it is read to is within the limits, its tokens are those of the strict text, and that is read back
  module _ (text : List ℕ) (e : reading text ≡ accepted c) where
    lines-accepted : lines_of c ≡ (accepted-text text c e).lines
    lines-accepted =
        let a = accepted-text text c e in
        lines-carried mark_limits c.agents c.items a.after_head a.lines a.last c a.lines_are a.carries

    pub accepted-tokens : tokens text ≡ tokens (strict_text c)
    unfolding strict_text sheet_tokens
    accepted-tokens =
        let a = accepted-text text c e in
        let from-head = head-inverse (tokens text) (c.agents, c.items, a.after_head) a.head_is in
        let from-lines = body-inverse mark_digits c.agents c.items a.after_head (a.lines, a.last) a.lines_are in
        let from_end = last_line-inverse a.last [] a.ends ∙ append-nil (form last_line) in
        let used = ap body_tokens lines-accepted in
        let strict = tokens-sheet_text c.agents c.items (lines_of c) in
        cc

    pub reading-within_limits : WithinLimits c
    reading-within_limits =
        let a = accepted-text text c e in
        let told = accepted-carried text c e in
        record {
          counts = accepted-counts text c e;
          blank_beyond = told.table_is ∙ ap (λ lines. table_of lines.rows) (sym lines-accepted);
          marks_allowed = ap (λ lines. all (allowed_row greatest_mark) lines.rows) lines-accepted ∙ told.marks_allowed;
        }

    pub accepted-read-back : reading (strict_text c) ≡ accepted c
    accepted-read-back = strict_text-read reading-within_limits

-- two accepted texts have the same strict text exactly when they carry the same counts and marks
pub strict_text-same-iff : (s t : List ℕ) (c d : Contents) → reading s ≡ accepted c → reading t ≡ accepted d → (strict_text c ≡ strict_text d) ↔ (c ≡ d)
strict_text-same-iff s t c d e f =
    let back-c = accepted-read-back c s e in
    let back-d = accepted-read-back d t f in
    (λ same. accepted-injective c d (sym back-c ∙ ap reading same ∙ back-d), ap strict_text)

-- whatever stands in the places that are not in use, the strict text is read to the marks in use
pub strict_text-read-rows_in_use : (c : Contents) → CountsWithin c.agents c.items
    → length c.table ≡ most_agents → AllOfLength most_items c.table → all (allowed_row greatest_mark) (lines_of c).rows ≡ true
    → reading (strict_text c) ≡ accepted (blanked_beyond c)
unfolding strict_text
strict_text-read-rows_in_use c counts n l f =
    let few-agents = counts.few in
    let few_items = counts.few_items in
    let rows = (lines_of c).rows in
    let used = rows_in_use-table_of c.agents c.items rows (rows_in_use-rows c.agents c.items c.table (omega arith)) (rows_in_use-places c.agents c.items c.table most_items few_items l) in
    let within-limits : WithinLimits (blanked_beyond c)
    = record { counts = counts; blank_beyond = ap table_of (sym used); marks_allowed = ap (all (allowed_row greatest_mark)) used ∙ f } in
    ap (λ rows. reading (sheet_text c.agents c.items (record { rows = rows }))) (sym used) ∙ strict_text-read (blanked_beyond c) within-limits
