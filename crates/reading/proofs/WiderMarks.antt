-- Wider limits of a mark refuse no text that was accepted before, and alter nothing of what it carries (document 02, order 3: "Sheets
-- accepted before divide as they did"). Assumes nothing.
use mathlib.Core.Path.{◌≡◌, sym, ap, ◌∙◌}
use mathlib.Core.List.{List}
use mathlib.Core.Bool.{true}
use Rattle.std.specs.Prelude.{Some}
use Prim.Native.Nat.{ℕ, ◌≤◌}
use native.Mathlib.Omega.{arith}
use borrow.Author.Tests.{leb-true, le-leb}
use Rattle.lists.proofs.members.Each.{all_weaker}
use Rattle.sheet.specs.Limits.{MarkLimits, earlier_mark_limits, mark_limits}
use Rattle.sheet.specs.Answers.{Answer, accepted, and_then}
use Rattle.sheet.specs.Contents.{Contents}
use Rattle.tokens.specs.Tokens.{Token}
use Rattle.lexing.specs.Forms.{◌>>=◌, form, follow}
use Rattle.lexing.specs.Numbers.{number}
use Rattle.lexing.proofs.readers.AlsoReads.{AlsoReads, also-itself, then-also, in-turn-also, number-also}
use Rattle.sheet_lines.specs.SheetForms.{line_end}
use Rattle.sheet_lines.specs.Grammar.{marks, yard_turn, yard_line, yard_lines, Body, body}
use Rattle.sheet_lines.specs.Marks.{allowed, allowed_row}
use Rattle.reading.specs.Reading.{contents_of, reading_by, reading}
use Rattle.reading.proofs.Accepted.{sheet-passes, passes-sheet, contents_of-carried, carried-contents_of}

-- what is read with fewer digits to a mark is read with more
module _ (digits digits' : ℕ) (more : digits ≤ digits') where
  marks-also : (items : ℕ) (ts : List Token) → AlsoReads (marks digits' items ts) (marks digits items ts)
  marks-also = in-turn-also (λ piece. number digits') (λ piece. number digits) (λ piece ts. number-also digits digits' ts more) 1

  yard_line-also : (items turn : ℕ) (ts : List Token) → AlsoReads (yard_line digits' items turn ts) (yard_line digits items turn ts)
  unfolding yard_line
  yard_line-also items turn ts =
      then-also (yard_turn turn ts) (yard_turn turn ts) _ _ (also-itself (yard_turn turn ts))
      (λ ts₁. then-also (marks digits' items ts₁) (marks digits items ts₁) _ _ (marks-also items ts₁)
      (λ r. also-itself (follow (form line_end) r.1 >>= (λ ts₂. Some (r.0, ts₂)))))

  yard_lines-also : (agents items : ℕ) (ts : List Token) → AlsoReads (yard_lines digits' agents items ts) (yard_lines digits agents items ts)
  yard_lines-also agents items = in-turn-also (yard_line digits' items) (yard_line digits items) (yard_line-also items) 1 agents

  body-also : (agents items : ℕ) (ts : List Token) → AlsoReads (body digits' agents items ts) (body digits agents items ts)
  unfolding body
  body-also agents items ts =
      then-also (yard_lines digits' agents items ts) (yard_lines digits agents items ts) _ _ (yard_lines-also agents items ts) (λ r. also-itself (Some (record { rows = r.0 }, r.1)))

-- a row allowed by one greatest mark is allowed by a greater one
row-allowed-also : (greatest greatest' : ℕ) → greatest ≤ greatest' → (row : List ℕ) → allowed_row greatest row ≡ true → allowed_row greatest' row ≡ true
row-allowed-also greatest greatest' greater =
    all_weaker (allowed greatest) (allowed greatest') (λ mark e. let small = leb-true mark greatest e in le-leb mark greatest' (omega arith))

-- what lines carry by one greatest mark they carry by a greater one
contents_of-wider : (limits wider : MarkLimits) → limits.greatest ≤ wider.greatest → (lines : Body) (c : Contents) → contents_of limits c.agents c.items lines ≡ accepted c
    → contents_of wider c.agents c.items lines ≡ accepted c
contents_of-wider limits wider greater lines c e =
    let told = contents_of-carried limits c.agents c.items lines c e in
    carried-contents_of wider lines c
    (all_weaker (allowed_row limits.greatest) (allowed_row wider.greatest) (row-allowed-also limits.greatest wider.greatest greater) lines.rows told.marks_allowed)
    told.table_is

pub accepted-within-wider : (limits wider : MarkLimits) → limits.greatest ≤ wider.greatest → limits.digits ≤ wider.digits
    → (text : List ℕ) (c : Contents) → reading_by limits text ≡ accepted c → reading_by wider text ≡ accepted c
accepted-within-wider limits wider greater more text c e =
    let a = sheet-passes limits text c e in
    passes-sheet wider text c
    (record {
      short = a.short;
      some_byte = a.some_byte;
      after_head = a.after_head;
      head_is = a.head_is;
      agents_within = a.agents_within;
      items_within = a.items_within;
      lines = a.lines;
      last = a.last;
      lines_are = rw a.lines_are at (body-also limits.digits wider.digits more c.agents c.items a.after_head);
      ends = a.ends;
      carries = contents_of-wider limits wider greater a.lines c a.carries;
    })

-- a text accepted when a mark went to 65,535 in five digits is accepted now, with the same counts and table
pub accepted-before : (text : List ℕ) (c : Contents) → reading_by earlier_mark_limits text ≡ accepted c → reading text ≡ accepted c
unfolding reading
accepted-before = accepted-within-wider earlier_mark_limits mark_limits (omega arith) (omega arith)

-- so what follows reading answers what it answered
pub answered-as-before : {B : Type 0} (next : Contents → Answer B) (text : List ℕ) (c : Contents) → reading_by earlier_mark_limits text ≡ accepted c
    → and_then (reading text) next ≡ and_then (reading_by earlier_mark_limits text) next
answered-as-before next text c e = ap (λ a. and_then a next) (accepted-before text c e ∙ sym e)
