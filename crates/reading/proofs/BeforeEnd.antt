-- A sheet at the front of a text, by what stands before the line `(end)`, by that line and by its marks. Assumes nothing.
use mathlib.Core.Path.{◌≡◌, refl, sym, ap, ◌∙◌}
use mathlib.Core.List.{List, IsSuffix, IsSuffix-trans as suffix_trans}
use mathlib.Core.Bool.{Bool, true, false}
use Rattle.std.specs.Prelude.{Option, None, Some}
use Prim.Native.Nat.{ℕ}
use lib.Dec.{leb, ltb}
use lib.ListN.{length}
use Rattle.lists.specs.Lists.{all}
use Rattle.sheet.specs.Limits.{MarkLimits, mark_limits, greatest_mark, longest_text, agents_allowed, items_allowed}
use Rattle.sheet.specs.Answers.{Answer, refused, accepted, require, and_then, require_some}
use Rattle.sheet.specs.Contents.{Contents, sheet_of}
use Rattle.sheet.proofs.Accepted.{required, required_some}
use Rattle.tokens.specs.Tokens.{Token, tokens}
use Rattle.tokeniser.specs.Places.{start}
use Rattle.tokeniser.specs.Behind.{place_left}
use Rattle.tokeniser.proofs.Places.{tokens-start}
use Rattle.tokeniser.proofs.Behind.{LeavesTokens, place-leaves}
use Rattle.sheet_lines.specs.Grammar.{head, Body, body, end_line}
use Rattle.sheet_lines.specs.Marks.{allowed_row}
use Rattle.sheet_lines.specs.Kept.{table_of, kept_table}
use Rattle.sheet_lines.proofs.Suffixes.{head-leaves, body-leaves}
use Rattle.sheet_lines.proofs.kept.StoredTable.{allowed-kept}
use Rattle.reading.specs.Reading.{contents_of, sheet_at_front}
use Rattle.reading.proofs.Accepted.{accepted-injective}
use Rattle.reading.specs.internal.BeforeEnd.{lines_before_end}

-- what follows a test, or something that is there
module _ {A B : Type 0} (next : A → Answer B) where
  then-require : (n : ℕ) (test : Bool) (a : Answer A) (b : Answer B) → and_then a next ≡ b → and_then (require n test a) next ≡ require n test b
  then-require n true a b e = e
  then-require n false a b e = refl

  then-require_some : {C : Type 0} (n : ℕ) (o : Option C) (f : C → Answer A) (g : C → Answer B) → ((x : C) → and_then (f x) next ≡ g x)
      → and_then (require_some n o f) next ≡ require_some n o g
  then-require_some n None f g e = refl
  then-require_some n (Some x) f g e = e x

-- the line `(end)`, and then the marks
abbrev pub at_end : MarkLimits → (List Token → Bool) → ℕ × ℕ × Body × List Token → Answer (Contents × List Token)
at_end limits may_follow (agents, items, lines, ts) =
    require_some 7 (end_line may_follow ts) (λ behind. and_then (contents_of limits agents items lines) (λ sheet. accepted (sheet, behind)))

pub front-by-parts : (limits : MarkLimits) (may_follow : List Token → Bool) (text : List ℕ)
    → and_then (lines_before_end limits text) (at_end limits may_follow) ≡ sheet_at_front limits may_follow text
unfolding lines_before_end
front-by-parts limits may_follow text =
    let next = at_end limits may_follow in
    then-require next 1 (leb (length text) longest_text) _ _
    (then-require next 2 (ltb 0 (length text)) _ _
    (then-require_some next 3 (head (tokens text)) _ _ (λ (agents, items, ts₁).
    then-require next 4 (agents_allowed agents) _ _
    (then-require next 5 (items_allowed items) _ _
    (then-require_some next 6 (body limits.digits agents items ts₁) _ _ (λ q. refl))))))

-- what stands before the line `(end)`, where no reason is found before it
module _ (text : List ℕ) {agents items : ℕ} {lines : Body} {ts : List Token} (before : lines_before_end mark_limits text ≡ accepted (agents, items, lines, ts)) where
  lines-leave : IsSuffix ts (tokens text)
  unfolding lines_before_end
  lines-leave =
      let p : ℕ × ℕ × Body × List Token = (agents, items, lines, ts) in
      let short = required p 1 (leb (length text) longest_text) _ before in
      let some_byte = required p 2 (ltb 0 (length text)) _ short.1 in
      let counts = required_some p 3 (head (tokens text)) _ some_byte.1 in
      let few = required p 4 (agents_allowed counts.0.0) _ counts.2 in
      let few_items = required p 5 (items_allowed counts.0.1) _ few.1 in
      let read = required_some p 6 (body mark_limits.digits counts.0.0 counts.0.1 counts.0.2) _ few_items.1 in
      let after_head = rw counts.1 at (head-leaves (tokens text)) in
      let after-lines = rw read.1 at (body-leaves mark_limits.digits counts.0.0 counts.0.1 counts.0.2) in
      let same : read.0.1 ≡ ts = ap (λ q. q.3) (accepted-injective _ p read.2) in
      suffix_trans (rw same at after-lines) after_head

  -- its tokens are left at the place behind it
  pub lines-left : LeavesTokens text start ts (place_left text start ts)
  lines-left = place-leaves {s = text} {c = start} {ts = ts} (rw (tokens-start text) lines-leave)

  -- then the line `(end)` and the marks decide
  module _ (may_follow : List Token → Bool) where
    front-at-end : sheet_at_front mark_limits may_follow text ≡ at_end mark_limits may_follow (agents, items, lines, ts)
    front-at-end = sym (front-by-parts mark_limits may_follow text) ∙ ap (λ a. and_then a (at_end mark_limits may_follow)) before

    pub end-missed : end_line may_follow ts ≡ None → sheet_at_front mark_limits may_follow text ≡ refused 7
    end-missed e = front-at-end ∙ rw e

    module _ (behind : List Token) (e : end_line may_follow ts ≡ Some behind) where
      marks-decide : (small : Bool) → all (allowed_row greatest_mark) lines.rows ≡ small
          → sheet_at_front mark_limits may_follow text
          ≡ and_then (require 8 small (accepted (sheet_of agents items (table_of lines.rows)))) (λ sheet. accepted (sheet, behind))
      unfolding contents_of
      marks-decide small f = front-at-end ∙ rw (e, f)

      pub mark-too-great : all (allowed_row greatest_mark) lines.rows ≡ false → sheet_at_front mark_limits may_follow text ≡ refused 8
      mark-too-great f = marks-decide false f

      pub sheet-read : all (allowed_row greatest_mark) lines.rows ≡ true → sheet_at_front mark_limits may_follow text ≡ accepted (sheet_of agents items (kept_table lines.rows), behind)
      sheet-read f = marks-decide true f ∙ ap (λ table. accepted (sheet_of agents items table, behind)) (sym (allowed-kept lines.rows f))
