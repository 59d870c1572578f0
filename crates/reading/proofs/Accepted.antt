-- What an accepted text has: each test of the reading, passed; and a text that passes them is accepted. Assumes nothing.
use mathlib.Core.Path.{◌≡◌, refl, sym, ap, ap₂, ◌∙◌, subst}
use mathlib.Core.List.{List, [], ◌∷◌}
use Rattle.std.specs.Prelude.{Option, None, Some}
use Rattle.lexing.proofs.readers.Tested.{some-injective}
use mathlib.Core.Bool.{Bool, true, false, cond, false≢true}
use Prim.Native.Nat.{ℕ}
use native.Mathlib.Omega.{arith}
use lib.ListN.{length}
use lib.Dec.{leb, ltb}
use Rattle.lists.specs.Lists.{all}
use Rattle.sheet.specs.Limits.{MarkLimits, longest_text, mark_limits, CountsWithin, agents_allowed, items_allowed}
use Rattle.sheet.specs.Answers.{Answer, refused, accepted, and_then}
use Rattle.sheet.specs.Contents.{Contents}
use Rattle.sheet.proofs.Accepted.{refused-not-accepted, required, required_some}
use Rattle.sheet.proofs.Limits.{counts-within}
use Rattle.tokens.specs.Tokens.{Token, tokens}
use Rattle.lexing.specs.Forms.{◌>>=◌, ended, form, follow}
use Rattle.sheet_lines.specs.SheetForms.{last_line}
use Rattle.sheet_lines.specs.Grammar.{head, Body, body, end_line}
use Rattle.sheet_lines.specs.Marks.{allowed_row}
use Rattle.sheet_lines.specs.Kept.{table_of}
use Rattle.reading.specs.Reading.{contents_of, sheet_at_front, sheet_alone, reading_by, reading}

pub accepted-injective : {A : Type 0} (a b : A) → accepted a ≡ accepted b → a ≡ b
accepted-injective a b e = cc

-- what a sheet carries, by its counts and its lines
pub record Carried (limits : MarkLimits) (agents items : ℕ) (lines : Body) (c : Contents) : Type 0 where
  pub agents_are : c.agents ≡ agents
  pub items_are : c.items ≡ items
  pub marks_allowed : all (allowed_row limits.greatest) lines.rows ≡ true
  pub table_is : c.table ≡ table_of lines.rows

module _ (limits : MarkLimits) (agents items : ℕ) (lines : Body) (c : Contents) where
  pub contents_of-carried : contents_of limits agents items lines ≡ accepted c → Carried limits agents items lines c
  unfolding contents_of
  contents_of-carried e =
      let small = required c 8 (all (allowed_row limits.greatest) lines.rows) _ e in
      let same = accepted-injective _ c small.1 in
      record { agents_are = sym (ap (λ d. d.agents) same); items_are = sym (ap (λ d. d.items) same); marks_allowed = small.0; table_is = sym (ap (λ d. d.table) same) }

pub carried-contents_of : (limits : MarkLimits) (lines : Body) (c : Contents) → all (allowed_row limits.greatest) lines.rows ≡ true → c.table ≡ table_of lines.rows
    → contents_of limits c.agents c.items lines ≡ accepted c
unfolding contents_of
carried-contents_of limits lines c small full = rw small (ap (λ table. accepted (record { agents = c.agents; items = c.items; table = table })) (sym full))

-- a text with a sheet that is accepted, what the sheet carries, and the tokens behind it
pub record AcceptedText (limits : MarkLimits) (text : List ℕ) (c : Contents) (behind : List Token) : Type 0 where
  pub short : leb (length text) longest_text ≡ true
  pub some_byte : ltb 0 (length text) ≡ true
  pub after_head : List Token
  pub head_is : head (tokens text) ≡ Some (c.agents, c.items, after_head)
  pub agents_within : agents_allowed c.agents ≡ true
  pub items_within : items_allowed c.items ≡ true
  pub lines : Body
  pub last : List Token
  pub lines_are : body limits.digits c.agents c.items after_head ≡ Some (lines, last)
  pub ends : follow (form last_line) last ≡ Some behind
  pub carries : contents_of limits c.agents c.items lines ≡ accepted c

-- the line `(end)`, and what stands behind it
module _ (may_follow : List Token → Bool) (ts behind : List Token) where
  pub end_line-ends : end_line may_follow ts ≡ Some behind → (follow (form last_line) ts ≡ Some behind) × (may_follow behind ≡ true)
  unfolding end_line
  end_line-ends e = go (follow (form last_line) ts) e
    where
      tested : (ts' : List Token) (test : Bool) → may_follow ts' ≡ test → cond test (Some ts') None ≡ Some behind → (Some ts' ≡ Some behind) × (may_follow behind ≡ true)
      tested ts' true passed e = (e, rw (some-injective _ _ e) at passed)
      tested ts' false passed e = let z : ◌≡◌ {A = ℕ} 0 1 = cc in absurd (omega arith)

      go : (o : Option (List Token)) → (o >>= (λ ts'. cond (may_follow ts') (Some ts') None)) ≡ Some behind → (o ≡ Some behind) × (may_follow behind ≡ true)
      go None e = let z : ◌≡◌ {A = ℕ} 0 1 = cc in absurd (omega arith)
      go (Some ts') e = tested ts' (may_follow ts') refl e

  pub ends-end_line : follow (form last_line) ts ≡ Some behind → may_follow behind ≡ true → end_line may_follow ts ≡ Some behind
  unfolding end_line
  ends-end_line e allowed = rw (e, allowed)

-- what is accepted with these tokens behind it
accepted-behind : (a : Answer Contents) (ts : List Token) (c : Contents) (behind : List Token) → and_then {B = Contents × List Token} a (λ sheet. accepted (sheet, ts)) ≡ accepted (c, behind)
    → (a ≡ accepted c) × (ts ≡ behind)
accepted-behind (refused n) ts c behind e = absurd (refused-not-accepted (c, behind) n e)
accepted-behind (accepted sheet) ts c behind e =
    let same = accepted-injective (sheet, ts) (c, behind) e in
    (ap (λ p. accepted p.0) same, ap (λ p. p.1) same)

-- a text with a sheet of these counts and lines, which carry c
module _ (limits : MarkLimits) (text : List ℕ) (c : Contents) (behind : List Token) where
  text-carries : (agents items : ℕ) (after_head : List Token) (lines : Body) (last : List Token) → leb (length text) longest_text ≡ true → ltb 0 (length text) ≡ true
      → head (tokens text) ≡ Some (agents, items, after_head) → agents_allowed agents ≡ true → items_allowed items ≡ true
      → body limits.digits agents items after_head ≡ Some (lines, last) → follow (form last_line) last ≡ Some behind → contents_of limits agents items lines ≡ accepted c
      → AcceptedText limits text c behind
  text-carries agents items after_head lines last short some_byte counts few few_items are ends carries =
      let told = contents_of-carried limits agents items lines c carries in
      record {
        short = short;
        some_byte = some_byte;
        after_head = after_head;
        head_is = rw (told.agents_are, told.items_are) counts;
        agents_within = rw told.agents_are few;
        items_within = rw told.items_are few_items;
        lines = lines;
        last = last;
        lines_are = rw (told.agents_are, told.items_are) are;
        ends = ends;
        carries = ap₂ (λ a i. contents_of limits a i lines) told.agents_are told.items_are ∙ carries;
      }

module _ (limits : MarkLimits) (may_follow : List Token → Bool) (text : List ℕ) (c : Contents) (behind : List Token) where
  pub accepted-passes : sheet_at_front limits may_follow text ≡ accepted (c, behind) → AcceptedText limits text c behind × (may_follow behind ≡ true)
  accepted-passes e =
      let both : Contents × List Token = (c, behind) in
      let short = required both 1 (leb (length text) longest_text) _ e in
      let some_byte = required both 2 (ltb 0 (length text)) _ short.1 in
      let counts = required_some both 3 (head (tokens text)) _ some_byte.1 in
      let few = required both 4 (agents_allowed counts.0.0) _ counts.2 in
      let few_items = required both 5 (items_allowed counts.0.1) _ few.1 in
      let lines = required_some both 6 (body limits.digits counts.0.0 counts.0.1 counts.0.2) _ few_items.1 in
      let ends = required_some both 7 (end_line may_follow lines.0.1) _ lines.2 in
      let followed = end_line-ends may_follow lines.0.1 ends.0 ends.1 in
      let sheet = accepted-behind (contents_of limits counts.0.0 counts.0.1 lines.0.0) ends.0 c behind ends.2 in (
        text-carries limits text c behind counts.0.0 counts.0.1 counts.0.2 lines.0.0 lines.0.1 short.0 some_byte.0 counts.1 few.0 few_items.0 lines.1
            (followed.0 ∙ ap Some sheet.1) sheet.0,
        sym (ap may_follow sheet.1) ∙ followed.1,
      )

  pub passes-accepted : AcceptedText limits text c behind → may_follow behind ≡ true → sheet_at_front limits may_follow text ≡ accepted (c, behind)
  passes-accepted a allowed =
      rw (a.short, a.some_byte, a.head_is, a.agents_within, a.items_within, a.lines_are, ends-end_line may_follow a.last behind a.ends allowed, a.carries)

-- the sheet of what is read is accepted where it is
pub sheet_alone-accepted : (a : Answer (Contents × List Token)) (c : Contents) → sheet_alone a ≡ accepted c → (behind : List Token) × (a ≡ accepted (c, behind))
sheet_alone-accepted (refused number) c e = absurd (refused-not-accepted c number e)
sheet_alone-accepted (accepted p) c e = (p.1, ap (λ sheet. accepted (sheet, p.1)) (accepted-injective p.0 c e))

ended-empty : (ts : List Token) → ended ts ≡ true → ts ≡ []
ended-empty [] e = refl
ended-empty (t ∷ ts) e = absurd (false≢true e)

-- a text that is a sheet
module _ (limits : MarkLimits) (text : List ℕ) (c : Contents) where
  pub sheet-passes : reading_by limits text ≡ accepted c → AcceptedText limits text c []
  sheet-passes e =
      let front = sheet_alone-accepted (sheet_at_front limits ended text) c e in
      let told = accepted-passes limits ended text c front.0 front.1 in
      subst (AcceptedText limits text c) (ended-empty front.0 told.1) told.0

  pub passes-sheet : AcceptedText limits text c [] → reading_by limits text ≡ accepted c
  passes-sheet a = ap sheet_alone (passes-accepted limits ended text c [] a refl)

-- a text that is accepted now
pub accepted-text : (text : List ℕ) (c : Contents) → reading text ≡ accepted c → AcceptedText mark_limits text c []
unfolding reading
accepted-text = sheet-passes mark_limits

-- what it carries
pub accepted-carried : (text : List ℕ) (c : Contents) (read : reading text ≡ accepted c) → Carried mark_limits c.agents c.items (accepted-text text c read).lines c
accepted-carried text c read = let told = accepted-text text c read in contents_of-carried mark_limits c.agents c.items told.lines c told.carries

-- its counts are within the limits
pub accepted-counts : (text : List ℕ) (c : Contents) → reading text ≡ accepted c → CountsWithin c.agents c.items
accepted-counts text c read =
    let told = accepted-text text c read in
    counts-within c.agents c.items told.agents_within told.items_within
