-- What a reader has read is written by the tokens that it took: each reader of the grammar inverted. Assumes nothing.
use mathlib.Core.Path.{◌≡◌, refl, sym, ap, ap₂, ◌∙◌}
use mathlib.Core.List.{List, [], ◌∷◌, ◌++◌, map, append_assoc}
use Rattle.std.specs.Prelude.{Option, None, Some}
use Rattle.std.proofs.lemmas.Option.{none-some}
use Rattle.lexing.proofs.readers.Tested.{some-injective}
use mathlib.Core.Bool.{Bool, true, false, and-eq-true_iff, false≢true}
use Prim.Native.Nat.{ℕ, zero, suc, ◌+◌}
use lib.Dec.{eqb}
use borrow.Author.Tests.{eqb-true}
use Rattle.lists.specs.Lists.{all}
use Rattle.text.specs.Bytes.{bytes}
use Rattle.text.specs.Decimal.{decimal}
use Rattle.tokens.specs.Tokens.{Token}
use Rattle.sheet.specs.Limits.{count_digits}
use Rattle.lexing.specs.Forms.{◌>>=◌, same, form, follow, in_turn}
use Rattle.lexing.specs.Numbers.{is_number, digits_after, number, number_after, follow_number}
use Rattle.sheet_lines.specs.SheetForms.{before_agents, before_items, before_turn, before_marks, line_end, last_line}
use Rattle.sheet_lines.specs.Grammar.{head, marks, yard_turn, yard_line, yard_lines, Body, body}
use Rattle.strict_text.proofs.SheetTokens.{head_tokens, tokens_in_turn, turn_tokens, yard_tokens, yards_tokens, body_tokens}
use Rattle.lexing.proofs.readers.Same.{same_true}
use Rattle.lexing.proofs.readers.Tested.{passed}
use Rattle.numerals.proofs.DecimalDigits.{decimal-of-value}
use Rattle.tokens.specs.Tokenised.{has_byte}
use Rattle.tokens.proofs.texts.TextTokens.{tokens-have-bytes}

-- what two readers, one after the other, have read
record Bound {A B : Type 0} (o : Option A) (f : A → Option B) (b : B) : Type 0 where
  first : A
  first_read : o ≡ Some first
  then_read : f first ≡ Some b

bound : {A B : Type 0} (o : Option A) (f : A → Option B) (b : B) → (o >>= f) ≡ Some b → Bound o f b
bound None f b e = absurd (none-some b e)
bound (Some a) f b e = record { first = a; first_read = refl; then_read = e }

-- the parts of what was read
two-read : {A B : Type 0} (a : A) (b : B) (r : A × B) → Some (a, b) ≡ Some r → (a ≡ r.0) × (b ≡ r.1)
two-read a b r e = let p = some-injective _ _ e in (ap (λ q. q.0) p, ap (λ q. q.1) p)

three-read : {A B C : Type 0} (a : A) (b : B) (c : C) (r : A × B × C) → Some (a, b, c) ≡ Some r → (a ≡ r.0) × (b ≡ r.1) × (c ≡ r.2)
three-read a b c r e = let p = some-injective _ _ e in (ap (λ q. q.0) p, ap (λ q. q.1) p, ap (λ q. q.2) p)

follow-inverse : (fs ts ts' : List Token) → all has_byte fs ≡ true → follow fs ts ≡ Some ts' → ts ≡ fs ++ ts'
unfolding follow
follow-inverse [] ts ts' t e = some-injective ts ts' e
follow-inverse ([] ∷ fs) ts ts' t e = absurd (false≢true t)
follow-inverse ((b ∷ bs) ∷ fs) [] ts' t e = absurd (none-some ts' e)
follow-inverse ((b ∷ bs) ∷ fs) (w ∷ ws) ts' t e =
    go (same (b ∷ bs) w) refl (follow-inverse fs ws ts' ((and-eq-true_iff (has_byte (b ∷ bs)) (all has_byte fs)).0 t).1)
  where
    go : (p : Bool) → same (b ∷ bs) w ≡ p → (follow fs ws ≡ Some ts' → ws ≡ fs ++ ts') → w ∷ ws ≡ (b ∷ bs) ∷ fs ++ ts'
    go true s later = ap₂ ◌∷◌ (sym (same_true (b ∷ bs) w s)) (later (rw s at e))
    go false s later = absurd (none-some ts' (rw s at e))

number-inverse : (most : ℕ) (ts : List Token) (r : ℕ × List Token) → number most ts ≡ Some r → ts ≡ decimal r.0 ∷ r.1
unfolding number is_number
number-inverse most [] r e = absurd (none-some r e)
number-inverse most (w ∷ ws) r e =
    let read = passed (is_number most w) (digits_after 0 w, ws) r e in
    ap (λ v. v ∷ ws) (sym (decimal-of-value most w read.0)) ∙ ap (λ q. decimal q.0 ∷ q.1) read.1

number_after-inverse : (fs : List Token) (most : ℕ) (ts : List Token) (r : ℕ × List Token) → all has_byte fs ≡ true → number_after fs most ts ≡ Some r
    → ts ≡ fs ++ decimal r.0 ∷ r.1
unfolding number_after
number_after-inverse fs most ts r t e =
    let a = bound (follow fs ts) (number most) r e in
    follow-inverse fs ts a.first t a.first_read ∙ ap (λ l. fs ++ l) (number-inverse most a.first r a.then_read)

follow_number-inverse : (fs : List Token) (most n : ℕ) (ts ts' : List Token) → all has_byte fs ≡ true → follow_number fs most n ts ≡ Some ts'
    → ts ≡ fs ++ decimal n ∷ ts'
follow_number-inverse fs most n ts ts' t e =
    let a = bound (number_after fs most ts) _ ts' e in
    let test = passed (eqb a.first.0 n) a.first.1 ts' a.then_read in
    number_after-inverse fs most ts a.first t a.first_read ∙ ap₂ (λ k l. fs ++ decimal k ∷ l) (eqb-true a.first.0 n test.0) test.1

pub head-inverse : (ts : List Token) (r : ℕ × ℕ × List Token) → head ts ≡ Some r → ts ≡ head_tokens r.0 r.1 ++ r.2
unfolding head head_tokens
head-inverse ts r e =
    let agents = bound (number_after (form before_agents) count_digits ts) _ r e in
    let items = bound (number_after (form before_items) count_digits agents.first.1) _ r agents.then_read in
    let line = bound (follow (form line_end) items.first.1) _ r items.then_read in
    let to-agents = number_after-inverse (form before_agents) count_digits ts agents.first (tokens-have-bytes (bytes before_agents)) agents.first_read in
    let to-items = number_after-inverse (form before_items) count_digits agents.first.1 items.first (tokens-have-bytes (bytes before_items)) items.first_read in
    let to_end = follow-inverse (form line_end) items.first.1 line.first (tokens-have-bytes (bytes line_end)) line.first_read in
    let all_read = three-read agents.first.0 items.first.0 line.first r line.then_read in
    simp append_assoc (cc)

-- readings one after another, each of which is inverted
module _ {A : Type 0} (reader : ℕ → List Token → Option (A × List Token)) (tokens_of : ℕ → A → List Token) where
  in_turn-inverse : ((turn : ℕ) (ts : List Token) (r : A × List Token) → reader turn ts ≡ Some r → ts ≡ tokens_of turn r.0 ++ r.1)
      → (turn n : ℕ) (ts : List Token) (r : List A × List Token) → in_turn reader turn n ts ≡ Some r → ts ≡ tokens_in_turn tokens_of turn r.0 ++ r.1
  unfolding in_turn tokens_in_turn
  in_turn-inverse one turn zero ts r e = let all_read = two-read [] ts r e in rw (← all_read.0) all_read.1
  in_turn-inverse one turn (suc n) ts r e =
      let this = bound (reader turn ts) _ r e in
      let later = bound (in_turn reader (turn + 1) n this.first.1) _ r this.then_read in
      let to-next = one turn ts this.first this.first_read in
      let to_end = in_turn-inverse one (turn + 1) n this.first.1 later.first later.first_read in
      let all_read = two-read (this.first.0 ∷ later.first.0) later.first.1 r later.then_read in
      let split : tokens_in_turn tokens_of turn r.0 ++ r.1 ≡ tokens_of turn this.first.0 ++ (tokens_in_turn tokens_of (turn + 1) later.first.0 ++ r.1)
      = ap (λ l. tokens_in_turn tokens_of turn l ++ r.1) (sym all_read.0) ∙ append_assoc (tokens_of turn this.first.0) _ r.1 in
      cc

decimals-in-turn : (turn : ℕ) (ns : List ℕ) → tokens_in_turn (λ piece m. decimal m ∷ []) turn ns ≡ map decimal ns
unfolding tokens_in_turn
decimals-in-turn turn [] = refl
decimals-in-turn turn (n ∷ ns) = ap (λ l. decimal n ∷ l) (decimals-in-turn (turn + 1) ns)

marks-inverse : (digits n : ℕ) (ts : List Token) (r : List ℕ × List Token) → marks digits n ts ≡ Some r → ts ≡ map decimal r.0 ++ r.1
marks-inverse digits n ts r e =
    in_turn-inverse (λ piece. number digits) (λ piece m. decimal m ∷ []) (λ piece. number-inverse digits) 1 n ts r e
    ∙ ap (λ l. l ++ r.1) (decimals-in-turn 1 r.0)

yard_turn-inverse : (turn : ℕ) (ts ts' : List Token) → yard_turn turn ts ≡ Some ts' → ts ≡ turn_tokens turn ++ ts'
unfolding yard_turn turn_tokens
yard_turn-inverse turn ts ts' e =
    let yard = bound (follow_number (form before_turn) count_digits turn ts) _ ts' e in
    let to-yard = follow_number-inverse (form before_turn) count_digits turn ts yard.first (tokens-have-bytes (bytes before_turn)) yard.first_read in
    let to-marks = follow-inverse (form before_marks) yard.first ts' (tokens-have-bytes (bytes before_marks)) yard.then_read in
    simp append_assoc (cc)

yard_line-inverse : (digits items turn : ℕ) (ts : List Token) (r : List ℕ × List Token) → yard_line digits items turn ts ≡ Some r → ts ≡ yard_tokens turn r.0 ++ r.1
unfolding yard_line yard_tokens
yard_line-inverse digits items turn ts r e =
    let start = bound (yard_turn turn ts) _ r e in
    let row = bound (marks digits items start.first) _ r start.then_read in
    let line = bound (follow (form line_end) row.first.1) _ r row.then_read in
    let to_row = yard_turn-inverse turn ts start.first start.first_read in
    let to_end = marks-inverse digits items start.first row.first row.first_read in
    let to-next = follow-inverse (form line_end) row.first.1 line.first (tokens-have-bytes (bytes line_end)) line.first_read in
    let all_read = two-read row.first.0 line.first r line.then_read in
    simp append_assoc (cc)

yard_lines-inverse : (digits agents items : ℕ) (ts : List Token) (r : List (List ℕ) × List Token) → yard_lines digits agents items ts ≡ Some r
    → ts ≡ yards_tokens 1 r.0 ++ r.1
yard_lines-inverse digits agents items = in_turn-inverse (yard_line digits items) yard_tokens (yard_line-inverse digits items) 1 agents

pub body-inverse : (digits agents items : ℕ) (ts : List Token) (r : Body × List Token) → body digits agents items ts ≡ Some r → ts ≡ body_tokens r.0 ++ r.1
unfolding body body_tokens
body-inverse digits agents items ts r e =
    let lines = bound (yard_lines digits agents items ts) _ r e in
    let to_end = yard_lines-inverse digits agents items ts lines.first lines.first_read in
    let all_read : ◌≡◌ {A = Body × List Token} (record { rows = lines.first.0 }, lines.first.1) r = some-injective _ _ lines.then_read in
    to_end ∙ ap (λ q. yards_tokens 1 q.0.rows ++ q.1) all_read

pub last_line-inverse : (ts behind : List Token) → follow (form last_line) ts ≡ Some behind → ts ≡ form last_line ++ behind
last_line-inverse ts behind = follow-inverse (form last_line) ts behind (tokens-have-bytes (bytes last_line))
