-- The tokens of the text of what a division states, line by line. Assumes nothing.
use mathlib.Core.Path.{◌≡◌, refl, subst}
use mathlib.Core.List.{List, [], ◌∷◌, ◌++◌, flat_map, append-nil, append_assoc}
use mathlib.Core.Bool.{Bool, true, false}
use Prim.Native.Nat.{ℕ}
use Rattle.lists.specs.Lists.{range}
use Rattle.text.specs.Bytes.{bytes}
use Rattle.text.specs.Decimal.{decimal, spaced_number}
use Rattle.tokens.specs.Lines.{space, lines, on_first, before_remark}
use Rattle.tokens.specs.Tokens.{Token, opening, closing, is_bracket, extended, words, line_tokens, tokens}
use Rattle.lexing.specs.Forms.{form}
use Rattle.tokens.proofs.texts.Parts.{begun_after, no_remark, Lexes, lexed-tokens, ◌then◌, nothing-lexed, space-lexed, bracketed-lexed}
use Rattle.lexing.proofs.texts.Numbers.{number-lexed, numbers-lexed, bracket-number-lexed, parts-lexed}
use Rattle.writing.specs.Fields.{field, group}
use Rattle.sheet_lines.specs.SheetForms.{before_items, before_turn, line_end}
use Rattle.strict_text.proofs.SheetLexed.{line-end-lexed, last-line-lexed}
use Rattle.printed_lines.specs.PrintedLines.{head_line, pile_group, worth_and_share, cut_pile, cut_group, printed_yard, all_lines}
use Rattle.division_reading.specs.DivisionForms.{before_counts, before_grade, before_pile, before_worth, before_share, before_cut, before_cut_pile, pile_end}
use Rattle.division_reading.specs.Stated.{StatedLine, Stated}
use Rattle.stated_truth.specs.Truth.{line_of}
use Rattle.stated_text.specs.StatedText.{line_text, stated_text}
use Rattle.stated_text.proofs.DivisionTokens.{field_tokens, head_tokens, bundle_tokens, amounts_tokens, cut_tokens, division_line_tokens, division_tokens}

-- a text that begins with a bracket and goes on without a remark on its line, and a number behind it
field-lexed : {begun : Bool} (b : ℕ) (x : List ℕ) (n : ℕ) → is_bracket b ≡ true → no_remark x ≡ true → begun_after true x ≡ true
    → Lexes begun ((b ∷ x) ++ spaced_number n) (tokens (b ∷ x) ++ (decimal n ∷ [])) true
field-lexed {begun} b x n e r on = (rw on at (bracketed-lexed {begun = begun} b x e r)) then number-lexed n

-- a text behind a space
spaced-lexed : {begun after : Bool} {x : List ℕ} {ts : List Token} → Lexes begun x ts after → Lexes begun (space ∷ x) ts after
spaced-lexed l = space-lexed then l

closing-lexed : Lexes true (bytes pile_end) (form pile_end) true
unfolding begun_after
closing-lexed = bracketed-lexed closing [] refl refl

head-lexed : (agents items grade : ℕ) → Lexes false (head_line agents items grade) (head_tokens agents items grade) false
unfolding head_line head_tokens begun_after
head-lexed agents items grade =
    let agents-lexed : Lexes false (field "(division (yards " agents) (field_tokens before_counts agents) true = field-lexed opening (bytes "division (yards") agents refl refl refl in
    let items-lexed : Lexes true (field ") (pieces " items) (field_tokens before_items items) true = field-lexed closing (bytes " (pieces") items refl refl refl in
    let grade-lexed : Lexes true (field ") (grade " grade) (field_tokens before_grade grade) true = field-lexed closing (bytes " (grade") grade refl refl refl in
    agents-lexed then items-lexed then grade-lexed then line-end-lexed

pile-lexed : (pile : List ℕ) → Lexes true (pile_group pile) (bundle_tokens before_pile pile) true
unfolding pile_group bundle_tokens begun_after
pile-lexed pile = spaced-lexed (bracketed-lexed opening (bytes "pile") refl refl) then numbers-lexed pile then closing-lexed

-- the bracket that a pile of a cut begins with
opening-form : form before_cut_pile ≡ (opening ∷ []) ∷ []
unfolding tokens line_tokens words extended lines on_first before_remark flat_map
opening-form = refl

group-lexed : (pile : List ℕ) → Lexes true (space ∷ group pile) (bundle_tokens before_cut_pile pile) true
unfolding bundle_tokens begun_after
group-lexed [] = spaced-lexed (bracketed-lexed opening [] refl refl then nothing-lexed then closing-lexed)
group-lexed (k ∷ ks) =
    rw opening-form (spaced-lexed (bracket-number-lexed opening k refl then numbers-lexed ks then closing-lexed))

amounts-lexed : (worth share : ℕ) → Lexes true (worth_and_share worth share) (field_tokens before_worth worth ++ field_tokens before_share share ++ form pile_end) true
unfolding worth_and_share begun_after
amounts-lexed worth share =
    let worth-lexed : Lexes true (field " (worth " worth) (field_tokens before_worth worth) true = spaced-lexed (field-lexed opening (bytes "worth") worth refl refl refl) in
    let share-lexed : Lexes true (field ") (share " share) (field_tokens before_share share) true = field-lexed closing (bytes " (share") share refl refl refl in
    worth-lexed then share-lexed then closing-lexed

cut-lexed : (cut : List (List ℕ)) → Lexes true (cut_group cut) (form "(cut" ++ cut_tokens cut ++ form pile_end) true
unfolding cut_group cut_tokens begun_after
cut-lexed cut =
    spaced-lexed (bracketed-lexed opening (bytes "cut") refl refl)
    then parts-lexed cut_pile (bundle_tokens before_cut_pile) cut (λ pile m. group-lexed pile)
    then closing-lexed

-- brackets of one part and of the next, in one form
cut-form : form before_cut ≡ form pile_end ++ form "(cut"
unfolding tokens line_tokens words extended lines on_first before_remark flat_map
cut-form = refl

line-end-form : form line_end ≡ form pile_end ++ form ")\n"
unfolding tokens line_tokens words extended lines on_first before_remark flat_map
line-end-form = refl

-- the parts of a yard line as they are printed, and as they are read
line-parts : (turn : ℕ) (l : StatedLine)
    → field_tokens before_turn turn ++ bundle_tokens before_pile l.bundle ++ (field_tokens before_worth l.worth ++ field_tokens before_share l.share ++ form pile_end)
    ++ (form "(cut" ++ cut_tokens l.cut ++ form pile_end) ++ form ")\n"
    ≡ division_line_tokens turn l
unfolding division_line_tokens amounts_tokens
line-parts turn l = simp (append_assoc, cut-form, line-end-form)

line-lexed : (agent : ℕ) (l : StatedLine) → Lexes false (line_text agent l) (division_line_tokens agent l) false
unfolding printed_yard begun_after
line-lexed agent l =
    let agent-lexed : Lexes false (field "(yard " agent) (field_tokens before_turn agent) true = field-lexed opening (bytes "yard") agent refl refl refl in
    let last-lexed : Lexes true (bytes ")\n") (form ")\n") false = bracketed-lexed closing (bytes "\n") refl refl in
    subst (λ ts. Lexes false (line_text agent l) ts false) (line-parts agent l)
    (agent-lexed then pile-lexed l.bundle then amounts-lexed l.worth l.share then cut-lexed l.cut then last-lexed)

module _ (agents items : ℕ) (d : Stated) where
  division-lexed : Lexes false (stated_text agents items d) (division_tokens agents items d) false
  unfolding stated_text all_lines division_tokens
  division-lexed =
      rw append-nil
      (head-lexed agents items d.grade
      then parts-lexed (λ i. line_text i (line_of d i)) (λ i. division_line_tokens i (line_of d i)) (range 1 agents) (λ i m. line-lexed i (line_of d i))
      then last-line-lexed)

  pub tokens-stated_text : tokens (stated_text agents items d) ≡ division_tokens agents items d
  tokens-stated_text = lexed-tokens division-lexed
