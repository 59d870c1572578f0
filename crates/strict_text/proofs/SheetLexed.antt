-- The tokens of a sheet's strict text, line by line. Assumes nothing.
use mathlib.Core.Path.{◌≡◌, refl, ◌∙◌}
use mathlib.Core.List.{List, [], ◌∷◌, ◌++◌, append-nil, append_assoc}
use mathlib.Core.Bool.{true, false}
use Prim.Native.Nat.{ℕ, ◌+◌}
use Rattle.text.specs.Bytes.{bytes}
use Rattle.text.specs.Decimal.{decimal, spaced_number}
use Rattle.tokens.specs.Tokens.{opening, closing, tokens}
use Rattle.lexing.specs.Forms.{form}
use Rattle.tokens.proofs.texts.Parts.{begun_after, Lexes, lexed-tokens, ◌then◌, nothing-lexed, space-lexed, bracketed-lexed}
use Rattle.lexing.proofs.texts.Numbers.{number-lexed, numbers-lexed}
use Rattle.sheet_lines.specs.SheetForms.{before_turn, before_marks, line_end, last_line}
use Rattle.sheet_lines.specs.Grammar.{Body}
use Rattle.strict_text.specs.StrictText.{head_text, yard_text, yard_texts, body_text, sheet_text}
use Rattle.strict_text.proofs.SheetTokens.{head_tokens, turn_tokens, yard_tokens, tokens_in_turn, yards_tokens, body_tokens, sheet_tokens}

-- the end of a line, and the lines
pub line-end-lexed : Lexes true (bytes line_end) (form line_end) false
unfolding begun_after
line-end-lexed = bracketed-lexed closing (bytes ")\n") refl refl

head-lexed : (agents items : ℕ) → Lexes false (head_text agents items) (head_tokens agents items) false
unfolding head_text head_tokens begun_after
head-lexed agents items =
    bracketed-lexed opening (bytes "sheet (yards") refl refl then number-lexed agents
    then bracketed-lexed closing (bytes " (pieces") refl refl then number-lexed items then line-end-lexed

turn-lexed : (yard : ℕ) → Lexes false (bytes before_turn ++ spaced_number yard ++ bytes " " ++ bytes before_marks) (turn_tokens yard) true
unfolding turn_tokens begun_after
turn-lexed yard =
    let begins : Lexes false (bytes before_turn ++ spaced_number yard ++ bytes " ") (form before_turn ++ (decimal yard ∷ []) ++ []) true
    = bracketed-lexed opening (bytes "yard") refl refl then number-lexed yard then space-lexed in
    (rw append-nil at begins) then bracketed-lexed opening (bytes "marks") refl refl

yard-lexed : (yard : ℕ) (row : List ℕ) → Lexes false (yard_text yard row) (yard_tokens yard row) false
unfolding yard_text yard_tokens
yard-lexed yard row = turn-lexed yard then numbers-lexed row then line-end-lexed

yards-lexed : (yard : ℕ) (rows : List (List ℕ)) → Lexes false (yard_texts yard rows) (yards_tokens yard rows) false
unfolding yard_texts tokens_in_turn
yards-lexed yard [] = nothing-lexed
yards-lexed yard (row ∷ rows) = yard-lexed yard row then yards-lexed (yard + 1) rows

body-lexed : (lines : Body) → Lexes false (body_text lines) (body_tokens lines) false
unfolding body_text body_tokens
body-lexed lines = yards-lexed 1 lines.rows

pub last-line-lexed : Lexes false (bytes last_line) (form last_line) false
unfolding begun_after
last-line-lexed = bracketed-lexed opening (bytes "end)\n") refl refl

sheet-lexed : (agents items : ℕ) (lines : Body) → Lexes false (sheet_text agents items lines) (head_tokens agents items ++ body_tokens lines ++ form last_line) false
unfolding sheet_text
sheet-lexed agents items lines = head-lexed agents items then body-lexed lines then last-line-lexed

pub tokens-sheet_text : (agents items : ℕ) (lines : Body) → tokens (sheet_text agents items lines) ≡ sheet_tokens agents items lines
unfolding sheet_tokens
tokens-sheet_text agents items lines = lexed-tokens (sheet-lexed agents items lines) ∙ append_assoc (head_tokens agents items) (body_tokens lines) (form last_line)
