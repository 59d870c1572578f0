-- Sample j of document 01, as order 3 of document 02 has it, all but the text of 4,097 bytes, texts as order 1 has them, and sheets before
-- another text as order 5 has them, by computation (sheet a stands in SheetA.antt). Assumes nothing.
use mathlib.Core.Path.{◌≡◌, refl}
use mathlib.Core.List.{List, [], ◌∷◌, ◌++◌, map, flat_map}
use lib.ListN.{replicate}
use Prim.Native.Nat.{ℕ}
use Prim.Native.String.{String}
use Rattle.sheet.specs.Limits.{earlier_mark_limits}
use Rattle.sheet.specs.Answers.{Answer, refused, accepted}
use Rattle.sheet.specs.Contents.{Contents}
use Rattle.text.specs.Bytes.{bytes}
use Rattle.tokens.specs.Lines.{space, on_first, lines, before_remark}
use Rattle.tokens.specs.Tokens.{Token, extended, words, line_tokens, tokens}
use Rattle.lexing.specs.Forms.{form, follow, in_turn}
use Rattle.lexing.specs.Numbers.{number_after, number, digits_after, is_number}
use Rattle.sheet_lines.specs.Grammar.{end_line, body, yard_line, yard_turn, head}
use Rattle.sheet_lines.specs.Kept.{table_of}
use Rattle.reading.specs.Reading.{contents_of, reading_by, reading, reading_front}
use Rattle.reading.specs.SampleTexts.{sheet_text_a}

-- the contents of a text with these counts and these rows of marks
abbrev contents : ℕ → ℕ → List (List ℕ) → Answer Contents
contents agents items rows = accepted (record { agents = agents; items = items; table = table_of rows })

-- each text with what reading it answers
abbrev pub samples : List (String × Answer Contents)
samples =
    ("(sheet (yards 6) (pieces 1))\n(yard 1 (marks 1))\n(yard 2 (marks 2))\n(yard 3 (marks 3))\n(yard 4 (marks 4))\n(yard 5 (marks 5))\n(yard 6 (marks 6))\n(end)\n", contents 6 1 ((1 ∷ []) ∷ (2 ∷ []) ∷ (3 ∷ []) ∷ (4 ∷ []) ∷ (5 ∷ []) ∷ (6 ∷ []) ∷ []))
    ∷ ("(sheet (yards 0) (pieces 1))\n(end)\n", refused 4)
    ∷ ("(sheet (yards 7) (pieces 1))\n(end)\n", refused 4)
    ∷ ("(sheet (yards 1) (pieces 12))\n(yard 1 (marks 1 2 3 4 5 6 7 8 9 10 11 12))\n(end)\n", contents 1 12 ((1 ∷ 2 ∷ 3 ∷ 4 ∷ 5 ∷ 6 ∷ 7 ∷ 8 ∷ 9 ∷ 10 ∷ 11 ∷ 12 ∷ []) ∷ []))
    ∷ ("(sheet (yards 1) (pieces 0))\n(yard 1 (marks))\n(end)\n", refused 5)
    ∷ ("(sheet (yards 1) (pieces 13))\n(end)\n", refused 5)
    ∷ ("(sheet (yards 1) (pieces 1))\n(yard 1 (marks 4294967295))\n(end)\n", contents 1 1 ((4294967295 ∷ []) ∷ []))
    ∷ ("(sheet (yards 1) (pieces 1))\n(yard 1 (marks 4294967296))\n(end)\n", refused 8)
    ∷ ("(sheet (yards 1) (pieces 1))\n(yard 1 (marks 9999999999))\n(end)\n", refused 8)
    ∷ ("(sheet (yards 1) (pieces 1))\n(yard 1 (marks 10000000000))\n(end)\n", refused 6)
    ∷ ("(sheet (yards 1) (pieces 1))\n(yard 1 (marks 05))\n(end)\n", refused 6)
    ∷ ("(sheet (yards 7) (pieces 1))\n(yard 1 (marks 5000000000))\n(end)\n", refused 4)
    ∷ []

-- what sample j said of marks before order 3
abbrev pub samples_before : List (String × Answer Contents)
samples_before =
    ("(sheet (yards 1) (pieces 1))\n(yard 1 (marks 65535))\n(end)\n", contents 1 1 ((65535 ∷ []) ∷ []))
    ∷ ("(sheet (yards 1) (pieces 1))\n(yard 1 (marks 65536))\n(end)\n", refused 8)
    ∷ ("(sheet (yards 1) (pieces 1))\n(yard 1 (marks 99999))\n(end)\n", refused 8)
    ∷ ("(sheet (yards 1) (pieces 1))\n(yard 1 (marks 100000))\n(end)\n", refused 6)
    ∷ []

-- texts with spaces, remarks and blank lines
abbrev pub typed : List (String × Answer Contents)
typed =
    ("; felling 12\n\n( sheet(yards 2) (pieces  3 )) ; two of us\n  (yard 1 ( marks 5 3 4))\n   \n(yard 2 (marks 6 2 2 ) );(end)\n(end)  \n ; thanks", contents 2 3 ((5 ∷ 3 ∷ 4 ∷ []) ∷ (6 ∷ 2 ∷ 2 ∷ []) ∷ []))
    ∷ ("(sheet (yards 1) (pieces 1))\n(yard 1 (marks 5))\n(end) ; thanks", refused 7)
    ∷ ("(sheet (yards 1) (pieces 1))\n(yard 1 (marks 5))\n(end)\n; thanks", contents 1 1 ((5 ∷ []) ∷ []))
    ∷ ("(sheet (yards 1) (pieces 1))\n(yard 1 (marks 1 2))\n(end)\n", refused 6)
    ∷ ("(sheet (yards 1) (pieces 1))\n(yard 1 (marks 1;2))\n(end)\n", refused 6)
    ∷ ("(sheet (yards 1) (pieces 1))\n(yard 1 (marks\n1))\n(end)\n", refused 6)
    ∷ ("(sheet (yards 1) (pieces 1))\n(yard1 (marks 1))\n(end)\n", refused 6)
    ∷ ("(sheet (yards 1) (pieces 1))\n(yard 1 (marks\t1))\n(end)\n", refused 6)
    ∷ ("  ; (sheet (yards 1) (pieces 1))\n  \n", refused 3)
    ∷ (" ", refused 3)
    ∷ []

pub samples-read : map (λ p. reading (bytes p.0)) samples ≡ map (λ p. p.1) samples
unfolding reading contents_of end_line body yard_line yard_turn head number_after number digits_after is_number follow in_turn on_first lines before_remark extended words line_tokens tokens flat_map
samples-read = refl

pub samples-read-before : map (λ p. reading_by earlier_mark_limits (bytes p.0)) samples_before ≡ map (λ p. p.1) samples_before
unfolding contents_of end_line body yard_line yard_turn head number_after number digits_after is_number follow in_turn on_first lines before_remark extended words line_tokens tokens flat_map
samples-read-before = refl

pub typed-read : map (λ p. reading (bytes p.0)) typed ≡ map (λ p. p.1) typed
unfolding reading contents_of end_line body yard_line yard_turn head number_after number digits_after is_number follow in_turn on_first lines before_remark extended words line_tokens tokens flat_map
typed-read = refl

-- refusal 1 counts the bytes as typed: sheet a with so many spaces behind it that the text has 4,096 bytes, and 4,097
abbrev spaced : ℕ → List ℕ
spaced n = sheet_text_a ++ replicate n space

pub bytes-counted-as-typed : map reading (spaced 4015 ∷ spaced 4016 ∷ []) ≡ contents 2 3 ((5 ∷ 3 ∷ 4 ∷ []) ∷ (6 ∷ 2 ∷ 2 ∷ []) ∷ []) ∷ refused 1 ∷ []
unfolding reading contents_of end_line body yard_line yard_turn head number_after number digits_after is_number follow in_turn on_first lines before_remark extended words line_tokens tokens flat_map
bytes-counted-as-typed = refl

-- sheets with another text behind them, each with what reading answers as a sheet, and as a sheet before another text
abbrev pub followed : List (String × Answer Contents × Answer (Contents × List Token))
followed =
    ("(sheet (yards 1) (pieces 1))\n(yard 1 (marks 5))\n(end)\n(worth 5) ; more\n", refused 7, accepted (record { agents = 1; items = 1; table = table_of ((5 ∷ []) ∷ []) }, form "(worth 5)\n"))
    ∷ ("(sheet (yards 1) (pieces 1))\n(yard 1 (marks 4294967296))\n(end)\n(worth 5)\n", refused 7, refused 8)
    ∷ ("(sheet (yards 1) (pieces 1))\n(yard 1 (marks 5))\n(end) (worth 5)\n", refused 7, refused 7)
    ∷ ("(sheet (yards 1) (pieces 1))\n(yard 1 (marks 5))\n(worth 5)\n(end)\n", refused 7, refused 7)
    ∷ ("(sheet (yards 1) (pieces 1))\n(worth 5)\n", refused 6, refused 6)
    ∷ []

pub followed-read : map (λ p. (p.0, reading (bytes p.0), reading_front (bytes p.0))) followed ≡ followed
unfolding reading reading_front contents_of end_line body yard_line yard_turn head number_after number digits_after is_number follow in_turn on_first lines before_remark extended words line_tokens tokens flat_map
followed-read = refl
