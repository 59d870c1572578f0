-- What the texts of sheet a carry, by computation. Assumes nothing.
use mathlib.Core.Path.{◌≡◌, refl}
use mathlib.Core.List.{flat_map}
use Rattle.sheet.specs.Answers.{accepted}
use Rattle.tokens.specs.Lines.{on_first, lines, before_remark}
use Rattle.tokens.specs.Tokens.{extended, words, line_tokens, tokens}
use Rattle.lexing.specs.Forms as forms
use Rattle.lexing.specs.Numbers as numbers
use Rattle.sheet_lines.specs.Grammar as grammar
use Rattle.reading.specs.Reading.{contents_of, reading}
use Rattle.reading.specs.SampleTexts.{sheet_text_a, typed_sheet_a, contents_a}

pub sheet-a-read : reading sheet_text_a ≡ accepted contents_a
unfolding reading contents_of grammar.end_line grammar.body grammar.yard_line grammar.yard_turn grammar.head numbers.number_after numbers.number numbers.digits_after numbers.is_number forms.in_turn forms.follow on_first lines before_remark extended words line_tokens tokens flat_map
sheet-a-read = refl

pub typed-sheet-a-read : reading typed_sheet_a ≡ accepted contents_a
unfolding reading contents_of grammar.end_line grammar.body grammar.yard_line grammar.yard_turn grammar.head numbers.number_after numbers.number numbers.digits_after numbers.is_number forms.in_turn forms.follow on_first lines before_remark extended words line_tokens tokens flat_map
typed-sheet-a-read = refl
