-- What the text of the sheet of the three players of document 000, section 2, carries, by computation. Assumes nothing.
use mathlib.Core.Path.{◌≡◌, refl}
use mathlib.Core.List.{flat_map}
use Rattle.sheet.specs.Answers.{accepted}
use Rattle.sheet.specs.ThreePlayers.{players}
use Rattle.tokens.specs.Lines.{on_first, lines, before_remark}
use Rattle.tokens.specs.Tokens.{extended, words, line_tokens, tokens}
use Rattle.lexing.specs.Forms as forms
use Rattle.lexing.specs.Numbers as numbers
use Rattle.sheet_lines.specs.Grammar as grammar
use Rattle.sheet_lines.specs.Kept.{table_of}
use Rattle.reading.specs.Reading.{contents_of, reading}
use Rattle.reading.specs.SampleTexts.{three_players_sheet}

pub three-players-read : reading three_players_sheet ≡ accepted (record { agents = 3; items = 12; table = table_of players })
unfolding reading contents_of grammar.end_line grammar.body grammar.yard_line grammar.yard_turn grammar.head numbers.number_after numbers.number numbers.digits_after numbers.is_number forms.in_turn forms.follow on_first lines before_remark extended words line_tokens tokens flat_map
three-players-read = refl
