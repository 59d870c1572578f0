-- The tokens of a division's lines: what the laws of its text go through. Assumes nothing: these are definitions.
use mathlib.Core.List.{List, [], ◌∷◌, ◌++◌, map, flat_map}
use Prim.Native.Nat.{ℕ}
use Prim.Native.String.{String}
use Rattle.lists.specs.Lists.{range}
use Rattle.text.specs.Decimal.{decimal}
use Rattle.tokens.specs.Tokens.{Token}
use Rattle.lexing.specs.Forms.{form}
use Rattle.sheet_lines.specs.SheetForms.{before_items, before_turn, line_end, last_line}
use Rattle.division_reading.specs.DivisionForms.{before_counts, before_grade, before_pile, before_worth, before_share, before_cut, before_cut_pile, pile_end}
use Rattle.division_reading.specs.Stated.{StatedLine, Stated}
use Rattle.stated_truth.specs.Truth.{line_of}

-- a form and a number behind it
abbrev pub field_tokens : String → ℕ → List Token
field_tokens before n = form before ++ (decimal n ∷ [])

-- the tokens of the head
unfoldable pub head_tokens : ℕ → ℕ → ℕ → List Token
head_tokens agents items grade = field_tokens before_counts agents ++ field_tokens before_items items ++ field_tokens before_grade grade ++ form line_end

-- a bundle behind what it begins with
unfoldable pub bundle_tokens : String → List ℕ → List Token
bundle_tokens before bundle = form before ++ map decimal bundle ++ form pile_end

unfoldable pub amounts_tokens : ℕ → ℕ → List Token
amounts_tokens worth share = field_tokens before_worth worth ++ field_tokens before_share share ++ form before_cut

-- the bundles of a cut
unfoldable pub cut_tokens : List (List ℕ) → List Token
cut_tokens cut = flat_map (bundle_tokens before_cut_pile) cut

-- the tokens of a yard line
unfoldable pub division_line_tokens : ℕ → StatedLine → List Token
division_line_tokens turn l =
    field_tokens before_turn turn ++ bundle_tokens before_pile l.bundle ++ amounts_tokens l.worth l.share ++ cut_tokens l.cut ++ form line_end

-- the tokens of a division
unfoldable pub division_tokens : ℕ → ℕ → Stated → List Token
division_tokens agents items d = head_tokens agents items d.grade ++ flat_map (λ i. division_line_tokens i (line_of d i)) (range 1 agents) ++ form last_line
