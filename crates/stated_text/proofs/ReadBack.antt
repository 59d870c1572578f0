-- Every division in the printed layout is read (document 02, order 5), so that the grammar of divisions leaves out none: where a division has
-- the shape of what is read, and its figures have at most so many digits, its text is read back to just what it states. Assumes nothing.
use mathlib.Core.Path.{◌≡◌, ap, ◌∙◌}
use Rattle.std.specs.Prelude.{Some}
use Prim.Native.Nat.{ℕ, ◌≤◌}
use Rattle.sheet.specs.Limits.{most_agents, most_items}
use Rattle.tokens.specs.Tokens.{tokens}
use Rattle.division_reading.specs.Stated.{Stated}
use Rattle.division_reading.specs.Grammar.{division_text}
use Rattle.division_reading.specs.Shape.{WellFormed, FewDigits}
use Rattle.stated_truth.specs.Truth.{line_of}
use Rattle.stated_text.specs.StatedText.{stated_text}
use Rattle.stated_text.proofs.Lines.{line-mem, line-bundle, line-cut-each, line-cut-bundle}
use Rattle.stated_text.proofs.Lexed.{tokens-stated_text}
use Rattle.stated_text.proofs.TokensRead.{division_text-division_tokens}

pub stated_text-reads-back : (n m : ℕ) (d : Stated) → n ≤ most_agents → m ≤ most_items → WellFormed n m d → FewDigits d → division_text n m (tokens (stated_text n m d)) ≡ Some d
stated_text-reads-back n m d few few_items shape small =
    ap (division_text n m) (tokens-stated_text n m d)
    ∙ division_text-division_tokens n m few few_items d shape.line_each small.grade_below
    (λ i in_use. record {
      of_items = line-bundle n m d shape in_use;
      worth_small = small.worth_below (line_of d i) (line-mem n m d shape in_use);
      share_small = small.share_below (line_of d i) (line-mem n m d shape in_use);
      cut_each = line-cut-each n m d shape in_use;
      cut_of_items = line-cut-bundle n m d shape in_use;
    })
