-- The loops over the bundles of a cut and over the yard lines, which put what is kept of each into its place, before any is read. Assumes
-- nothing.
use mathlib.Core.Path.{◌≡◌}
use mathlib.Core.List.{List}
use Rattle.std.specs.Prelude.{Option}
use Prim.Native.Nat.{ℕ, ◌≤◌}
use native.Mathlib.Omega.{arith}
use Rattle.lists.specs.Lists.{zeros}
use Rattle.sheet.specs.Limits.{most_agents}
use Rattle.sheet.specs.Sets.{set_of}
use Rattle.tokens.specs.Tokens.{Token}
use Rattle.tokeniser.specs.declared.Cursor.{Cursor}
use Rattle.lexing.specs.Forms.{form}
use Rattle.lexing.proofs.readers.Gathered.{gathered_from, none-gathered, put, padded-gathered}
use Rattle.division_reading.specs.DivisionForms.{before_cut_pile}
use Rattle.division_reading.specs.Grammar.{bundle_after, cut_bundles, division_line, division_lines}
use Rattle.division_reading.specs.Outcome.{cut_sets, kept_line, blank_line, blank_lines, kept_lines}
use Rattle.division_reading.specs.internal.Results.{cut_from, lines_from}
use Rattle.division_reading.specs.declared.StatedLine as line

module _ (agents items : ℕ) (s : List ℕ) (c : Cursor) where
  -- the bundles of a cut, by the sets of the first k and the tokens that are left
  abbrev pub cut_gathered : ℕ → List ℕ → List Token → Option (List ℕ × Cursor)
  cut_gathered k sets ts = gathered_from (λ number. bundle_after (form before_cut_pile) items) (put set_of) s c agents k sets ts

  -- the yard lines, by what is kept of the first k and the tokens that are left
  abbrev pub lines_gathered : ℕ → List line.StatedLine → List Token → Option (List line.StatedLine × Cursor)
  lines_gathered k lines ts = gathered_from (division_line agents items) (put kept_line) s c agents k lines ts

  module _ (ts : List Token) (few : agents ≤ most_agents) where
    pub no-bundle-gathered : cut_from s c (cut_bundles agents items ts) ≡ cut_gathered 0 (zeros most_agents) ts
    no-bundle-gathered = none-gathered _ _ s c agents cut_sets (zeros most_agents) ts (λ cut e. padded-gathered set_of most_agents 0 cut (omega arith))

    pub no-line-gathered : lines_from s c (division_lines agents items ts) ≡ lines_gathered 0 blank_lines ts
    no-line-gathered = none-gathered _ _ s c agents kept_lines blank_lines ts (λ lines e. padded-gathered kept_line most_agents blank_line lines (omega arith))
