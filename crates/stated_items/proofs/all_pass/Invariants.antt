-- The loop's invariant: by any test that the closure tells, the bundles pass it, and those of the first cuts.
use mathlib.Core.Path.{◌≡◌}
use mathlib.Core.Bool.{Bool, true}
use mathlib.Core.List.{List, map}
use Prim.Native.Nat.{ℕ}
use lib.ListN.{length, take}
use Rattle.std.specs.Fn.{FnReturnsAt}
use Rattle.lists.specs.Lists.{range, nth, all}
use Rattle.sheet.specs.Sets.{items_of}
use Rattle.division_reading.specs.declared.StatedLine.{StatedLine}
use Rattle.stated_truth.specs.Lines.{no_line}
use Rattle.stated_items.proofs.all_pass.Given as goal

module _ (n : ℕ) (test : List (List ℕ) → Bool) where
  -- whether the bundles of the cut of line k pass
  abbrev pub cut_passes : List StatedLine → ℕ → Bool
  cut_passes lines k = test (map items_of (take n (nth no_line lines k).cut))

  -- the bundles pass, and those of the first i cuts
  pub record Passed (bundles : List ℕ) (lines : List StatedLine) (i : ℕ) : Type 0 where
    pub first : test (map items_of (take n bundles)) ≡ true
    pub cuts : all (cut_passes lines) (range 1 i) ≡ true

abbrev pub invariant-loop-line : goal.invariant-loop-line
invariant-loop-line g l =
    (test : List (List ℕ) → Bool)
    → ((sets : List ℕ) (b : Bool) → length sets ≡ l.agents → FnReturnsAt g.F.Fn l.passes sets b → b ≡ test (map items_of sets))
    → Passed l.agents test l.fn.bundles l.fn.lines l.line-index
