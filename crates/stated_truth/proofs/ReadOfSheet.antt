-- What is read of a text passes the second test of refusal 11, so that no answer on a text goes by it: "other counts" and "a piece not on the
-- sheet" are off the layout there. Assumes nothing.
use mathlib.Core.Path.{◌≡◌, subst, ◌∙◌}
use mathlib.Core.Bool.{true}
use mathlib.Core.List.Memᴰ
use mathlib.Core.List.{List, Memᴰ as Mem}
use Rattle.std.specs.Prelude.{Some}
use Prim.Native.Nat.{ℕ}
use native.Mathlib.Omega.{arith}
use lib.ListN.{length, length-map}
use borrow.Author.Tests.{eq-eqb}
use Rattle.lists.specs.Lists.{all}
use Rattle.lists.proofs.ranges.Ranges.{range-bounds, within-mem}
use Rattle.lists.proofs.members.Counting.{mem-all}
use Rattle.sheet.specs.Limits.{within}
use Rattle.sheet.proofs.Limits.{within_both}
use Rattle.tokens.specs.Tokens.{Token}
use Rattle.division_reading.specs.Stated.{Stated}
use Rattle.division_reading.specs.Shape.{IsBundle, WellFormed}
use Rattle.division_reading.specs.Grammar.{division_text}
use Rattle.division_reading.proofs.Shape.{division-shape}
use Rattle.stated_truth.specs.Truth.{bundles_of, bundles_and_cuts, of_sheet}

module _ (n m : ℕ) where
  of-sheet : (bundles : List (List ℕ)) → length bundles ≡ n → ((b : List ℕ) → Mem b bundles → IsBundle m b) → of_sheet n m bundles ≡ true
  unfolding of_sheet
  of-sheet bundles each is-bundle =
      rw (eq-eqb (length bundles) n each)
      (mem-all (all (within m)) bundles (λ b mb.
      mem-all (within m) b (λ k mk. let bounds = range-bounds 1 m (within-mem m b (is-bundle b mb).on_sheet k mk) in within_both m k bounds.0 (omega arith))))

  pub well-formed-of-sheet : (d : Stated) → WellFormed n m d → bundles_and_cuts (of_sheet n m) d ≡ true
  unfolding bundles_and_cuts
  well-formed-of-sheet d shape =
      let bundles = of-sheet (bundles_of d) (length-map d.lines (λ l. l.bundle) ∙ shape.line_each)
      (λ b mb. let (l, ml, e) = Memᴰ.of_map (λ l. l.bundle) d.lines mb in subst (IsBundle m) e (shape.bundle l ml)) in
      rw bundles (mem-all (λ l. of_sheet n m l.cut) d.lines (λ l ml. of-sheet l.cut (shape.cut_each l ml) (shape.cut_bundle l ml)))

  pub read-of-sheet : (ts : List Token) (d : Stated) → division_text n m ts ≡ Some d → bundles_and_cuts (of_sheet n m) d ≡ true
  read-of-sheet ts d read = well-formed-of-sheet d (division-shape n m ts d read)
