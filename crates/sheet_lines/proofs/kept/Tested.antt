-- Loops that store entries in places one after another, and test them. Assumes nothing.
use mathlib.Core.Path.{◌≡◌, sym, ap, ap₂, ◌∙◌}
use mathlib.Core.List.{List, [], ◌∷◌, map}
use mathlib.Core.Bool.{Bool, true, ◌&&◌, and-true, and_assoc}
use Prim.Native.Nat.{ℕ, ◌+◌, ◌≤◌}
use native.Mathlib.Numerals.{add-one}
use native.Mathlib.Omega.{arith}
use lib.ListN.{length, set, replicate, length-map}
use lib.Seq.{sets}
use Rattle.lists.specs.Lists.{all, padded}
use Rattle.lists.proofs.places.Padding.{sets-blank}
use Rattle.lexing.proofs.readers.Gathered.{gathered}

-- what is kept, by whether all entries pass the test and by the places, and what it is once one more entry is stored
module _ {A B R : Type 0} (test : A → Bool) (stored : A → B) (kept : Bool → List B → R) (step : ℕ → R → A → R)
    (next : (k : ℕ) (passed : Bool) (places : List B) (a : A) → step k (kept passed places) a ≡ kept (passed && test a) (set places k (stored a))) where
  tested-gathered : (k : ℕ) (passed : Bool) (places : List B) (l : List A) → gathered step k (kept passed places) l ≡ kept (passed && all test l) (sets places k (map stored l))
  tested-gathered k passed places [] = ap (λ p. kept p places) (sym (and-true passed))
  tested-gathered k passed places (a ∷ l) =
      ap (λ r. gathered step (k + 1) r l) (next k passed places a)
      ∙ tested-gathered (k + 1) (passed && test a) (set places k (stored a)) l
      ∙ ap₂ kept (and_assoc passed (test a) (all test l)) (ap (λ i. sets (set places k (stored a)) i (map stored l)) (add-one k))

  -- few enough of them, in places of which the others stay blank
  pub all-gathered : (most : ℕ) (blank : B) (l : List A) → length l ≤ most
      → kept (all test l) (padded most blank (map stored l)) ≡ gathered step 0 (kept true (replicate most blank)) l
  all-gathered most blank l few =
      sym (tested-gathered 0 true (replicate most blank) l ∙ ap (kept (all test l)) (sets-blank most blank (map stored l) (omega (arith, length-map l stored))))
