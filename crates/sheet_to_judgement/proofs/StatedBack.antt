-- What the code keeps of a division that is read states what was read. Assumes nothing.
use mathlib.Core.Path.{◌≡◌, refl, sym, ap, ap₂, ◌∙◌}
use mathlib.Core.List.Memᴰ.{head as here}
use mathlib.Core.List.Memᴰ.{tail as there}
use mathlib.Core.List.{List, [], ◌∷◌, map, map-map, Memᴰ as Mem}
use Rattle.std.specs.Prelude.{Option, None, Some}
use Prim.Native.Nat.{ℕ, ◌≤◌}
use lib.ListN.{length, take, length-map}
use Rattle.lists.specs.Lists.{padded}
use Rattle.lists.proofs.places.Padding.{take-padded}
use Rattle.sheet.specs.Limits.{most_agents, most_items}
use Rattle.sheet.specs.Sets.{items_of, set_of}
use Rattle.tokens.specs.Tokens.{Token}
use Rattle.division_reading.specs.Stated.{StatedLine, Stated}
use Rattle.division_reading.specs.Grammar.{division_text, reading_division}
use Rattle.division_reading.specs.Outcome.{kept_line, blank_line, kept_lines, kept}
use Rattle.division_reading.specs.Shape.{WellFormed}
use Rattle.division_reading.proofs.Bundles.{items-of-bundle, items-of-bundles}
use Rattle.division_reading.proofs.Shape.{division-shape}
use Rattle.division_reading.proofs.kept.Division.{reading_division-text}
use Rattle.stated_truth.specs.Lines.{stated_line, stated_in}

-- the entries of a list in more places, from the first on
take-of-padded : {A : Type 0} (places n : ℕ) (blank : A) (l : List A) → length l ≡ n → take n (padded places blank l) ≡ l
take-of-padded places n blank l same = ap (λ k. take k (padded places blank l)) (sym same) ∙ take-padded places blank l

lines-back : (n : ℕ) (ls : List StatedLine) → ((l : StatedLine) → Mem l ls → stated_line n (kept_line l) ≡ l) → map (stated_line n) (map kept_line ls) ≡ ls
lines-back n [] each = refl
lines-back n (l ∷ ls) each = ap₂ ◌∷◌ (each l (here refl)) (lines-back n ls (λ k mk. each k (there mk)))

module _ (n m : ℕ) (few_items : m ≤ most_items) where
  module _ (d : Stated) (shape : WellFormed n m d) where
    line-back : (l : StatedLine) → Mem l d.lines → stated_line n (kept_line l) ≡ l
    line-back l ml =
        let cut : map items_of (take n (kept_line l).cut) ≡ l.cut =
        ap (map items_of) (take-of-padded most_agents n 0 (map set_of l.cut) (length-map l.cut set_of ∙ shape.cut_each l ml))
        ∙ map-map items_of set_of l.cut
        ∙ items-of-bundles m few_items l.cut (shape.cut_bundle l ml) in
        ap₂ (λ b c. record { bundle = b; worth = l.worth; share = l.share; cut = c }) (items-of-bundle m few_items (shape.bundle l ml)) cut

    kept_back : stated_in n (kept (Some d)) ≡ Some d
    kept_back =
        let lines : map (stated_line n) (take n (kept_lines d.lines)) ≡ d.lines =
        ap (map (stated_line n)) (take-of-padded most_agents n blank_line (map kept_line d.lines) (length-map d.lines kept_line ∙ shape.line_each))
        ∙ lines-back n d.lines line-back in
        ap (λ ls. Some (record { grade = d.grade; lines = ls })) lines

  read_back : (ts : List Token) (o : Option Stated) → division_text n m ts ≡ o → stated_in n (kept o) ≡ o
  read_back ts None e = refl
  read_back ts (Some d) e = kept_back d (division-shape n m ts d e)

  pub stated-kept : n ≤ most_agents → (ts : List Token) → stated_in n (kept (reading_division n m ts)) ≡ division_text n m ts
  stated-kept few ts = ap (λ o. stated_in n (kept o)) (reading_division-text n m ts few few_items) ∙ read_back ts (division_text n m ts) refl
