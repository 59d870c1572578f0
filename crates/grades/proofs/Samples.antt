-- Allocations at both sides of the even test and of the test of the margins, by computation. Assumes nothing.
use mathlib.Core.Path.{◌≡◌, refl}
use mathlib.Core.List.{List, [], ◌∷◌, map}
use Prim.Native.Nat.{ℕ}
use Rattle.sheet.specs.Tables.{profile}
use Rattle.sheet.specs.Contents.{sheet_of}
use Rattle.maximin.specs.Share.{maximin_share}
use Rattle.terms.specs.Terms.{largest_odd, terms_for}
use Rattle.margins.specs.Margins.{margin}
use Rattle.grades.specs.Grade.{envy_free, proportional, maximin_fair, grade}
use Rattle.grades.specs.Scale.{grade_by_sheet}

-- a table of three agents, an allocation of its items, and the grade
pub record Sample : Type 0 where
  pub items : ℕ
  pub rows : List (List ℕ)
  pub bundles : List (List ℕ)
  pub grade : ℕ

unfoldable pub samples : List Sample
samples =
    -- sheet b: "yard 1 holds 1 of a total of 4 among three", and 3 × 1 is under 4
    record {
      items = 4;
      rows = (1 ∷ 1 ∷ 1 ∷ 1 ∷ []) ∷ (6 ∷ 6 ∷ 3 ∷ 3 ∷ []) ∷ (2 ∷ 2 ∷ 2 ∷ 2 ∷ []) ∷ [];
      bundles = (3 ∷ []) ∷ (1 ∷ 2 ∷ []) ∷ (4 ∷ []) ∷ [];
      grade = 3;
    }
    -- yard 3 holds 3 of a total of 9: just even
    ∷ record {
      items = 3;
      rows = (1 ∷ 1 ∷ 1 ∷ []) ∷ (1 ∷ 1 ∷ 1 ∷ []) ∷ (5 ∷ 1 ∷ 3 ∷ []) ∷ [];
      bundles = (1 ∷ []) ∷ (2 ∷ []) ∷ (3 ∷ []) ∷ [];
      grade = 2;
    }
    -- 3 of a total of 10: not even, and no less than its share of 2
    ∷ record {
      items = 3;
      rows = (1 ∷ 1 ∷ 1 ∷ []) ∷ (1 ∷ 1 ∷ 1 ∷ []) ∷ (5 ∷ 2 ∷ 3 ∷ []) ∷ [];
      bundles = (1 ∷ []) ∷ (2 ∷ []) ∷ (3 ∷ []) ∷ [];
      grade = 3;
    }
    -- 4 of a total of 10: even
    ∷ record {
      items = 3;
      rows = (1 ∷ 1 ∷ 1 ∷ []) ∷ (1 ∷ 1 ∷ 1 ∷ []) ∷ (5 ∷ 1 ∷ 4 ∷ []) ∷ [];
      bundles = (1 ∷ []) ∷ (2 ∷ []) ∷ (3 ∷ []) ∷ [];
      grade = 2;
    }
    -- sheet c: yard 2 holds 3 of a share of 4, and 8 × 3 is just 6 × 4
    ∷ record {
      items = 4;
      rows = (1 ∷ 1 ∷ 1 ∷ 1 ∷ []) ∷ (4 ∷ 4 ∷ 3 ∷ 1 ∷ []) ∷ (1 ∷ 1 ∷ 1 ∷ 1 ∷ []) ∷ [];
      bundles = (1 ∷ 2 ∷ []) ∷ (3 ∷ []) ∷ (4 ∷ []) ∷ [];
      grade = 4;
    }
    -- the same with items 3 and 4 exchanged: yard 2 holds 1, and 8 × 1 is under 6 × 4
    ∷ record {
      items = 4;
      rows = (1 ∷ 1 ∷ 1 ∷ 1 ∷ []) ∷ (4 ∷ 4 ∷ 3 ∷ 1 ∷ []) ∷ (1 ∷ 1 ∷ 1 ∷ 1 ∷ []) ∷ [];
      bundles = (1 ∷ 2 ∷ []) ∷ (4 ∷ []) ∷ (3 ∷ []) ∷ [];
      grade = 5;
    }
    ∷ []

pub samples-graded : map (λ s. grade_by_sheet (sheet_of 3 s.items s.rows) s.bundles) samples ≡ map (λ s. s.grade) samples
unfolding samples grade envy_free proportional maximin_fair profile maximin_share terms_for largest_odd margin
samples-graded = refl
