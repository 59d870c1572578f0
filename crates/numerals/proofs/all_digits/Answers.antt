use mathlib.Core.Path.{◌≡◌, refl, ap, ◌∙◌}
use mathlib.Core.List.{List, [], ◌∷◌}
use mathlib.Core.Bool.{Bool, ◌&&◌}
use Rattle.std.specs.List.{list_all}
use Rattle.std.proofs.Common.{rules, tests}
use Rattle.std.proofs.lemmas.Iterator.{YieldsList-from_slice}
use Rattle.std.proofs.lemmas.Iterator.Search.{all_from_yields_List}
use Rattle.lists.specs.Lists.{all}
use Rattle.numerals.specs.Numerals.{is_digit}
use Rattle.numerals.proofs.all_digits.Goals as goal

-- the library's test of all members is this one
all-is : {A : Type 0} (p : A → Bool) (xs : List A) → list_all p xs ≡ all p xs
all-is p [] = refl
all-is p (x ∷ xs) = ap (λ b. p x && b) (all-is p xs)

pub returns : goal.returns
returns c =
    all_from_yields_List is_digit _ _ _ c.all.ensures.ran (YieldsList-from_slice c.args.w.now cc) (λ x b q k. search (rules, tests)) ∙ all-is is_digit c.args.w.now
