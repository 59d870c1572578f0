-- The code's answer by the answer of the definition, and the bundles in it, which are those of the division: a bundle is the items of its
-- set. Assumes nothing.
use mathlib.Core.Path.{◌≡◌, refl, ap, ap₂, ◌∙◌}
use mathlib.Core.List.Memᴰ.{head as here}
use mathlib.Core.List.Memᴰ.{tail as there}
use mathlib.Core.List.{List, [], ◌∷◌, map, Memᴰ as Mem}
use mathlib.Core.List.Sublistᴰ.{trans as sublist-trans}
use mathlib.Core.List.{Sublistᴰ as Sublist}
use Prim.Native.Nat.{ℕ, ◌-◌, ◌≤◌}
use native.Mathlib.Omega.{arith}
use lib.ListN.{length, replicate, length-map}
use lib.Seq.{take_at}
use Rattle.std.specs.Prelude.{Result, Ok, Err}
use Rattle.lists.specs.Lists.{range}
use Rattle.lists.proofs.ranges.Ranges.{range-sublist}
use Rattle.sheet.specs.Limits.{most_agents, most_items, set_bits}
use Rattle.sheet.specs.Answers.{Answer, refused, accepted, map_answer}
use Rattle.sheet.specs.Refusals.{number, answer_of}
use Rattle.sheet.specs.declared.refusal.Refusal.{Refusal}
use Rattle.sheet.proofs.Answering.{accepted-of_ok, refused-of_err, number-injective}
use Rattle.sheet.specs.Sets.{items_of, set_of}
use Rattle.sheet.proofs.sets.Sets.{items-set_of}
use Rattle.rounds.specs.Division.{Division}
use Rattle.division.specs.Stored.{stored}
use Rattle.division.specs.Promise.{bundles_in}
use Rattle.division.specs.declared.Division.{Division as StoredDivision}

-- an answer is no refusal and a division at once
pub refused-not-accepted : {A : Type 0} (a : Answer A) (n : ℕ) (x : A) → a ≡ refused n → a ≡ accepted x → ⊥
refused-not-accepted a n x e is = cc

-- the answer tells the results of the code apart
pub answer_of-injective : {A : Type 0} (r s : Result A Refusal) → answer_of r ≡ answer_of s → r ≡ s
answer_of-injective (Ok a) (Ok b) e = cc
answer_of-injective (Ok a) (Err f) e = absurd (cc)
answer_of-injective (Err f) (Ok b) e = absurd (cc)
answer_of-injective (Err f) (Err g) e = let same : number f ≡ number g = cc in ap Err (number-injective f g same)

module _ (a : Answer Division) (r : Result StoredDivision Refusal) (answered : answer_of r ≡ map_answer stored a) where
  -- the code gives the division that is accepted
  pub ok-of_accepted : (d : Division) → a ≡ accepted d → r ≡ Ok (stored d)
  ok-of_accepted d is = answer_of-injective r (Ok (stored d)) (answered ∙ ap (map_answer stored) is)

  -- the code refuses with the reason of that number
  pub err-of_refused : (n : ℕ) → a ≡ refused n → (e : Refusal) × (r ≡ Err e) × (a ≡ refused (number e))
  err-of_refused n is = step r answered
    where
      step : (s : Result StoredDivision Refusal) → answer_of s ≡ map_answer stored a → (e : Refusal) × (s ≡ Err e) × (a ≡ refused (number e))
      step (Ok d) told = absurd (refused-not-accepted a n _ is (accepted-of_ok stored a d told).1)
      step (Err e) told = (e, refl, refused-of_err stored a e told)

module _ (m : ℕ) (few : m ≤ most_items) where
  pub items-set_of-bundle : {bundle : List ℕ} → Sublist bundle (range 1 m) → items_of (set_of bundle) ≡ bundle
  items-set_of-bundle {bundle} s = items-set_of bundle (sublist-trans s (range-sublist 1 m set_bits (omega arith)))

  pub items-set_of-each : (bundles : List (List ℕ)) → ((b : List ℕ) → Mem b bundles → Sublist b (range 1 m)) → map items_of (map set_of bundles) ≡ bundles
  items-set_of-each [] of_items = refl
  items-set_of-each (b ∷ bundles) of_items =
      ap₂ (λ x xs. x ∷ xs) (items-set_of-bundle (of_items b (here refl))) (items-set_of-each bundles (λ c mc. of_items c (there mc)))

  pub bundles_in-divided : (n : ℕ) (d : Division) → length d.bundles ≡ n → ((b : List ℕ) → Mem b d.bundles → Sublist b (range 1 m)) → bundles_in n (Ok (stored d)) ≡ d.bundles
  bundles_in-divided n d each of_items =
      let sets = map set_of d.bundles in
      ap (map items_of) (take_at sets (replicate (most_agents - length sets) 0) n (length-map d.bundles set_of ∙ each))
      ∙ items-set_of-each d.bundles of_items
