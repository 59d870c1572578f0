-- What is told of the code's answer is the number of the answer, and the length of its text. Assumes nothing.
use mathlib.Core.Path.{◌≡◌, refl, ap, ◌∙◌}
use mathlib.Core.List.{List}
use Prim.Native.Nat.{ℕ}
use lib.ListN.{length}
use Rattle.sheet.specs.Answers.{Answer, refused, accepted, number_of, map_answer, after}
use Rattle.sheet.proofs.Answering.{number_of-map}
use Rattle.writing.specs.Answered.{length_stored}
use Rattle.reply.specs.Stored.{length_answered}

length-answered : (a : Answer (List ℕ)) (old : ℕ) → length_answered (map_answer length a) old ≡ after length_stored a old
length-answered (refused number) old = refl
length-answered (accepted text) old = refl

-- what `store_length` tells of an answer of the code
pub told : (a : Answer (List ℕ)) (old : ℕ) {answer : Answer ℕ} {r new : ℕ} → answer ≡ map_answer length a → r ≡ number_of answer → new ≡ length_answered answer old
    → (r ≡ number_of a) × (new ≡ after length_stored a old)
told a old is number stored =
    (number ∙ ap number_of is ∙ number_of-map length a, stored ∙ ap (λ answer. length_answered answer old) is ∙ length-answered a old)
