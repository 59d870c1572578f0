-- How each answer of reading is shown. Assumes nothing.
use mathlib.Core.Path.{◌≡◌, sym, ap, subst, ◌∙◌}
use mathlib.Core.List.{List, []}
use Rattle.std.specs.Prelude.{Err}
use Prim.Native.Nat.{ℕ}
use lib.ListN.{length}
use Rattle.sheet.specs.Answers.{Answer, refused, accepted, map_answer, and_then, after}
use Rattle.sheet.specs.Refusals.{number, answer_of}
use Rattle.sheet.specs.declared.refusal.Refusal.{Refusal}
use Rattle.sheet.proofs.Accepted.{refused-not-accepted}
use Rattle.sheet.specs.Contents.{Contents}
use Rattle.reading.specs.Reading.{reading}
use Rattle.reading.proofs.Accepted.{accepted-injective}
use Rattle.writing.specs.Filled.{filled}
use Rattle.exact_division.specs.Search.{MayShow}
use Rattle.exact_printing.specs.Printing.{printing_exact, Printed}
use Rattle.sheet_to_exact.specs.Showing.{exact_from, Shown}

-- what follows reading, with these bundles and a buffer of so many bytes
abbrev printing_of : List (List ℕ) → ℕ → Contents → Answer (List ℕ)
printing_of bundles room sheet = printing_exact sheet bundles room

module _ (text : List ℕ) where
  -- a refusal of reading is the answer
  pub refusal-shown : (number : ℕ) (old : List ℕ) → reading text ≡ refused number → Shown text old (refused number) old
  unfolding exact_from
  refusal-shown number old read =
      let told = sym (ap (λ a. and_then a (printing_of [] (length old))) read) in
      record {
        bundles = [];
        may_show = λ sheet e. absurd (refused-not-accepted sheet number (sym read ∙ e));
        answer = ap (map_answer length) told;
        buffer = ap (λ p. after filled p old) told;
      }

  -- and so is the reason that the code gives for it
  pub reason-shown : (e : Refusal) (old : List ℕ) → answer_of (Err e) ≡ reading text → Shown text old (answer_of (Err e)) old
  reason-shown e old told = refusal-shown (number e) old (sym told)

  -- the answer to an accepted text is that to the sheet that was read
  pub printed-shown : (sheet : Contents) {old new : List ℕ} {r : Answer ℕ} → reading text ≡ accepted sheet → Printed sheet old r new → Shown text old r new
  unfolding exact_from
  printed-shown sheet {old} read p =
      let told = sym (ap (λ a. and_then a (printing_of p.bundles (length old))) read) in
      record {
        bundles = p.bundles;
        may_show = λ other e. subst (λ s. MayShow s p.bundles) (accepted-injective sheet other (sym read ∙ e)) p.may_show;
        answer = p.answer ∙ ap (map_answer length) told;
        buffer = p.buffer ∙ ap (λ q. after filled q old) told;
      }

pub ruleset reasons = (reason-shown)
