-- How each answer of the search is printed. Assumes nothing.
use mathlib.Core.Path.{◌≡◌, sym, ap, ◌∙◌}
use mathlib.Core.Bool.{Bool, true, false}
use mathlib.Core.List.{List}
use Prim.Native.Nat.{ℕ, ◌≤◌}
use lib.ListN.{length}
use Rattle.std.specs.Prelude.{Option, Some, None, Result, Ok, Err}
use Rattle.text.specs.Bytes.{bytes}
use Rattle.sheet.specs.Limits.{most_agents}
use Rattle.sheet.specs.Answers.{Answer, refused, accepted, map_answer, and_then, after}
use Rattle.sheet.specs.Refusals.{number}
use Rattle.sheet.specs.declared.refusal.Refusal.{Refusal}
use Rattle.sheet.specs.Contents.{Contents}
use Rattle.writing.specs.Filled.{filling, filled}
use Rattle.exact_division.specs.Search.{searching}
use Rattle.exact_division.proofs.Answers.{searching-accepted}
use Rattle.exact_search.specs.Outcome.{Searched}
use Rattle.exact_search.proofs.Outcomes.{refused-answered, none-answered, found-answered, found-sets}
use Rattle.exact_printing.specs.ExactText.{exact_text}
use Rattle.exact_printing.specs.Printing.{printing_exact, longest_exact, Printed}
use Rattle.exact_printing.specs.internal.SetsText.{sets_text}
use Rattle.exact_printing.proofs.Texts.{sets_text-exact, length-exact_text}

-- a buffer that held `old` and then holds `new`, where the answer is the code's for p
abbrev Filling : Answer (List ℕ) → List ℕ → Answer ℕ → List ℕ → Type 0
Filling p old r new = (r ≡ map_answer length p) × (new ≡ after filled p old)

module _ {sheet : Contents} {sets : List ℕ} (s : Searched sheet (Ok (Some sets))) where
  -- the text of the sets is that of the bundles
  text-exact : sets_text sheet.agents sets ≡ exact_text true s.bundles
  text-exact =
      let found = found-answered sets s in
      ap (sets_text sheet.agents) (found-sets sets s) ∙ sets_text-exact sheet s.bundles (s.may_show found) (searching-accepted sheet true found).1.few_items

  -- and no longer than the longest
  pub found-short : (sheet.agents ≤ most_agents) × (length (sets_text sheet.agents sets) ≤ longest_exact)
  found-short =
      let found = found-answered sets s in
      let w = (searching-accepted sheet true found).1 in
      (w.few, rw text-exact (length-exact_text sheet s.bundles (s.may_show found) w.few_items w.few))

module _ {sheet : Contents} {old new : List ℕ} {r : Answer ℕ} where
  -- where the search answers a, what follows from a is printed
  printed-of : {found : Result (Option (List ℕ)) Refusal} (s : Searched sheet found) (a : Answer Bool) → searching sheet ≡ a
      → Filling (and_then a (λ exists. filling (length old) (exact_text exists s.bundles))) old r new → Printed sheet old r new
  unfolding printing_exact
  printed-of s a e f =
      let same = sym (ap (λ b. and_then b (λ exists. filling (length old) (exact_text exists s.bundles))) e) in
      record {
        bundles = s.bundles;
        may_show = s.may_show;
        answer = f.0 ∙ ap (map_answer length) same;
        buffer = f.1 ∙ ap (λ p. after filled p old) same;
      }

  -- a refusal of the search is the answer
  pub refusal-printed : (e : Refusal) → Searched sheet (Err e) → Filling (refused (number e)) old r new → Printed sheet old r new
  refusal-printed e s f = printed-of s (refused (number e)) (refused-answered e s) f

  pub none-printed : Searched sheet (Ok None) → Filling (filling (length old) (bytes "(exact none)\n")) old r new → Printed sheet old r new
  unfolding exact_text
  none-printed s f = printed-of s (accepted false) (none-answered s) f

  pub found-printed : {sets : List ℕ} → Searched sheet (Ok (Some sets)) → Filling (filling (length old) (sets_text sheet.agents sets)) old r new → Printed sheet old r new
  found-printed {sets} s f = printed-of s (accepted true) (found-answered sets s) (rw (text-exact s) at f)
