-- How each answer of judging is printed. Assumes nothing.
use mathlib.Core.Path.{◌≡◌, sym, ap, ◌∙◌}
use mathlib.Core.List.{List}
use Rattle.std.specs.Prelude.{Option, Ok, Err}
use Prim.Native.Nat.{ℕ, ◌≤◌}
use lib.IntN.{ℤ}
use lib.ListN.{length}
use Rattle.lists.specs.Lists.{nth}
use Rattle.sheet.specs.Limits.{most_agents}
use Rattle.sheet.specs.Contents.{Contents, valuations_of}
use Rattle.sheet.specs.Answers.{refused, accepted, map_answer, after}
use Rattle.sheet.specs.Refusals.{number, answer_of}
use Rattle.sheet.specs.declared.refusal.Refusal.{Refusal}
use Rattle.sheet.proofs.Answering.{accepted-of_ok}
use Rattle.writing.specs.Filled.{filling, filled}
use Rattle.writing.proofs.Following.{refusal-follows}
use Rattle.shares.specs.Shares.{shares_of}
use Rattle.terms.specs.Terms.{terms_of}
use Rattle.terms.specs.declared.Terms.{Terms}
use Rattle.margins.specs.Margins.{margin}
use Rattle.grades.specs.Grade.{own_values}
use Rattle.division_reading.specs.Stated.{Stated}
use Rattle.stated_truth.specs.Truth.{bundles_of}
use Rattle.stated_truth.specs.Judging.{judging, TrueDivision}
use Rattle.judging.specs.Stored.{stored}
use Rattle.stated_truth.proofs.Theorems.{accepted-exactly-if-all-true}
use Rattle.sheet_to_judgement.specs.AcceptedText.{accepted_text}
use Rattle.sheet_to_judgement.specs.internal.MarginsText.{margins_text}
use Rattle.sheet_to_judgement.specs.internal.Printing.{printing_judgement}
use Rattle.sheet_to_judgement.proofs.Texts.{margins_text-accepted}

-- the margin of agent i, by the terms and the bundles
abbrev pub margin_at : Contents → Terms → List (List ℕ) → ℕ → ℤ
margin_at sheet terms bundles i = margin terms (nth 0 (own_values sheet.agents (valuations_of sheet) bundles) i) (nth 0 (shares_of sheet) i)

module _ (sheet : Contents) (stated : Option Stated) where
  -- a refusal of judging is the answer
  pub refusal-printed : (e : Refusal) → answer_of (Err e) ≡ map_answer stored (judging sheet stated) → (room : ℕ) → printing_judgement sheet stated room ≡ refused (number e)
  unfolding printing_judgement
  refusal-printed e told room = refusal-follows stored (judging sheet stated) (λ margins. filling room (accepted_text margins)) e told

  -- and so is the reason that the code gives for it, with the buffer as it was
  pub reason-answered : (e : Refusal) (room : ℕ) → answer_of (Err e) ≡ map_answer stored (judging sheet stated)
      → answer_of (Err e) ≡ map_answer length (printing_judgement sheet stated room)
  reason-answered e room told = sym (ap (map_answer length) (refusal-printed e told room))

  pub reason-kept : (e : Refusal) (old : List ℕ) → answer_of (Err e) ≡ map_answer stored (judging sheet stated) → old ≡ after filled (printing_judgement sheet stated (length old)) old
  reason-kept e old told = sym (ap (λ p. after filled p old) (refusal-printed e told (length old)))

  module _ (margins : List ℤ) (told : answer_of (Ok margins) ≡ map_answer stored (judging sheet stated)) where
    margins-accepted : (l : List ℤ) × (judging sheet stated ≡ accepted l) × (margins ≡ stored l)
    margins-accepted = accepted-of_ok stored (judging sheet stated) margins told

    division : TrueDivision sheet (terms_of sheet) stated margins-accepted.0
    division = (accepted-exactly-if-all-true sheet (terms_of sheet) stated margins-accepted.0).0 margins-accepted.1

    pub accepted-few : sheet.agents ≤ most_agents
    accepted-few = division.counts.few

    -- the text of the margins in the code's places
    text-accepted : margins_text sheet.agents margins ≡ accepted_text margins-accepted.0
    text-accepted =
        ap (margins_text sheet.agents) (margins-accepted.2 ∙ ap stored division.margins_given)
        ∙ margins_text-accepted sheet.agents (margin_at sheet (terms_of sheet) (bundles_of division.division))
        ∙ ap accepted_text (sym division.margins_given)

    pub margins-printed : (room : ℕ) → printing_judgement sheet stated room ≡ filling room (margins_text sheet.agents margins)
    unfolding printing_judgement
    margins-printed room = rw (margins-accepted.1, text-accepted)

pub ruleset reasons = (reason-answered, reason-kept)
