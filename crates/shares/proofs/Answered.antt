-- What the answer on a table has, where its counts are within the limits and where they are not. Assumes nothing.
use mathlib.Core.Path.{◌≡◌, sym, ap, ◌∙◌}
use mathlib.Core.Logic.{⊎_elim}
use mathlib.Core.List.{List, map, Memᴰ as Mem}
use Prim.Native.Nat.{ℕ, ◌≤◌}
use Rattle.std.specs.Prelude.{Ok}
use Rattle.lists.specs.Lists.{range, nth, padded}
use Rattle.lists.proofs.places.Places.{nth-padded-range}
use Rattle.sheet.specs.Limits.{most_agents, CountsWithin}
use Rattle.sheet.specs.Answers.{Answer, refused, accepted, map_answer}
use Rattle.sheet.specs.Refusals.{answer_of}
use Rattle.sheet.specs.Contents.{Contents, valuations_of}
use Rattle.sheet.specs.Amounts.{SmallAmounts}
use Rattle.sheet.proofs.Answering.{accepted-of_ok}
use Rattle.growth.specs.Growth.{growths}
use Rattle.maximin.specs.Share.{maximin_partition}
use Rattle.cut.specs.Outcome.{Cutting, cutting_of, placed}
use Rattle.shares.specs.Shares.{share_of, shares_of, sharing, sharing_within}
use Rattle.shares.specs.Stored.{blank_cut, stored}
use Rattle.shares.specs.Known.{SharesIn}
use Rattle.shares.specs.declared.Shares.{Shares}
use Rattle.shares.proofs.Refusals.{sharing-within, sharing-cases}
use Rattle.shares.proofs.Allowance.{sharing_within-cases, sharing_within-enough}
use Rattle.shares.proofs.EachAgent.{shared_as, shares-range, stored-each}
use Rattle.shares.proofs.Profile.{nth-shares}

-- an answer that is accepted is no refusal
accepted-not-refused : {A : Type 0} (a : Answer A) (x : A) (number : ℕ) → a ≡ accepted x → a ≡ refused number → ⊥
accepted-not-refused a x number e is = cc

module _ (sheet : Contents) (own : Shares) where
  -- shares are answered only where the counts are within the limits
  pub answered-counts : answer_of (Ok own) ≡ map_answer stored (sharing sheet) → CountsWithin sheet.agents sheet.items
  answered-counts e =
      let (x, is, made) = accepted-of_ok stored (sharing sheet) own e in
      ⊎_elim (λ w. w) (λ r. absurd (accepted-not-refused (sharing sheet) x r.0 is r.1)) (sharing-cases sheet)

  -- and, with an allowance, only where it is enough
  pub answered-enough : (allowance : ℕ) → answer_of (Ok own) ≡ map_answer stored (sharing_within sheet allowance) → CountsWithin sheet.agents sheet.items × (growths sheet.agents sheet.items ≤ allowance)
  answered-enough allowance e =
      let (x, is, made) = accepted-of_ok stored (sharing_within sheet allowance) own e in
      ⊎_elim (λ w. w) (λ r. absurd (accepted-not-refused (sharing_within sheet allowance) x r.0 is r.1)) (sharing_within-cases sheet allowance)

  -- they are those that an allowance which is enough gives
  pub answered-without : (allowance : ℕ) → answer_of (Ok own) ≡ map_answer stored (sharing_within sheet allowance) → answer_of (Ok own) ≡ map_answer stored (sharing sheet)
  answered-without allowance e = e ∙ ap (map_answer stored) (sharing_within-enough sheet allowance (answered-enough allowance e).1)

  module _ (answered : answer_of (Ok own) ≡ map_answer stored (sharing sheet)) where
    -- and there they are
    pub answered-stored : own ≡ shared_as (shares_of sheet) (map placed (map (maximin_partition sheet.agents) (valuations_of sheet)))
    answered-stored =
        let (x, is, made) = accepted-of_ok stored (sharing sheet) own answered in
        let cuttings = map (cutting_of sheet.agents) (valuations_of sheet) in
        let both : ◌≡◌ {A = Answer (List Cutting)} (accepted x) (accepted cuttings) = sym is ∙ sharing-within sheet (answered-counts answered) in
        let same : x ≡ cuttings = cc in
        made ∙ ap stored same ∙ stored-each sheet.agents sheet.items sheet.table

    pub answered-shares : own.shares ≡ padded most_agents 0 (shares_of sheet)
    answered-shares = ap (λ o. o.shares) answered-stored

    pub answered-cuts : own.cuts ≡ padded most_agents blank_cut (map placed (map (maximin_partition sheet.agents) (valuations_of sheet)))
    answered-cuts = ap (λ o. o.cuts) answered-stored

    -- so the shares are known where they are small
    pub answered-known : SmallAmounts own.shares → SharesIn sheet own.shares
    answered-known small = record { counts = answered-counts answered; each = answered-shares; small = small }

-- the share of an agent in use, where the shares are known
module _ {sheet : Contents} {shares : List ℕ} (known : SharesIn sheet shares) {agent : ℕ} (in_use : Mem agent (range 1 sheet.agents)) where
  pub nth-shares-in : nth 0 shares agent ≡ share_of sheet agent
  nth-shares-in =
      ap (λ l. nth 0 l agent) (known.each ∙ ap (padded most_agents 0) (shares-range sheet.agents sheet.items sheet.table)) ∙ nth-padded-range most_agents 0 0 (share_of sheet) sheet.agents in_use

  -- the same, by the shares agent after agent
  pub nth-shares-known : nth 0 shares agent ≡ nth 0 (shares_of sheet) agent
  nth-shares-known = nth-shares-in ∙ sym (nth-shares sheet.agents sheet.items sheet.table in_use)
