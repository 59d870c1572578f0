-- What holds of the rounds and of the answer for every table: n agents (yards), m items (pieces) and any marks. Assumes nothing.
use mathlib.Core.Path.{◌≡◌}
use mathlib.Core.List.{List, Memᴰ as Mem}
use Prim.Native.Nat.{ℕ, ◌≤◌}
use native.Mathlib.Omega.{arith}
use lib.ListN.{length}
use Rattle.lists.specs.Lists.{range}
use Rattle.lists.proofs.ranges.Ranges.{length-range}
use Rattle.lists.proofs.members.Counting.{length-sublist}
use Rattle.sheet.specs.Answers.{accepted}
use Rattle.sheet.specs.Contents.{Contents, sheet_of}
use Rattle.growth.specs.Growth.{growths}
use Rattle.growth.proofs.Growths.{fewer-growths}
use Rattle.shares.specs.Shares.{sharing, sharing_within}
use Rattle.terms.specs.Terms.{terms_for}
use Rattle.terms.specs.Allowed.{AtMostStandard}
use Rattle.terms.specs.declared.Terms.{Terms}
use Rattle.sheet.specs.Tables.{AgreeInUse}
use Rattle.rounds.specs.Round.{Instance, items_suit, Round, round}
use Rattle.rounds.specs.Division.{Division, instance_of_sheet, standard_instance, all_rounds, answer}
use Rattle.terms.proofs.Allowed.{terms_for-at-most-standard}
use Rattle.sheet.proofs.valuing.Tables.{profile-agree}
use Rattle.rounds.proofs.round.Parts.{round-begins}
use Rattle.rounds.proofs.round.Held.{all_suit-length}
use Rattle.rounds.proofs.round.Invariant.{left-all, round-suits}
use Rattle.rounds.proofs.round.Rounds.{rounds-each}
use Rattle.rounds.proofs.Allocation.{sound}
use Rattle.rounds.proofs.Answers.{answer-accepted}

-- the rounds of a table, by any terms that promise no more than document 01
module _ (n m : ℕ) (terms : Terms) (table : List (List ℕ)) (allowed : AtMostStandard n terms) where
  abbrev G : Instance
  G = instance_of_sheet (sheet_of n m table) terms

  -- serving never fails: in every round there is a bundle for each agent served
  pub every-round-serves : (r : Round) → Mem r (all_rounds n m G) → length r.bundles ≡ length r.served
  every-round-serves =
      let is-sound = sound n m terms table allowed in
      rounds-each is-sound (λ r. length r.bundles ≡ length r.served)
      (λ agents items some state. all_suit-length (items_suit G) (round G agents items).served (round G agents items).bundles (round-suits is-sound some state))
      n (range 1 n) (range 1 m) (left-all n m G)

  -- the agents left and the items left in a round have no more growth partitions than all agents and all items
  pub no-round-has-more-growths : (r : Round) → Mem r (all_rounds n m G) → growths (length r.agents) (length r.items) ≤ growths n m
  no-round-has-more-growths =
      rounds-each (sound n m terms table allowed) (λ r. growths (length r.agents) (length r.items) ≤ growths n m)
      (λ agents items some state.
      rw ((round-begins G agents items).0, (round-begins G agents items).1)
      (fewer-growths (length agents) n (length items) m some
      (omega (arith, length-sublist state.of_agents, length-range 1 n)) (omega (arith, length-sublist state.of_items, length-range 1 m))))
      n (range 1 n) (range 1 m) (left-all n m G)

-- so the cutter of no round runs out of the allowance of a table that is divided
pub every-round-within-allowance : (sheet : Contents) (allowance : ℕ) (d : Division) → answer sheet allowance ≡ accepted d
    → (r : Round) → Mem r (all_rounds sheet.agents sheet.items (standard_instance sheet)) → growths (length r.agents) (length r.items) ≤ allowance
every-round-within-allowance sheet allowance d divided r mem =
    omega (
      arith,
      no-round-has-more-growths sheet.agents sheet.items (terms_for sheet.agents) sheet.table (terms_for-at-most-standard sheet.agents) r mem,
      (answer-accepted sheet allowance d divided).2,
    )

-- "places beyond the yards and pieces in use count for nothing"
pub agreeing-tables-same-answer : (n m : ℕ) (table table' : List (List ℕ)) (allowance : ℕ) → AgreeInUse n m table table'
    → answer (sheet_of n m table) allowance ≡ answer (sheet_of n m table') allowance
unfolding answer sharing_within sharing
agreeing-tables-same-answer n m table table' allowance same = rw (profile-agree n m table table' same)
