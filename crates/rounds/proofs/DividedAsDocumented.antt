-- Demand 2: in every division that is answered the shares, the cuts, the rounds and the bundles are as document 01 says. Assumes nothing.
use mathlib.Core.Path.{◌≡◌, refl, ◌∙◌}
use mathlib.Core.List.{List, [], map, Memᴰ as Mem}
use Prim.Native.Nat.{ℕ, ◌≤◌}
use native.Mathlib.Nat.{le_of_eq}
use native.Mathlib.Omega.{arith}
use lib.ListN.{length, length-map}
use Rattle.lists.specs.Lists.{range, nth}
use Rattle.lists.proofs.ranges.Ranges.{in-range, length-range, nth-map-range, nth-mem}
use Rattle.sheet.specs.Answers.{accepted}
use Rattle.sheet.specs.Tables.{valuation_of, all_values, profile}
use Rattle.sheet.specs.Contents.{Contents, sheet_of}
use Rattle.sheet.proofs.valuing.Tables.{length-profile}
use Rattle.maximin.specs.Share.{maximin_share, maximin_partition}
use Rattle.shares.proofs.Profile.{nth-shares, nth-cuts}
use Rattle.terms.specs.declared.Terms.{Terms}
use Rattle.terms.specs.Terms.{terms_for}
use Rattle.rounds.specs.Round.{Instance, Round, held}
use Rattle.rounds.specs.Division.{Division, instance_of, all_rounds, division_of, answer}
use Rattle.rounds.specs.Documented.{ShareAndCut, DividedAsDocumented}
use Rattle.terms.specs.Allowed.{AtMostStandard}
use Rattle.terms.proofs.Allowed.{terms_for-at-most-standard}
use Rattle.rounds.proofs.round.Invariant.{left-all}
use Rattle.rounds.proofs.round.Served.{served-among, served-in-one-round, held-at-place}
use Rattle.rounds.proofs.Allocation.{sound, length-allocation}
use Rattle.rounds.proofs.Answers.{answer-accepted}
use Rattle.rounds.proofs.EveryRound.{share-and-cut-as-documented, all-rounds-follow-on, every-round-as-documented}

-- the division by the rounds: any table, and any terms that promise no more than document 01
module _ (n m : ℕ) (terms : Terms) (table : List (List ℕ)) (allowed : AtMostStandard n terms) where
  abbrev G : Instance
  G = instance_of n terms (profile n m table)

  own-share-and-cut : (agent : ℕ) → 1 ≤ agent → agent ≤ n
      → ShareAndCut n (all_values m (valuation_of table agent)) (nth 0 (map (maximin_share n) (profile n m table)) agent) (nth [] (map (maximin_partition n) (profile n m table)) agent)
  own-share-and-cut agent lo hi =
      let in_use : Mem agent (range 1 n) = in-range 1 n agent lo (omega arith) in
      rw (nth-shares n m table in_use, nth-cuts n m table in_use) (share-and-cut-as-documented n (all_values m (valuation_of table agent)) (omega arith))

  bundle-at-place : (r : Round) → Mem r (all_rounds n m G) → (k : ℕ) → 1 ≤ k → k ≤ length r.served
      → nth [] (map (held (all_rounds n m G)) (range 1 n)) (nth 0 r.served k) ≡ nth [] r.bundles k
  bundle-at-place r mr k lo hi =
      let agent-served : Mem (nth 0 r.served k) r.served = nth-mem 0 r.served (length r.served) refl (in-range 1 (length r.served) k lo (omega arith)) in
      nth-map-range (held (all_rounds n m G)) [] n (served-among G n (range 1 n) (range 1 m) r mr (nth 0 r.served k) agent-served)
      ∙ held-at-place (sound n m terms table allowed) n (range 1 n) (range 1 m) (left-all n m G) r mr k lo hi

  pub rounds-divide-as-documented : DividedAsDocumented (sheet_of n m table) terms (division_of n m G)
  unfolding division_of
  rounds-divide-as-documented =
      record {
        share_each = length-map (profile n m table) (maximin_share n) ∙ length-profile n m table;
        cut_each = length-map (profile n m table) (maximin_partition n) ∙ length-profile n m table;
        share_and_cut = own-share-and-cut;
        rounds = all_rounds n m G;
        rounds_follow_on = all-rounds-follow-on n m terms table;
        rounds_as_documented = every-round-as-documented n m terms table allowed;
        cutters_of_rounds = refl;
        bundle_each = length-allocation n m terms table;
        served_once = λ agent lo hi. served-in-one-round G n (range 1 n) (range 1 m) (le_of_eq (length-range 1 n)) agent (in-range 1 n agent lo (omega arith));
        bundles_of_rounds = bundle-at-place;
      }

-- demand 2, for every sheet: whatever is answered as a division is as document 01 says
pub answer-as-documented : (sheet : Contents) (allowance : ℕ) (d : Division) → answer sheet allowance ≡ accepted d → DividedAsDocumented sheet (terms_for sheet.agents) d
answer-as-documented sheet allowance d divided =
    rw (answer-accepted sheet allowance d divided).0
    (rounds-divide-as-documented sheet.agents sheet.items (terms_for sheet.agents) sheet.table (terms_for-at-most-standard sheet.agents))
