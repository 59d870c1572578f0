-- What printing needs of a division by the rounds: how many entries its lists have, and what these are. Assumes nothing.
use mathlib.Core.Path.{◌≡◌, ap, ◌∙◌}
use mathlib.Core.Logic.{⊎_elim}
use mathlib.Core.List.Memᴰ
use mathlib.Core.List.Memᴰ.{cases_cons}
use mathlib.Core.List.Memᴰ.{not-nil}
use mathlib.Core.List.{List, [], ◌∷◌, map, Memᴰ as Mem}
use mathlib.Core.List.{Sublistᴰ as Sublist}
use Prim.Native.Nat.{ℕ, zero, suc, ◌≤◌, ◌<◌}
use native.Mathlib.Omega.{arith}
use lib.ListN.{length, length-map}
use Rattle.lists.specs.Lists.{range, nth, Within}
use Rattle.lists.proofs.ranges.Ranges.{length-range, mem-within, nth-map-range}
use Rattle.lists.proofs.members.Counting.{sublist-mem}
use Rattle.sheet.specs.Valuations.{item_value}
use Rattle.sheet.specs.Tables.{valuation_of, all_values}
use Rattle.sheet.specs.Contents.{Contents, valuations_of}
use Rattle.sheet.proofs.valuing.Tables.{length-profile}
use Rattle.maximin.specs.Share.{maximin_share, maximin_partition}
use Rattle.maximin.proofs.Laws.{maximin_partition-within}
use Rattle.shares.proofs.Profile.{nth-cuts}
use Rattle.grades.proofs.Grades.{grade-bounds}
use Rattle.matching.proofs.Cutter.{cutter_of-mem}
use Rattle.terms.specs.Terms.{terms_for}
use Rattle.rounds.specs.Round.{Instance, Round, round, rounds, held}
use Rattle.rounds.specs.Division.{Division, standard_instance, all_rounds, allocation, allocation_assessment, division_of, division_by_rounds}
use Rattle.rounds.proofs.round.Parts.{waiting-sub}
use Rattle.rounds.proofs.round.Rounds.{held-sublist, rounds-few}
use Rattle.rounds.proofs.Allocation.{length-allocation}

-- an entry for each of n agents, bundles and cuts of the items 1 .. m, cutters among the agents
pub record Printable (n m : ℕ) (d : Division) : Type 0 where
  pub bundle_each : length d.bundles ≡ n
  pub worth_each : length d.worths ≡ n
  pub share_each : length d.shares ≡ n
  pub cut_each : length d.cuts ≡ n
  pub of_items : (i : ℕ) → Mem i (range 1 n) → Sublist (nth [] d.bundles i) (range 1 m)
  pub entry_each : (i : ℕ) → Mem i (range 1 n) → length (nth [] d.cuts i) ≡ m
  pub cutters_within : Within n d.cutters
  pub few_cutters : length d.cutters ≤ n
  pub one_digit : d.grade < 10

module _ (G : Instance) where
  -- every cutter is one of the agents
  cutter-agent : (most : ℕ) (agents items : List ℕ) (r : Round) → Mem r (rounds G most agents items) → Mem r.cutter agents
  unfolding rounds round
  cutter-agent zero agents items r m = absurd (not-nil m)
  cutter-agent (suc most) [] items r m = absurd (not-nil m)
  cutter-agent (suc most) (a ∷ agents) items r m =
      let now = round G (a ∷ agents) items in
      ⊎_elim
      (λ (e : r ≡ now). rw e (cutter_of-mem (a ∷ agents) (omega arith)))
      (λ later. sublist-mem (waiting-sub G (a ∷ agents) items) (cutter-agent most now.waiting now.left r later))
      (cases_cons m)

module _ (sheet : Contents) (some : 1 ≤ sheet.agents) where
  abbrev n : ℕ
  n = sheet.agents

  abbrev m : ℕ
  m = sheet.items

  abbrev G : Instance
  G = standard_instance sheet

  all-values : (row : List ℕ) → length (all_values m row) ≡ m
  all-values row = length-map (range 1 m) (item_value row) ∙ length-range 1 m

  pub division_by_rounds-printable : Printable n m (division_by_rounds sheet)
  unfolding division_of
  division_by_rounds-printable =
      record {
        bundle_each = length-allocation n m (terms_for n) sheet.table;
        worth_each = length-map (range 1 n) _ ∙ length-range 1 n;
        share_each = length-map (valuations_of sheet) (maximin_share n) ∙ length-profile n m sheet.table;
        cut_each = length-map (valuations_of sheet) (maximin_partition n) ∙ length-profile n m sheet.table;
        of_items = λ i in_use. rw (nth-map-range (held (all_rounds n m G)) [] n in_use) (held-sublist G n (range 1 n) (range 1 m) i);
        entry_each = λ i in_use. let row = valuation_of sheet.table i in ap length (nth-cuts n m sheet.table in_use) ∙ (maximin_partition-within n (all_values m row) some).1 ∙ all-values row;
        cutters_within = mem-within n (map (λ r. r.cutter) (all_rounds n m G)) cutter-in-range;
        few_cutters = rw (length-map (all_rounds n m G) (λ r. r.cutter)) (rounds-few G n (range 1 n) (range 1 m));
        one_digit = omega (arith, grade-bounds n (valuations_of sheet) G.shares (allocation_assessment n m G).margins (allocation n m G));
      }
    where
      cutter-in-range : (c : ℕ) → Mem c (map (λ r. r.cutter) (all_rounds n m G)) → Mem c (range 1 n)
      cutter-in-range c mem =
          let (r, mr, e) = Memᴰ.of_map (λ (r : Round). r.cutter) (all_rounds n m G) mem in
          rw (← e) (cutter-agent G n (range 1 n) (range 1 m) r mr)
