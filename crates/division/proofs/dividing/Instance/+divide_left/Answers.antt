use mathlib.Core.Path.{◌≡◌, sym, ap, ap₂, ◌∙◌}
use mathlib.Core.List.{List, map}
use Prim.Native.Nat.{ℕ, ◌-◌, ◌+◌}
use native.Mathlib.Omega.{arith}
use lib.ListN.{length, set}
use Rattle.sheet.specs.Limits.{most_agents}
use Rattle.sheet.specs.Sets.{items_of, set_of}
use Rattle.cut.specs.Outcome.{placed}
use Rattle.matching.specs.Matching.{cutter_of}
use Rattle.matching.proofs.Cutter.{cutter_of-mem}
use Rattle.serving.specs.Serving.{agents_in}
use Rattle.settling.specs.Settling.{settled_by}
use Rattle.rounds.specs.Round.{Instance, Round, round}
use Rattle.rounds.proofs.round.Parts.{cutter_cut, round-cutter, waiting-falls}
use Rattle.division.specs.internal.Left.{instance_from, cut_left, Cuttable, EnoughFor}
use Rattle.division.specs.internal.Allocation.{with_round, allotted_all}
use Rattle.division.specs.declared.dividing.Allocation.{Allocation}
use Rattle.division.proofs.round.CutSets.{settled, settled-round}
use Rattle.division.proofs.round.NextRound.{served-within, served-few, agents_in-next, none-waiting, items_of-next, enough-next, cuttable-next}
use Rattle.division.proofs.rounds.Allotted.{stored-zeros, allotted-last, allotted-next}
use Rattle.division.proofs.dividing.Instance.+divide_left.Goals as goal
use Rattle.division.proofs.dividing.Instance.+divide_left.Goals.{After-settle_round-round}

-- the round, once it is settled
module _ {t : ℕ} (c : After-settle_round-round t) where
  abbrev instance : Instance
  instance = instance_from c.args.self.now.terms c.args.self.now.contents.table c.args.self.now.shares

  -- the definition's round
  abbrev this-round : Round
  this-round = round instance (agents_in c.args.left) (items_of c.args.set)

  cuttable : Cuttable c.args.left c.args.set
  cuttable = c.requires.0.cuttable

  -- the cutter and its partition are those of the definition's round
  cutter-is : c.args.cutter ≡ cutter_of (agents_in c.args.left)
  cutter-is = c.requires.1

  partition-is : c.args.partition ≡ placed (cutter_cut instance (agents_in c.args.left) (items_of c.args.set))
  partition-is = c.requires.2 ∙ ap (λ cutter. placed (cut_left c.args.self.now.contents.table cutter (agents_in c.args.left) (items_of c.args.set))) cutter-is

  -- what the round settles is what the definition's does
  settled_is : c.settle_round-round.result ≡ settled this-round
  settled_is =
      let a = c.args in
      let ready = c.requires.0 in
      c.settle_round-round.ensures
      ∙ ap₂ (λ cutter. settled_by a.self.now.terms a.self.now.contents.table a.self.now.shares cutter a.left a.set) cutter-is partition-is
      ∙ settled-round cuttable a.self.now.terms ready.small_terms a.self.now.contents.table a.self.now.shares ready.small_shares

  served-is : c.settle_round-round.result.served ≡ this-round.served
  served-is = ap (λ r. r.served) settled_is

  waiting-is : c.settle_round-round.result.waiting ≡ set_of this-round.waiting
  waiting-is = ap (λ r. r.waiting) settled_is

  left_is : c.settle_round-round.result.left ≡ set_of this-round.left
  left_is = ap (λ r. r.left) settled_is

  -- the allocation with the round
  given_is : {served : List ℕ} (given : Allocation) → served ≡ c.settle_round-round.result.served
      → given ≡ with_round c.args.cutter served c.settle_round-round.result.sets c.args.allocation
      → given ≡ with_round this-round.cutter this-round.served (map set_of this-round.bundles) c.args.allocation
  given_is given listed told =
      let r = this-round in
      let a = c.args.allocation in
      let sets = map set_of r.bundles in
      let allocated : List ℕ → Allocation = λ bundles. record { bundles = bundles; cutters = set a.cutters a.rounds r.cutter; rounds = a.rounds + 1 } in
      told
      ∙ ap₂ (λ cutter served. with_round cutter served c.settle_round-round.result.sets a) (cutter-is ∙ sym (round-cutter instance (agents_in c.args.left) (items_of c.args.set))) (listed ∙ served-is)
      ∙ ap (λ q. with_round r.cutter r.served q.sets a) settled_is
      ∙ ap allocated (stored-zeros r.served sets (most_agents - length sets) a.bundles)

  -- the agents of the next round are those who wait
  next-agents : agents_in c.settle_round-round.result.waiting ≡ this-round.waiting
  next-agents = ap agents_in waiting-is ∙ agents_in-next cuttable instance

  module _ (somebody : c.settle_round-round.result.waiting ≡ 0 → ⊥) where
    -- somebody waits, and so the next round may start
    next-cuttable : Cuttable c.settle_round-round.result.waiting c.settle_round-round.result.left
    next-cuttable = rw (waiting-is, left_is) (cuttable-next cuttable instance (λ none. somebody (waiting-is ∙ none)))

    -- the allowance is enough for it too
    next-enough : EnoughFor c.args.self.now.allowance c.settle_round-round.result.waiting c.settle_round-round.result.left
    next-enough = rw (waiting-is, left_is) (enough-next cuttable instance c.args.self.now.allowance (λ none. somebody (waiting-is ∙ none)) c.requires.0.enough)

pub hand_out-given-requires : goal.hand_out-given-requires
hand_out-given-requires t c =
    let r = (goal.at.hand_out-given-requires t c).After-settle_round-round in
    rw (c.as_slice.ensures.same ∙ served-is r) (served-within (cuttable r) (instance r), served-few (cuttable r) (instance r), omega (arith, c.requires.0.places, (cuttable r).some_left))

pub returns-then-round-eq0 : goal.returns-then-round-eq0
returns-then-round-eq0 t c =
    let r = (goal.at.returns-then-round-eq0 t c).After-settle_round-round in
    given_is r c.hand_out-given.result c.as_slice.ensures.same c.hand_out-given.ensures
    ∙ sym (allotted-last (instance r) (agents_in c.args.left) (items_of c.args.set) c.args.allocation (cuttable r).some_left (none-waiting (cuttable r) (instance r) (sym (waiting-is r) ∙ c.if-round-eq0.true)))

pub cut_left-next-requires : goal.cut_left-next-requires
cut_left-next-requires t c =
    let r = (goal.at.cut_left-next-requires t c).After-settle_round-round in
    let waiting = agents_in c.settle_round-round.result.waiting in
    (rw c.cutter_of-next_cutter.ensures (cutter_of-mem waiting (next-cuttable r c.if-round-eq0.false).some_left), next-cuttable r c.if-round-eq0.false, next-enough r c.if-round-eq0.false)

pub divide_left-requires : goal.divide_left-requires
divide_left-requires t c =
    let r = (goal.at.divide_left-requires t c).After-settle_round-round in
    let ready = c.requires.0 in
    let next = ap length (next-agents r) in
    let fewer = waiting-falls (instance r) (agents_in c.args.left) (items_of c.args.set) (cuttable r).some_left in (
      omega (arith, next, fewer),
      (
        record {
          small_terms = ready.small_terms;
          small_shares = ready.small_shares;
          cuttable = next-cuttable r c.if-round-eq0.false;
          enough = next-enough r c.if-round-eq0.false;
          places = omega (arith, ready.places, next, fewer, ap (λ a. a.rounds) (given_is r c.hand_out-given.result c.as_slice.ensures.same c.hand_out-given.ensures));
        },
        c.cutter_of-next_cutter.ensures,
        c.cut_left-next.ensures,
      ),
    )

pub returns : goal.returns
returns t c =
    let r = (goal.at.returns t c).After-settle_round-round in
    let this = this-round r in
    let G = instance r in
    c.divide_left.ensures
    ∙ ap (λ agents. allotted_all G agents (items_of c.settle_round-round.result.left) c.hand_out-given.result) (next-agents r)
    ∙ ap₂ (allotted_all G this.waiting) (ap items_of (left_is r) ∙ items_of-next (cuttable r) G) (given_is r c.hand_out-given.result c.as_slice.ensures.same c.hand_out-given.ensures)
    ∙ sym (allotted-next G (agents_in c.args.left) (items_of c.args.set) c.args.allocation (cuttable r).some_left)
