use mathlib.Core.Path.{◌≡◌, refl, sym, ap, ◌∙◌}
use mathlib.Core.Bool.{true, false}
use Prim.Native.Nat.{◌≤◌}
use native.Mathlib.Omega.{arith}
use lib.ListN.{length}
use borrow.Author.Tests.{lt-leb}
use Rattle.lists.specs.Sums.{total}
use Rattle.sheet.specs.Limits.{most_agents, most_items, within}
use Rattle.sheet.specs.Answers.{accepted, map_answer}
use Rattle.sheet.specs.Valuations.{values_of}
use Rattle.sheet.proofs.Limits.{within-bounds}
use Rattle.sheet.proofs.sets.Ranges.{names-only-below, names-one-above}
use Rattle.sheet.proofs.valuing.Valuations.{length-values}
use Rattle.cut.specs.Outcome.{found, cutting, stored}
use Rattle.cut.proofs.Allowance.{cutting-within}
use Rattle.cut.proofs.cut.Goals as goal
use Rattle.cut.proofs.cut.Goals.{After-as_slice, Else-not-is_within, Then-not-is_within}

-- the bundles are outside the limits
bundles-outside : (c : Then-not-is_within) → within most_agents c.args.bundles ≡ false
bundles-outside c = sym c.is_within.ensures ∙ c.if-not-is_within.true

-- the bundles are within the limits
bundles-within : (c : Else-not-is_within) → within most_agents c.args.bundles ≡ true
bundles-within c = sym c.is_within.ensures ∙ c.if-not-is_within.false

-- the values are those of the set, at most as many as a sheet has items
chosen-is : (c : After-as_slice) → c.as_slice.result.now ≡ values_of c.args.valuation c.args.set
chosen-is c = c.as_slice.ensures.same ∙ c.values_of-chosen.ensures.values

count-chosen : (c : After-as_slice) → length (values_of c.args.valuation c.args.set) ≤ most_items
count-chosen c = length-values c.args.valuation c.args.set most_items (omega arith) (omega arith)

-- the number of bundles is within its bounds
bounds : (c : Else-not-is_within) → (1 ≤ c.args.bundles) × (c.args.bundles ≤ most_agents)
bounds c = within-bounds most_agents c.args.bundles (bundles-within c)

pub returns-then-not-is_within : goal.returns-then-not-is_within
unfolding cutting
returns-then-not-is_within c = rw (bundles-outside (goal.at.returns-then-not-is_within c).Then-not-is_within) refl

pub returns-then-set-ge-SETS : goal.returns-then-set-ge-SETS
unfolding cutting
returns-then-set-ge-SETS c = rw (bundles-within (goal.at.returns-then-set-ge-SETS c).Else-not-is_within, names-one-above c.args.set most_items (omega arith) (omega arith) (omega arith)) refl

pub returns-then-allowance-eq0 : goal.returns-then-allowance-eq0
unfolding cutting
returns-then-allowance-eq0 c =
    let a = c.args in
    rw (bundles-within (goal.at.returns-then-allowance-eq0 c).Else-not-is_within, names-only-below a.set most_items (omega arith) (omega arith), lt-leb 1 a.allowance (omega arith)) refl

pub invariant_of-request : goal.invariant_of-request
invariant_of-request c =
    let told = chosen-is (goal.at.invariant_of-request c).After-as_slice in
    let b = bounds (goal.at.invariant_of-request c).Else-not-is_within in
    record {
      allowed = record {
        few = omega (arith, ap length told, count-chosen (goal.at.invariant_of-request c).After-as_slice);
        small = omega (arith, c.values_of-chosen.ensures.bound, ap total told);
        some_bundles = b.0;
        few_bundles = b.1;
        some_allowance = omega arith;
      };
    }

pub returns : goal.returns
returns c =
    let a = c.args in
    let b = bounds (goal.at.returns c).Else-not-is_within in
    ap accepted c.cut.ensures
    ∙ ap (λ values. accepted (stored (found a.bundles values a.allowance))) (chosen-is (goal.at.returns c).After-as_slice)
    ∙ ap (map_answer stored) (sym (cutting-within a.valuation a.set a.bundles a.allowance b.0 b.1 (omega arith) (omega arith)))
