use mathlib.Core.Path.{◌≡◌, ◌∙◌}
use mathlib.Core.List.{List, []}
use mathlib.Core.List.Sublistᴰ.{trans as sublist-trans}
use mathlib.Core.List.{Sublistᴰ as Sublist}
use Prim.Native.Nat.{ℕ}
use native.Mathlib.Omega.{arith}
use lib.Dec.{eqb}
use lib.ListN.{length}
use Rattle.lists.specs.Lists.{range}
use Rattle.lists.proofs.members.Counting.{reject-sublist}
use Rattle.lists.proofs.ranges.RangeSublists.{range-sublist-within, range-sublist-few}
use Rattle.sheet.specs.Limits.{most_agents}
use Rattle.matching.specs.Matching.{without}
use Rattle.matching.proofs.Parts.{without-one}
use Rattle.serving.specs.Serving.{suits_of}
use Rattle.serving.specs.internal.Searching.{Searching}
use Rattle.serving.proofs.searches.LargestTight.{largest_tight-waiting_set}
use Rattle.serving.proofs.waiting.waiting.Goals as goal
use Rattle.serving.proofs.waiting.waiting.Goals.{After-as_slice}

-- the agents without the cutter
others-are : (c : After-as_slice) → c.as_slice.result.now ≡ without c.args.cutter c.args.agents.now
others-are c = c.as_slice.ensures.same ∙ c.served-others.ensures ∙ without-one c.args.cutter c.args.agents.now

-- the search among them may begin
searching : (cutter : ℕ) {agents : List ℕ} → Sublist agents (range 1 most_agents) → Searching (without cutter agents) (length agents) []
searching cutter {agents} rising =
    let others = sublist-trans (reject-sublist (eqb cutter) agents) rising in
    record {
      few = omega (arith, range-sublist-few most_agents others);
      few_bundles = range-sublist-few most_agents rising;
      others_within = range-sublist-within most_agents others;
      chosen_within = tt;
    }

pub largest-requires : goal.largest-requires
largest-requires c =
    rw (c.new.ensures, c.len.ensures.count, others-are (goal.at.largest-requires c).After-as_slice) (searching c.args.cutter c.requires)

pub returns : goal.returns
returns c =
    let suits = suits_of c.args.suiting in
    let n = length c.args.agents.now in
    c.largest.ensures
    ∙ rw (c.new.ensures, c.new-2.ensures, c.len.ensures.count, others-are (goal.at.returns c).After-as_slice) (largest_tight-waiting_set suits n (without c.args.cutter c.args.agents.now))
