use mathlib.Core.Path.{◌≡◌, sym, ap, ap₂, ◌∙◌}
use mathlib.Core.List.{[]}
use Prim.Native.Nat.{◌+◌, ◌*◌, ◌≤◌, ◌<◌, min}
use native.Mathlib.Omega.{arith}
use lib.Dec.{leb}
use lib.ListN.{get_or}
use borrow.Author.Tests.{le-leb, lt-leb}
use Rattle.lists.specs.Lists.{range, nth, padded}
use Rattle.lists.specs.Sums.{total}
use Rattle.lists.proofs.ranges.Ranges.{in-range}
use Rattle.lists.proofs.members.Tests.{all-next, all-fails}
use Rattle.lists.proofs.places.Places.{nth-next, nth-padded-range}
use Rattle.sheet.specs.Limits.{most_agents, most_items}
use Rattle.sheet.specs.Sets.{items_of, set_of}
use Rattle.sheet.specs.Valuations.{value}
use Rattle.sheet.specs.Tables.{all_values}
use Rattle.sheet.proofs.sets.Remainders.{value-all}
use Rattle.shares.specs.Shares.{share_of}
use Rattle.shares.proofs.EachAgent.{total_of, is_covered, shares-range, shares_covered-range}
use Rattle.shares.proofs.shares_covered.Goals as goal
use Rattle.shares.proofs.shares_covered.Goals.{After-value_of, In-loop-i}

-- the share that is read at agent i + 1
share-read : (c : In-loop-i)
    → let a = c.args in
    get_or a.shares c.loop-i.i 0 ≡ share_of a.contents (c.loop-i.i + 1)
share-read c =
    let a = c.args in
    let i = c.loop-i.i in
    sym (nth-next 0 a.shares i)
    ∙ ap (λ l. nth 0 l (i + 1)) (c.requires.each ∙ ap (padded most_agents 0) (shares-range a.contents.agents a.contents.items a.contents.table))
    ∙ nth-padded-range most_agents 0 0 (share_of a.contents) a.contents.agents (in-range 1 a.contents.agents (i + 1) (omega arith) (omega arith))

-- the value of all items to agent i + 1
total-read : (c : After-value_of)
    → let a = c.args in
    c.value_of.result ≡ total_of a.contents.agents a.contents.items a.contents.table (c.loop-i.i + 1)
total-read c =
    let a = c.args in
    let i = c.loop-i.i in
    let all = c.all_items-set in
    let row = get_or a.contents.table i [] in
    let whole : c.value_of.result ≡ value row (items_of all.result) = c.value_of.ensures.0 in
    let few : min a.contents.items most_items ≡ a.contents.items = omega arith in
    whole
    ∙ ap (λ set. value row (items_of set)) (all.ensures ∙ ap (λ m. set_of (range 1 m)) few)
    ∙ value-all a.contents.items (omega arith) row
    ∙ ap (λ row. total (all_values a.contents.items row)) (sym (nth-next [] a.contents.table i))

-- what the code compares at agent i + 1
is_covered-read : (c : After-value_of)
    → let a = c.args in
    is_covered a.contents.agents a.contents.items a.contents.table (c.loop-i.i + 1) ≡ leb (a.contents.agents * get_or a.shares c.loop-i.i 0) c.value_of.result
is_covered-read c = ap₂ leb (ap (λ share. c.args.contents.agents * share) (sym (share-read c.before.before))) (sym (total-read c))

pub returns-then-contents-shares : goal.returns-then-contents-shares
returns-then-contents-shares c =
    let a = c.args in
    let i = c.loop-i.i in
    let above : c.value_of.result < a.contents.agents * get_or a.shares i 0 = omega arith in
    let fails = is_covered-read (goal.at.returns-then-contents-shares c).After-value_of ∙ lt-leb (a.contents.agents * get_or a.shares i 0) c.value_of.result above in
    sym (shares_covered-range a.contents.agents a.contents.items a.contents.table ∙ all-fails (is_covered a.contents.agents a.contents.items a.contents.table) a.contents.agents (i + 1) (omega arith) (omega arith) fails)

pub loop-i-preserved : goal.loop-i-preserved
loop-i-preserved c =
    let a = c.args in
    let i = c.loop-i.i in
    let fits : a.contents.agents * get_or a.shares i 0 ≤ c.value_of.result = omega arith in
    let holds = is_covered-read (goal.at.loop-i-preserved c).After-value_of ∙ le-leb (a.contents.agents * get_or a.shares i 0) c.value_of.result fits in
    all-next (is_covered a.contents.agents a.contents.items a.contents.table) i c.loop-i.invariant holds

pub returns : goal.returns
returns c =
    let a = c.args in
    let e : c.loop-i.i ≡ a.contents.agents = omega arith in
    sym (shares_covered-range a.contents.agents a.contents.items a.contents.table ∙ (rw e at c.loop-i.invariant))
