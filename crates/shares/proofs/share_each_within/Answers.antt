use mathlib.Core.Path.{◌≡◌, sym, ap, ap₂, ◌∙◌}
use mathlib.Core.Bool.{true}
use Prim.Native.Nat.{◌≤◌, ◌<◌, min}
use native.Mathlib.Omega.{arith}
use Rattle.sheet.specs.Limits.{most_agents, most_items, agents_allowed, items_allowed, CountsWithin}
use Rattle.sheet.specs.Answers.{map_answer}
use Rattle.sheet.proofs.Limits.{counts-within}
use Rattle.growth.specs.Growth.{growths}
use Rattle.shares.specs.Stored.{stored}
use Rattle.shares.proofs.Refusals.{sharing-agents-outside, sharing-items-outside}
use Rattle.shares.proofs.Allowance.{sharing_within-refused, sharing_within-enough, sharing_within-short}
use Rattle.shares.proofs.share_each_within.Goals as goal
use Rattle.shares.proofs.share_each_within.Goals.{After-count, Else-allowance-count, Else-not-agents_allowed, Else-not-items_allowed}

-- both counts are allowed
agents_within : (c : Else-not-agents_allowed) → agents_allowed c.args.contents.agents ≡ true
agents_within c = sym c.agents_allowed.ensures ∙ c.if-not-agents_allowed.false

items_within : (c : Else-not-items_allowed) → items_allowed c.args.contents.items ≡ true
items_within c = sym c.items_allowed.ensures ∙ c.if-not-items_allowed.false

within-limits : (c : Else-not-items_allowed) → let sheet = c.args.contents in CountsWithin sheet.agents sheet.items
within-limits c = let sheet = c.args.contents in counts-within sheet.agents sheet.items (agents_within c.before.before) (items_within c)

-- the number that the allowance is held against
counted : (c : After-count) → let sheet = c.args.contents in c.count.result ≡ growths sheet.agents sheet.items
counted c =
    let sheet = c.args.contents in
    let w = within-limits c.before in
    let agents : min sheet.agents most_agents ≡ sheet.agents = omega (arith, w.few) in
    let items : min sheet.items most_items ≡ sheet.items = omega (arith, w.few_items) in
    c.count.ensures ∙ ap₂ growths agents items

-- the allowance is enough
enough : (c : Else-allowance-count) → let a = c.args in growths a.contents.agents a.contents.items ≤ a.allowance
enough c = omega (arith, counted c.before, c.if-allowance-count.false)

pub returns-then-not-agents_allowed-clause-answer : goal.returns-then-not-agents_allowed-clause-answer
returns-then-not-agents_allowed-clause-answer c =
    let a = c.args in
    let outside = sym c.agents_allowed.ensures ∙ c.if-not-agents_allowed.true in
    ap (map_answer stored) (sym (sharing_within-refused a.contents a.allowance 4 (sharing-agents-outside a.contents outside)))

pub returns-then-not-items_allowed-clause-answer : goal.returns-then-not-items_allowed-clause-answer
returns-then-not-items_allowed-clause-answer c =
    let a = c.args in
    let outside = sym c.items_allowed.ensures ∙ c.if-not-items_allowed.true in
    let within = agents_within (goal.at.returns-then-not-items_allowed-clause-answer c).Else-not-agents_allowed in
    ap (map_answer stored) (sym (sharing_within-refused a.contents a.allowance 5 (sharing-items-outside a.contents within outside)))

pub returns-then-allowance-count-clause-answer : goal.returns-then-allowance-count-clause-answer
returns-then-allowance-count-clause-answer c =
    let a = c.args in
    let at = goal.at.returns-then-allowance-count-clause-answer c in
    let short : a.allowance < growths a.contents.agents a.contents.items = omega (arith, counted at.After-count, c.if-allowance-count.true) in
    ap (map_answer stored) (sym (sharing_within-short a.contents a.allowance (within-limits at.Else-not-items_allowed) short))

pub returns-clause-answer : goal.returns-clause-answer
returns-clause-answer c =
    let a = c.args in
    c.checked_cuts.ensures.answer ∙ ap (map_answer stored) (sym (sharing_within-enough a.contents a.allowance (enough (goal.at.returns-clause-answer c).Else-allowance-count)))
