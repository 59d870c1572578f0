use mathlib.Core.Path.{◌≡◌, sym, ap, ◌∙◌}
use mathlib.Core.Bool.{true}
use Rattle.lists.specs.Lists.{zeros}
use Rattle.sheet.specs.Limits.{most_agents, most_items}
use Rattle.walking.specs.Walk.{walked, searchable, finding}
use Rattle.walking.proofs.find_by.Goals as goal
use Rattle.walking.proofs.find_by.Goals.{Else-not-is_searchable}

-- the values and the bundles are within the limits
is_within : (c : Else-not-is_searchable) → let a = c.args in searchable a.values.now a.bundles ≡ true
is_within c = sym c.is_searchable.ensures ∙ c.if-not-is_searchable.false

pub returns-then-not-is_searchable : goal.returns-then-not-is_searchable
unfolding finding
returns-then-not-is_searchable c = rw (sym c.is_searchable.ensures ∙ c.if-not-is_searchable.true) c.nothing-search.ensures

pub returns : goal.returns
unfolding finding
returns c = rw (is_within (goal.at.returns c).Else-not-is_searchable) (c.search.ensures ∙ ap (walked c.args.values.now c.args.bundles 0 0 (zeros most_agents) (zeros most_items) c.args.ceiling) c.nothing-search.ensures)
