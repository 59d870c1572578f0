use mathlib.Core.Path.{◌≡◌, sym, ap, ◌∙◌}
use mathlib.Core.Bool.{Bool}
use mathlib.Core.List.{List, [], map}
use Prim.Native.Nat.{ℕ, ◌-◌, ◌≤◌, min}
use native.Mathlib.Omega.{arith}
use lib.Dec.{leb}
use lib.ListN.{length, take, length-take, get_or-map}
use mir.Syntax.{w16}
use borrow.Kind.Array.{good_length, e_int}
use Rattle.std.proofs.Common.{rules, tests}
use Rattle.std.specs.List.{list_all}
use Rattle.std.proofs.lemmas.Iterator.{YieldsList-from_slice}
use Rattle.std.proofs.lemmas.Iterator.Search.{all_from_yields_List}
use Rattle.lists.specs.Lists.{range, nth, all}
use Rattle.lists.proofs.sums.LeastOf.{leb-least_of}
use Rattle.lists.proofs.members.Chains.{list_all-all}
use Rattle.lists.proofs.members.Tests.{all-cong, all-nth}
use Rattle.sheet.specs.Limits.{most_agents, most_items}
use Rattle.sheet.specs.Sets.{items_of}
use Rattle.sheet.specs.Valuations.{value}
use Rattle.sheet.specs.Tables.{all_values}
use Rattle.stated_truth.specs.Lines.{least_to}
use Rattle.stated_figures.proofs.cut_reaches.Goals as goal

-- the items of a set at a place
nth-items : (sets : List ℕ) (i : ℕ) → nth [] (map items_of sets) i ≡ items_of (nth 0 sets i)
unfolding items_of
nth-items sets i = get_or-map items_of sets (i - 1) 0

-- whether each set is worth the share, as whether the least one is
each-least : (row : List ℕ) (share n m : ℕ) (sets : List ℕ) → 1 ≤ n → length sets ≡ n
    → all (λ set. leb share (value (all_values m row) (items_of set))) sets ≡ leb share (least_to n m row (map items_of sets))
each-least row share n m sets some places =
    all-nth (λ set. leb share (value (all_values m row) (items_of set))) 0 sets n places
    ∙ all-cong _ _ (range 1 n) (λ i _. ap (λ items. leb share (value (all_values m row) items)) (sym (nth-items sets i)))
    ∙ sym (leb-least_of (λ c. value (all_values m row) (nth [] (map items_of sets) c)) n share some)

pub returns : goal.returns
returns c =
    let a = c.args in
    let sets = take a.agents a.cut in
    let reaches : ℕ → ℕ → Bool = λ m set. leb a.share (value (all_values m a.valuation) (items_of set)) in
    let tested : c.all.result ≡ list_all (reaches (min a.items most_items)) sets =
    all_from_yields_List (reaches (min a.items most_items)) _ _ c.all.result c.all.ensures.ran (YieldsList-from_slice sets cc) (λ x b q k. search (rules, tests)) in
    let kept : min a.items most_items ≡ a.items = omega arith in
    let places = good_length (e_int w16) most_agents a.cut _ c.well_formed.1.1.1.0 in
    tested
    ∙ list_all-all (reaches (min a.items most_items)) sets
    ∙ ap (λ m. all (reaches m) sets) kept
    ∙ each-least a.valuation a.share a.agents a.items sets c.requires.some (omega (arith, length-take a.agents a.cut))
