-- From the levels of all sets to the answer: none, or the bundles that are handed out. Assumes nothing.
use mathlib.Core.Path.{◌≡◌, refl, sym, ap, subst, ◌∙◌}
use mathlib.Core.Bool.{Bool, true, false, false≢true}
use mathlib.Core.List.{List, [], Memᴰ as Mem}
use Prim.Native.Nat.{ℕ, ◌^◌, ◌≤◌, ◌<◌, min}
use native.Mathlib.Omega.{arith}
use lib.ListN.{get_or}
use Rattle.lists.specs.Lists.{range, nth}
use Rattle.lists.proofs.ranges.Ranges.{range-sublist}
use Rattle.sheet.specs.Limits.{most_agents, most_items}
use Rattle.sheet.specs.Sets.{items_of, set_of}
use Rattle.std.specs.Prelude.{Some, None, Ok, Err}
use Rattle.sheet.specs.declared.refusal.Refusal.{Refusal}
use Rattle.sheet.specs.Refusals.{number}
use Rattle.sheet.specs.Answers.{refused, accepted, map_answer}
use Rattle.sheet.specs.Contents.{Contents}
use Rattle.sheet.proofs.Accepted.{refused-not-accepted}
use Rattle.sheet.proofs.sets.AllItems.{items-of-all}
use Rattle.sheet.proofs.sets.Ranges.{set_of-up_to, set_of-below}
use Rattle.shares.specs.Shares.{share_of}
use Rattle.shares.specs.Known.{SharesIn}
use Rattle.shares.proofs.Answered.{nth-shares-in}
use Rattle.exact_division.specs.Exact.{exact_exists}
use Rattle.exact_division.specs.Search.{searching}
use Rattle.exact_division.proofs.Existence.{exact-division-exists}
use Rattle.exact_division.proofs.Answers.{searching-within-limits}
use Rattle.exact_search.specs.Outcome.{stored, Searched}
use Rattle.exact_levels.specs.ServedSets.{Serves, Ranked}
use Rattle.exact_levels.specs.Levels.{levels_of}
use Rattle.exact_levels.proofs.Levels.{levels-ranked}
use Rattle.exact_search.specs.internal.Handing.{CanHand, HandedOut}
use Rattle.exact_search.proofs.bundles.Giving.{exists-serves}
use Rattle.exact_search.proofs.bundles.Shown.{shown, shown-exact-division, shown-placed}

module _ (sheet : Contents) where
  -- a refusal shows nothing
  pub searched-refused : (e : Refusal) → searching sheet ≡ refused (number e) → Searched sheet (Err e)
  searched-refused e is =
      record { bundles = []; may_show = λ a. absurd (refused-not-accepted true (number e) (sym is ∙ a)); answered = sym (ap (map_answer (stored [])) is) }

-- the shares are known, and `all` is the set of the items
module _ {sheet : Contents} {shares : List ℕ} (shared : SharesIn sheet shares) (all : ℕ) (all-is : all ≡ set_of (range 1 (min sheet.items most_items))) where
  abbrev few_items : sheet.items ≤ most_items
  few_items = shared.counts.few_items

  upto : set_of (range 1 (min sheet.items most_items)) ≡ set_of (range 1 sheet.items)
  upto = let same : min sheet.items most_items ≡ sheet.items = omega (arith, few_items) in ap (λ k. set_of (range 1 k)) same

  pub small : all < 2 ^ most_items
  small = omega (arith, all-is, set_of-below most_items (range-sublist 1 (min sheet.items most_items) most_items (omega arith)))

  own_shares : (agent : ℕ) → Mem agent (range 1 sheet.agents) → nth 0 shares agent ≡ share_of sheet agent
  own_shares agent ma = nth-shares-in shared ma

  answers : (exists : Bool) → exact_exists sheet ≡ exists → searching sheet ≡ accepted exists
  answers exists is = searching-within-limits sheet shared.counts ∙ ap accepted is

  module _ (levels : List ℕ) (levels-are : levels ≡ levels_of sheet.table shares (min sheet.agents most_agents) (min sheet.items most_items)) where
    -- the levels tell how many of the agents can be served from each set of the items
    ranked : Ranked sheet.table shares sheet.agents all levels
    ranked =
        let agents : min sheet.agents most_agents ≡ sheet.agents = omega (arith, shared.counts.few) in
        let items : min sheet.items most_items ≡ sheet.items = omega (arith, few_items) in
        rw (levels-are, agents, items) (levels-ranked sheet.table shares sheet.agents sheet.items few_items all (omega (arith, all-is, upto, set_of-up_to sheet.items)))

    -- not all agents can be served from all items
    pub searched-none : get_or levels all 0 < sheet.agents → Searched sheet (Ok None)
    searched-none fewer = step (exact_exists sheet) refl
      where
        step : (b : Bool) → exact_exists sheet ≡ b → Searched sheet (Ok None)
        step true e =
            let serves = subst (Serves sheet.table shares sheet.agents) (sym (all-is ∙ upto)) (exists-serves sheet.agents sheet.items sheet.table shares few_items own_shares e) in
            absurd (omega (arith, ((ranked all (omega arith)).served sheet.agents (omega arith)).1 serves))
        step false e =
            let is = answers false e in
            record {
              bundles = [];
              may_show = λ other. let z : false ≡ true = cc in absurd (false≢true z);
              answered = sym (ap (map_answer (stored [])) is);
            }

    module _ (enough : sheet.agents ≤ get_or levels all 0) where
      pub can-hand : CanHand sheet.table shares sheet.agents levels all
      can-hand =
          record {
            some = shared.counts.some;
            few = shared.counts.few;
            small = small;
            ranked = ranked;
            serves = ((ranked all (omega arith)).served sheet.agents (omega arith)).0 enough;
          }

      -- the bundles are an exact division
      pub searched-found : (bundles : List ℕ) → HandedOut sheet.table shares sheet.agents all bundles → Searched sheet (Ok (Some bundles))
      searched-found bundles out =
          let items : items_of all ≡ range 1 sheet.items = ap items_of all-is ∙ items-of-all sheet.items few_items in
          let exact = shown-exact-division sheet.agents sheet.items sheet.table shares bundles all shared.counts.few small items own_shares out in
          let is = answers true (exact-division-exists sheet _ exact) in
          record {
            bundles = shown sheet.agents sheet.items sheet.table shares bundles all shared.counts.few small items own_shares out;
            may_show = λ _. exact;
            answered =
                ap (λ b. accepted (Some b)) (shown-placed sheet.agents sheet.items sheet.table shares bundles all shared.counts.few small items own_shares out)
                ∙ sym (ap (map_answer (stored (shown sheet.agents sheet.items sheet.table shares bundles all shared.counts.few small items own_shares out))) is);
          }
