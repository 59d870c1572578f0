-- What an agent leaves to those before it: the first part that it may leave is one from which they can be served. Assumes nothing.
use mathlib.Core.Path.{◌≡◌, sym, subst, ◌∙◌}
use mathlib.Core.Bool.{Bool, true, true≢false, and-eq-true_iff}
use mathlib.Core.Logic.{⊎_elim}
use mathlib.Core.List.{List, []}
use Prim.Native.Nat.{ℕ, suc, ◌-◌, ◌^◌, ◌≤◌, ◌<◌}
use native.Mathlib.Nat.{eq-or-lt_of_le}
use native.Mathlib.Omega.{arith}
use lib.Dec.{leb}
use lib.ListN.{get_or}
use borrow.Author.Tests.{leb-true, le-leb}
use Rattle.sheet.specs.Limits.{most_items}
use Rattle.sheet.specs.Sets.{items_of}
use Rattle.sheet.specs.Valuations.{value}
use Rattle.exact_levels.specs.Parts.{is_part}
use Rattle.exact_levels.specs.ServedSets.{Leaves, Serves, Ranked}
use Rattle.exact_search.specs.internal.Handing.{may_leave, FirstLeft}
use Rattle.exact_levels.proofs.sets.Named.{part-is_part, is_part-part}

module _ (table : List (List ℕ)) (shares : List ℕ) (agents all : ℕ) (levels : List ℕ) (small : all < 2 ^ most_items) (ranked : Ranked table shares agents all levels)
    (i set : ℕ) (more : i < agents) (upto : set ≤ all) where
  abbrev row : List ℕ
  row = get_or table i []

  abbrev share : ℕ
  share = get_or shares i 0

  -- the test, for agent i + 1
  abbrev test : ℕ → Bool
  test part = may_leave row share (get_or levels part 0) i part set

  passed-leaves : (part : ℕ) → part ≤ set → test part ≡ true → Leaves table shares (Serves table shares i) i set part
  unfolding may_leave
  passed-leaves part below e =
      let served = (and-eq-true_iff (leb i (get_or levels part 0)) _).0 e in
      let both = (and-eq-true_iff (is_part part set) _).0 served.1 in
      record {
        part_is = is_part-part part set (omega arith) (omega arith) both.0;
        before = ((ranked part (omega arith)).served i (omega arith)).0 (leb-true i (get_or levels part 0) served.0);
        reaches = leb-true share (value row (items_of (set - part))) both.1;
      }

  leaves-passed : (part : ℕ) → Leaves table shares (Serves table shares i) i set part → test part ≡ true
  unfolding may_leave
  leaves-passed part l =
      rw (
        le-leb i (get_or levels part 0) (((ranked part (omega (arith, l.part_is.below))).served i (omega arith)).1 l.before),
        part-is_part part set l.part_is,
      ) (le-leb share (value row (items_of (set - part))) l.reaches)

  -- where the agents can be served, the first part that may be left is left
  pub first-left-leaves : (part : ℕ) → Serves table shares (suc i) set → FirstLeft row share levels i set part → Leaves table shares (Serves table shares i) i set part
  first-left-leaves part (other, l) first =
      ⊎_elim whole (λ (e : test part ≡ true). passed-leaves part first.below e) first.whole_or_left
    where
      whole : part ≡ set → Leaves table shares (Serves table shares i) i set part
      whole e =
          ⊎_elim
          (λ (same : other ≡ set). subst (Leaves table shares (Serves table shares i) i set) (same ∙ sym e) l)
          (λ (lt : other < set). absurd (true≢false (sym (leaves-passed other l) ∙ first.none_before other (omega arith))))
          (eq-or-lt_of_le l.part_is.below)
