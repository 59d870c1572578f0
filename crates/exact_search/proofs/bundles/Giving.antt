-- From a way of giving each item to an agent in which each has its share: the agents can be served from all items. Assumes nothing.
use mathlib.Core.Path.{◌≡◌, refl, sym, ap, subst, ◌∙◌}
use mathlib.Core.Bool.{Bool, true, false, cond, true≢false}
use mathlib.Core.Logic.{⊎_elim}
use mathlib.Core.List.Memᴰ.{head as here}
use mathlib.Core.List.Memᴰ.{tail as there}
use mathlib.Core.List.{List, [], ◌∷◌, Memᴰ as Mem}
use mathlib.Core.List.Sublistᴰ.{cons as skip}
use mathlib.Core.List.Sublistᴰ.{cons-cons as keep}
use mathlib.Core.List.Sublistᴰ.{slnil as done}
use mathlib.Core.List.Sublistᴰ.{trans as sublist-trans}
use mathlib.Core.List.{Sublistᴰ as Sublist}
use Prim.Native.Nat.{ℕ, zero, suc, ◌+◌, ◌-◌, ◌^◌, ◌≤◌, ◌<◌}
use native.Mathlib.Omega.{arith}
use lib.Dec.{eqb, leb}
use lib.ListN.{length, get_or}
use borrow.Author.Tests.{eq-eqb, ne_eqb, le-leb, lt-leb, leb-true}
use Rattle.lists.specs.Lists.{range, nth, cons_if}
use Rattle.lists.specs.Sums.{sum_over}
use Rattle.lists.proofs.Cases.{lt-or-ge, eq-or-ne}
use Rattle.lists.proofs.ranges.Ranges.{in-range, range-bounds, length-range, range-sublist, nth-map-range}
use Rattle.lists.proofs.members.Counting.{all-mem}
use Rattle.lists.proofs.sums.Totals.{sum_over-cons_if}
use Rattle.lists.proofs.dictionary.Listed.{lists_over-in}
use Rattle.sheet.specs.Limits.{most_items, set_bits}
use Rattle.sheet.specs.Sets.{items_of, set_of}
use Rattle.sheet.specs.Valuations.{value}
use Rattle.sheet.specs.Tables.{valuation_of}
use Rattle.sheet.specs.Contents.{sheet_of}
use Rattle.sheet.proofs.sets.Sets.{items-set_of}
use Rattle.sheet.proofs.sets.Bits.{set_of-sum}
use Rattle.sheet.proofs.sets.Ranges.{set_of-below}
use Rattle.shares.specs.Shares.{share_of}
use Rattle.bundling.specs.Bundles.{items_in, bundle}
use Rattle.bundling.proofs.Bundles.{items_in-sublist}
use Rattle.exact_division.specs.Exact.{has_share, is_exact, bundles_by, exact_exists}
use Rattle.exact_division.proofs.Existence.{exists-giving}
use Rattle.exact_levels.specs.ServedSets.{Serves}
use Rattle.exact_levels.proofs.sets.Parts.{some-part}

-- the items of bundles that pass one test are some of those of bundles that pass a weaker one
items_in-weaker : (t u : ℕ → Bool) → ((c : ℕ) → t c ≡ true → u c ≡ true) → (ks l : List ℕ) → Sublist (items_in t ks l) (items_in u ks l)
items_in-weaker t u weaker [] l = done
items_in-weaker t u weaker (k ∷ ks) [] = done
items_in-weaker t u weaker (k ∷ ks) (c ∷ l) = step (items_in-weaker t u weaker ks l) (t c) refl (u c) refl
  where
    step : Sublist (items_in t ks l) (items_in u ks l) → (b : Bool) → t c ≡ b → (d : Bool) → u c ≡ d → Sublist (cons_if b k (items_in t ks l)) (cons_if d k (items_in u ks l))
    step below true e true f = keep refl below
    step below true e false f = absurd (true≢false (sym (weaker c e) ∙ f))
    step below false e true f = skip below
    step below false e false f = below

-- all bundles together have all items
items_in-all : (t : ℕ → Bool) (ks l : List ℕ) → length l ≡ length ks → ((c : ℕ) → Mem c l → t c ≡ true) → items_in t ks l ≡ ks
items_in-all t [] l same each = refl
items_in-all t (k ∷ ks) [] same each = absurd (omega arith)
items_in-all t (k ∷ ks) (c ∷ l) same each = rw (each c (here refl)) (ap (λ r. k ∷ r) (items_in-all t ks l (omega arith) (λ d m. each d (there m))))

module _ (w : ℕ → ℕ) (i : ℕ) where
  -- a number up to i + 1 is up to i, or is i + 1
  up-to-next : (c x : ℕ) → cond (leb c (suc i)) x 0 ≡ cond (leb c i) x 0 + cond (eqb (suc i) c) x 0
  up-to-next c x =
      ⊎_elim
      (λ (above : suc i < c). rw (lt-leb c (suc i) above, lt-leb c i (omega arith), ne_eqb (suc i) c (λ e. omega arith)))
      (λ upto. ⊎_elim
      (λ (e : suc i ≡ c). rw (le-leb c (suc i) upto, lt-leb c i (omega arith), eq-eqb (suc i) c e) (omega arith))
      (λ ne. rw (le-leb c (suc i) upto, le-leb c i (ne-lt c upto ne), ne_eqb (suc i) c ne) (omega arith))
      (eq-or-ne (suc i) c))
      (lt-or-ge (suc i) c)
    where
      ne-lt : (c : ℕ) → c ≤ suc i → (suc i ≡ c → ⊥) → c ≤ i
      ne-lt c upto ne = ⊎_elim (λ (lt : i < c). absurd (ne (omega arith))) (λ le. le) (lt-or-ge i c)

  -- the items of the first i + 1 bundles are those of the first i, and those of bundle i + 1
  sum_over-next : (ks l : List ℕ) → sum_over w (items_in (λ c. leb c (suc i)) ks l) ≡ sum_over w (items_in (λ c. leb c i) ks l) + sum_over w (bundle ks l (suc i))
  sum_over-next [] l = refl
  sum_over-next (k ∷ ks) [] = refl
  sum_over-next (k ∷ ks) (c ∷ l) =
      omega (
        arith,
        sum_over-cons_if w (leb c (suc i)) k (items_in (λ c. leb c (suc i)) ks l),
        sum_over-cons_if w (leb c i) k (items_in (λ c. leb c i) ks l),
        sum_over-cons_if w (eqb (suc i) c) k (bundle ks l (suc i)),
        up-to-next c (w k),
        sum_over-next ks l,
      )

module _ (n m : ℕ) (table : List (List ℕ)) (shares : List ℕ) (few : m ≤ most_items)
    (own_shares : (agent : ℕ) → Mem agent (range 1 n) → nth 0 shares agent ≡ share_of (sheet_of n m table) agent) where
  module _ (l : List ℕ) (agents : (c : ℕ) → Mem c l → Mem c (range 1 n)) (same : length l ≡ m) (exact : is_exact (sheet_of n m table) (bundles_by n m l) ≡ true) where
    -- the items given to the first i agents
    abbrev up_to : ℕ → List ℕ
    up_to i = items_in (λ c. leb c i) (range 1 m) l

    items-of : {ks : List ℕ} → Sublist ks (range 1 m) → items_of (set_of ks) ≡ ks
    items-of {ks} s = items-set_of ks (sublist-trans s (range-sublist 1 m set_bits (omega arith)))

    up_to-sub : (i : ℕ) → Sublist (up_to i) (range 1 m)
    up_to-sub i = items_in-sublist (λ c. leb c i) (range 1 m) l

    reached : (agent : ℕ) → Mem agent (range 1 n) → share_of (sheet_of n m table) agent ≤ value (valuation_of table agent) (bundle (range 1 m) l agent)
    unfolding is_exact
    reached agent ma =
        leb-true _ _
        (subst (λ b. has_share (sheet_of n m table) agent b ≡ true) (nth-map-range (bundle (range 1 m) l) [] n ma)
        (all-mem (λ i. has_share (sheet_of n m table) i (nth [] (bundles_by n m l) i)) exact ma))

    -- the first i agents can be served from what they are given
    up_to-serves : (i : ℕ) → i ≤ n → Serves table shares i (set_of (up_to i))
    up_to-serves zero le = tt
    up_to-serves (suc i) le =
        let set = set_of (up_to (suc i)) in
        let own = bundle (range 1 m) l (suc i) in
        let front : Sublist (up_to i) (items_of set) =
        subst (λ ks. Sublist (up_to i) ks) (sym (items-of (up_to-sub (suc i)))) (items_in-weaker (λ c. leb c i) (λ c. leb c (suc i)) (λ c e. le-leb c (suc i) (omega (arith, leb-true c i e))) (range 1 m) l) in
        let rest : set_of own ≡ set - set_of (up_to i) = omega (arith, sum_over-next (λ k. 2 ^ (k - 1)) i (range 1 m) l, set_of-sum (up_to i), set_of-sum (up_to (suc i)), set_of-sum own) in
        let kept : items_of (set - set_of (up_to i)) ≡ own = ap items_of (sym rest) ∙ items-of (items_in-sublist (eqb (suc i)) (range 1 m) l) in
        let ma = in-range 1 n (suc i) (omega arith) (omega arith) in
        let place : i ≡ suc i - 1 = omega arith in
        let own-share : get_or shares i 0 ≡ share_of (sheet_of n m table) (suc i) = ap (λ k. get_or shares k 0) place ∙ own_shares (suc i) ma in
        let worth : value (get_or table i []) (items_of (set - set_of (up_to i))) ≡ value (valuation_of table (suc i)) own =
        ap (λ k. value (get_or table k []) (items_of (set - set_of (up_to i)))) place ∙ ap (value (valuation_of table (suc i))) kept in (
          set_of (up_to i),
          record {
            part_is = some-part set (set_of-below most_items (sublist-trans (up_to-sub (suc i)) (range-sublist 1 m most_items few))) front;
            before = up_to-serves i (omega arith);
            reaches = omega (arith, own-share, worth, reached (suc i) ma);
          },
        )

    -- the n agents can be served from all items
    giving-serves : Serves table shares n (set_of (range 1 m))
    giving-serves =
        let whole : up_to n ≡ range 1 m = items_in-all (λ c. leb c n) (range 1 m) l (same ∙ sym (length-range 1 m)) (λ c mc. le-leb c n (omega (arith, (range-bounds 1 n (agents c mc)).1))) in
        subst (λ ks. Serves table shares n (set_of ks)) whole (up_to-serves n (omega arith))

  -- where there is an exact division, the n agents can be served from all items
  pub exists-serves : exact_exists (sheet_of n m table) ≡ true → Serves table shares n (set_of (range 1 m))
  exists-serves e =
      let (l, listed, exact) = exists-giving (sheet_of n m table) e in
      let (each, same) = lists_over-in (range 1 n) m listed in
      giving-serves l each same exact
