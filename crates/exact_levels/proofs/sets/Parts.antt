-- Parts of a set of items: of the set without one item, and what they leave. Assumes nothing.
use mathlib.Core.Path.{◌≡◌, sym, ap, subst, ◌∙◌}
use mathlib.Core.List.{List, ◌∷◌, ◌++◌}
use mathlib.Core.List.Sublistᴰ.{refl as sublist-refl}
use mathlib.Core.List.Sublistᴰ.{trans as sublist-trans}
use mathlib.Core.List.{Sublistᴰ as Sublist}
use Prim.Native.Nat.{ℕ, ◌+◌, ◌-◌, ◌/◌, ◌%◌, ◌^◌, ◌<◌}
use native.Mathlib.Nat.{add-sub_cancel}
use native.Mathlib.Omega.{arith}
use Rattle.lists.specs.Sums.{sum_over}
use Rattle.lists.proofs.members.Counting.{sublist-mem}
use Rattle.lists.proofs.members.WithoutOne.{At, mem-at, without-sublist, sublist-without, left_out}
use Rattle.sheet.specs.Limits.{most_items}
use Rattle.sheet.specs.Sets.{items_of, set_of}
use Rattle.sheet.proofs.sets.Sets.{items-some}
use Rattle.sheet.proofs.sets.Items.{set_of-items, set_of-append}
use Rattle.sheet.proofs.sets.Bits.{set_of-sum, mem-named, named_in}
use Rattle.exact_levels.specs.Parts.{IsPart}

pub part-refl : (set : ℕ) → IsPart set set
part-refl set = record { below = omega arith; some_items = sublist-refl (items_of set) }

pub part-trans : {a b c : ℕ} → IsPart a b → IsPart b c → IsPart a c
part-trans p q = record { below = omega (arith, p.below, q.below); some_items = sublist-trans p.some_items q.some_items }

-- what a part names the set names
pub part-named : {part : ℕ} (set i : ℕ) → i < most_items → IsPart part set → part / 2 ^ i % 2 ≡ 1 → set / 2 ^ i % 2 ≡ 1
part-named {part} set i low p odd = mem-named set i (sublist-mem p.some_items (named_in part i (omega arith) odd))

module _ (set : ℕ) (small : set < 2 ^ most_items) where
  -- some of the items make a part
  pub some-part : {ks : List ℕ} → Sublist ks (items_of set) → IsPart (set_of ks) set
  some-part {ks} s =
      let r = left_out s in
      record {
        below = omega (arith, r.sums (λ k. 2 ^ (k - 1)), set_of-sum ks, set_of-sum (items_of set), set_of-items set most_items small (omega arith));
        some_items = subst (λ l. Sublist l (items_of set)) (sym (items-some set s)) s;
      }

  -- a part and the rest, which is a part too
  pub record Split (part : ℕ) : Type 0 where
    pub rest_part : IsPart (set - part) set
    pub sums : (w : ℕ → ℕ) → sum_over w (items_of set) ≡ sum_over w (items_of part) + sum_over w (items_of (set - part))

  pub split : {part : ℕ} → IsPart part set → Split part
  split {part} p =
      let r = left_out p.some_items in
      let rest : set_of r.rest ≡ set - part =
      omega (
        arith,
        r.sums (λ k. 2 ^ (k - 1)),
        set_of-sum (items_of part),
        set_of-sum (items_of set),
        set_of-sum r.rest,
        set_of-items set most_items small (omega arith),
        set_of-items part most_items (omega (arith, p.below)) (omega arith),
      ) in
      record {
        rest_part = subst (λ k. IsPart k set) rest (some-part r.rest_sub);
        sums = λ w. r.sums w ∙ ap (λ l. sum_over w (items_of part) + sum_over w l) (sym (items-some set r.rest_sub) ∙ ap items_of rest);
      }

  -- the set without the item at a place
  without_at : {k : ℕ} (a : At k (items_of set)) → set_of (a.front ++ a.back) ≡ set - 2 ^ (k - 1)
  without_at {k} a =
      omega (
        arith,
        set_of-append a.front a.back,
        set_of-append a.front (k ∷ a.back),
        ap set_of a.parts,
        set_of-items set most_items small (omega arith),
      )

  without-at-sublist : {k : ℕ} (a : At k (items_of set)) → Sublist (a.front ++ a.back) (items_of set)
  without-at-sublist {k} a = subst (λ l. Sublist (a.front ++ a.back) l) (sym a.parts) (without-sublist a.front k a.back)

  -- the set without an item that it names is a part
  pub without-named : (i : ℕ) → i < most_items → set / 2 ^ i % 2 ≡ 1 → IsPart (set - 2 ^ i) set
  without-named i low odd =
      let a = mem-at (items_of set) (named_in set i (omega arith) odd) in
      subst (λ k. IsPart k set) (without_at a ∙ ap (λ k. set - 2 ^ k) (add-sub_cancel i 1)) (some-part (without-at-sublist a))

  -- a part that lacks an item that the set names is a part of the set without it
  pub part_without : {part : ℕ} (i : ℕ) → i < most_items → set / 2 ^ i % 2 ≡ 1 → (part / 2 ^ i % 2 ≡ 1 → ⊥) → IsPart part set → IsPart part (set - 2 ^ i)
  part_without {part} i low odd lacks p =
      let a = mem-at (items_of set) (named_in set i (omega arith) odd) in
      let less : set_of (a.front ++ a.back) ≡ set - 2 ^ i = without_at a ∙ ap (λ k. set - 2 ^ k) (add-sub_cancel i 1) in
      let lists : items_of (set - 2 ^ i) ≡ a.front ++ a.back = ap items_of (sym less) ∙ items-some set (without-at-sublist a) in
      let still : Sublist (items_of part) (a.front ++ a.back) =
      sublist-without a.front (i + 1) a.back (subst (λ l. Sublist (items_of part) l) a.parts p.some_items) (λ m. lacks (mem-named part i m)) in
      record {
        below = omega (
          arith,
          (left_out still).sums (λ k. 2 ^ (k - 1)),
          set_of-sum (items_of part),
          set_of-sum (a.front ++ a.back),
          less,
          set_of-items part most_items (omega (arith, p.below)) (omega arith),
        );
        some_items = subst (λ l. Sublist (items_of part) l) (sym lists) still;
      }
