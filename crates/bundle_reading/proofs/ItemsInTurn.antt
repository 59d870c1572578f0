-- Items in rising order, one after another: the next one of a loop, and the set that they make. Assumes nothing.
use mathlib.Core.Path.{◌≡◌, refl, sym, ap, ◌∙◌}
use mathlib.Core.List.{List, [], ◌∷◌}
use Rattle.std.specs.Prelude.{Option, None, Some}
use Rattle.std.proofs.lemmas.Option.{none-some}
use mathlib.Core.Bool.{Bool, true, false, cond, ◌&&◌}
use Prim.Native.Nat.{ℕ, suc, ◌+◌, ◌-◌, ◌^◌, ◌≤◌, ◌<◌}
use native.Mathlib.Nat.{zero-add, add-zero, add_assoc, pow-suc, pow-le-pow_right}
use native.Mathlib.Omega.{arith}
use lib.Dec.{leb, ltb}
use borrow.Author.Tests.{lt-ltb, le-ltb, le-leb, lt-leb}
use Rattle.sheet.specs.Limits.{count_digits, most_items}
use Rattle.sheet.specs.Sets.{set_of}
use Rattle.tokens.specs.Tokens.{Token}
use Rattle.tokeniser.specs.Behind.{place_left}
use Rattle.tokeniser.specs.declared.Cursor.{Cursor}
use Rattle.lexing.specs.Forms.{◌>>=◌}
use Rattle.lexing.specs.Numbers.{is_number, digits_after, number}
use Rattle.lexing.specs.Results.{found_from}
use Rattle.lexing.proofs.readers.Tested.{number_passed}
use Rattle.bundle_reading.specs.Bundles.{rising_items}
use Rattle.bundle_reading.specs.Results.{bundle_from}

module _ (items above : ℕ) where
  -- no number is left
  pub no_item : (ts : List Token) → number count_digits ts ≡ None → rising_items items above ts ≡ Some ([], ts)
  unfolding rising_items number
  no_item [] e = refl
  no_item (t ∷ ts) e = go (is_number count_digits t) refl
    where
      go : (test : Bool) → is_number count_digits t ≡ test → rising_items items above (t ∷ ts) ≡ Some ([], t ∷ ts)
      go false f = rw f
      go true f = absurd (none-some (digits_after 0 t, ts) (sym (rw f at e)))

  -- one that does not rise, one that is not on the sheet, and one that is read
  module _ (k : ℕ) (ts' : List Token) where
    item-read : (ts : List Token) → number count_digits ts ≡ Some (k, ts')
        → rising_items items above ts ≡ cond (ltb above k && leb k items) (rising_items items k ts' >>= (λ r. Some (k ∷ r.0, r.1))) None
    unfolding rising_items number is_number
    item-read [] e = absurd (none-some _ e)
    item-read (t ∷ ts) e =
        let read = number_passed count_digits t ts k ts' e in
        rw (read.0, read.1, read.2)

    module _ (ts : List Token) (e : number count_digits ts ≡ Some (k, ts')) where
      pub item-not-above : k ≤ above → rising_items items above ts ≡ None
      item-not-above h = item-read ts e ∙ rw (le-ltb above k h)

      pub item-not-on-sheet : above < k → items < k → rising_items items above ts ≡ None
      item-not-on-sheet h l = item-read ts e ∙ rw (lt-ltb above k h, lt-leb k items l)

      pub item-rises : above < k → k ≤ items → rising_items items above ts ≡ (rising_items items k ts' >>= (λ r. Some (k ∷ r.0, r.1)))
      item-rises h l = item-read ts e ∙ rw (lt-ltb above k h, le-leb k items l)

-- what is answered for items that are read behind those of a set
abbrev pub behind_set : ℕ → List ℕ → Cursor → Option (List ℕ × List Token) → Option (ℕ × Cursor)
behind_set set s c o = found_from (λ items. set + set_of items) s c o

-- before any is read, with one more, and when none is left
module _ (s : List ℕ) (c : Cursor) where
  pub none_before : (o : Option (List ℕ × List Token)) → bundle_from s c o ≡ behind_set 0 s c o
  unfolding found_from
  none_before None = refl
  none_before (Some (l, ts)) = rw (zero-add (set_of l))

  pub item-before : (set k : ℕ) (o : Option (List ℕ × List Token)) → behind_set set s c (o >>= (λ r. Some (k ∷ r.0, r.1))) ≡ behind_set (set + 2 ^ (k - 1)) s c o
  unfolding found_from
  item-before set k None = refl
  item-before set k (Some (l, ts)) = rw (add_assoc set (2 ^ (k - 1)) (set_of l))

  pub all-before : (set : ℕ) (ts : List Token) → behind_set set s c (Some ([], ts)) ≡ Some (set, place_left s c ts)
  unfolding found_from
  all-before set ts = rw (add-zero set)

-- the bit of a higher item
pub higher-item : (set above k : ℕ) → set < 2 ^ above → above < k → set + 2 ^ (k - 1) < 2 ^ k
higher-item set above k small higher =
    let lower : above ≤ k - 1 = omega arith in
    let power : 2 ^ above ≤ 2 ^ (k - 1) = pow-le-pow_right {n = 2} (omega arith) lower in
    let last : suc (k - 1) ≡ k = omega arith in
    omega (arith, pow-suc 2 (k - 1), ap (λ n. 2 ^ n) last)

-- sets of the items of a sheet are small
pub item-power : (k : ℕ) → k ≤ most_items → 2 ^ k ≤ 4096
item-power k few = pow-le-pow_right {n = 2} (omega arith) few
