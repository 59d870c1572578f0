-- Bundles that are read rise and name items of the sheet only, so that each is known by its set. Assumes nothing.
use mathlib.Core.Path.{◌≡◌, refl, ap₂}
use mathlib.Core.Bool.{Bool, true, false, cond, ◌&&◌, and-eq-true_iff}
use mathlib.Core.Logic.{⊎_elim}
use mathlib.Core.List.Memᴰ.{head as here}
use mathlib.Core.List.Memᴰ.{tail as there}
use mathlib.Core.List.{List, [], ◌∷◌, map, Memᴰ as Mem}
use mathlib.Core.List.Memᴰ.{cases_cons}
use mathlib.Core.List.Memᴰ.{not-nil}
use mathlib.Core.List.{Sublistᴰ as Sublist}
use Rattle.std.specs.Prelude.{None, Some}
use Prim.Native.Nat.{ℕ, ◌≤◌, ◌<◌}
use native.Mathlib.Omega.{arith}
use lib.Dec.{leb, ltb}
use borrow.Author.Tests.{leb-true, ltb-true}
use Rattle.lists.specs.Lists.{range, Rising}
use Rattle.lists.proofs.ranges.Ranges.{in-range, range-bounds, mem-within, within-mem}
use Rattle.lists.proofs.ranges.RangeSublists.{rising-range-sublist, range-sublist-rising, range-sublist-within}
use Rattle.sheet.specs.Limits.{most_items, set_bits, count_digits}
use Rattle.sheet.specs.Sets.{items_of, set_of}
use Rattle.sheet.proofs.sets.Sets.{items-set_of}
use Rattle.tokens.specs.Tokens.{Token}
use Rattle.lexing.specs.Forms.{◌>>=◌, form, follow}
use Rattle.lexing.specs.Numbers.{is_number, digits_after, follow_number}
use Rattle.lexing.proofs.readers.InTurn.{Holds, then-holds, read-holds}
use Rattle.sheet_lines.specs.SheetForms.{before_turn}
use Rattle.division_reading.specs.DivisionForms.{before_pile, pile_end}
use Rattle.division_reading.specs.Shape.{IsBundle}
use Rattle.division_reading.specs.Grammar.{rising_items, bundle_after, bundle_in_turn}

-- items that rise from one on
record RisingAbove (items above : ℕ) (l : List ℕ) : Type 0 where
  rising : Rising l
  bounds : (k : ℕ) → Mem k l → (above < k) × (k ≤ items)

rising-cons : (items above k : ℕ) (l : List ℕ) → above < k → k ≤ items → RisingAbove items k l → RisingAbove items above (k ∷ l)
rising-cons items above k l low high r =
    record {
      rising = (λ y m. (r.bounds y m).0, r.rising);
      bounds = λ j m. ⊎_elim (λ (e : j ≡ k). omega arith) (λ later. omega (arith, r.bounds j later)) (cases_cons m);
    }

items_rise : (items above : ℕ) (ts : List Token) → Holds (λ r. RisingAbove items above r.0) (rising_items items above ts)
unfolding rising_items
items_rise items above [] = record { rising = tt; bounds = λ k m. absurd (not-nil m) }
items_rise items above (t ∷ ts) = go (is_number count_digits t) (ltb above item && leb item items) refl (items_rise items item ts)
  where
    item : ℕ
    item = digits_after 0 t

    go : (number test : Bool) → (ltb above item && leb item items) ≡ test → Holds (λ r. RisingAbove items item r.0) (rising_items items item ts)
        → Holds (λ (r : List ℕ × List Token). RisingAbove items above r.0) (cond number (cond test (rising_items items item ts >>= (λ r. Some (item ∷ r.0, r.1))) None) (Some ([], t ∷ ts)))
    go false test e later = record { rising = tt; bounds = λ k m. absurd (not-nil m) }
    go true false e later = tt
    go true true e later =
        let both = (and-eq-true_iff (ltb above item) (leb item items)).0 e in
        then-holds _ (λ r. RisingAbove items item r.0) (rising_items items item ts) _ later
        (λ r h. rising-cons items above item r.0 (ltb-true above item both.0) (leb-true item items both.1) h)

rising-bundle : (items : ℕ) (l : List ℕ) → RisingAbove items 0 l → IsBundle items l
rising-bundle items l r =
    record { on_sheet = mem-within items l (λ k m. let b = r.bounds k m in in-range 1 items k (omega arith) (omega arith)); rises = r.rising }

pub bundle-read : (fs : List Token) (items : ℕ) (ts : List Token) → Holds (λ r. IsBundle items r.0) (bundle_after fs items ts)
unfolding bundle_after
bundle-read fs items ts =
    read-holds _ (follow fs ts) _ (λ ts₁.
    then-holds _ (λ r. RisingAbove items 0 r.0) (rising_items items 0 ts₁) _ (items_rise items 0 ts₁)
    (λ r h. read-holds _ (follow (form pile_end) r.1) _ (λ ts₂. rising-bundle items r.0 h)))

pub bundle-in-turn-read : (items turn : ℕ) (ts : List Token) → Holds (λ r. IsBundle items r.0) (bundle_in_turn items turn ts)
unfolding bundle_in_turn
bundle-in-turn-read items turn ts = read-holds _ (follow_number (form before_turn) count_digits turn ts) _ (λ ts₁. bundle-read (form before_pile) items ts₁)

-- a bundle is some of the items in turn
pub sublist-bundle : (m : ℕ) {bundle : List ℕ} → Sublist bundle (range 1 m) → IsBundle m bundle
sublist-bundle m s = record { on_sheet = range-sublist-within m s; rises = range-sublist-rising m s }

pub bundle-sublist : (m : ℕ) {bundle : List ℕ} → IsBundle m bundle → Sublist bundle (range 1 m)
bundle-sublist m {bundle} b =
    rising-range-sublist m bundle b.rises (λ k mk. let bounds = range-bounds 1 m (within-mem m bundle b.on_sheet k mk) in (bounds.0, omega arith))

-- the set of a bundle names just its items
pub items-of-bundle : (items : ℕ) → items ≤ most_items → {bundle : List ℕ} → IsBundle items bundle → items_of (set_of bundle) ≡ bundle
items-of-bundle items few {bundle} b =
    items-set_of bundle (rising-range-sublist set_bits bundle b.rises (λ k m. let bounds = range-bounds 1 items (within-mem items bundle b.on_sheet k m) in omega arith))

pub items-of-bundles : (items : ℕ) → items ≤ most_items → (bundles : List (List ℕ)) → ((b : List ℕ) → Mem b bundles → IsBundle items b) → map (λ b. items_of (set_of b)) bundles ≡ bundles
items-of-bundles items few [] each = refl
items-of-bundles items few (bundle ∷ bundles) each =
    ap₂ ◌∷◌ (items-of-bundle items few (each bundle (here refl))) (items-of-bundles items few bundles (λ b m. each b (there m)))
