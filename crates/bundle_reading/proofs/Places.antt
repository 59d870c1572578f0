-- What is left behind a bundle is the end of the tokens, and where it is left. Assumes nothing.
use mathlib.Core.Path.{◌≡◌}
use mathlib.Core.List.{List, [], ◌∷◌, suffix_refl, suffix-cons}
use Rattle.std.specs.Prelude.{None, Some}
use mathlib.Core.Bool.{Bool, true, false, cond, ◌&&◌}
use Prim.Native.Nat.{ℕ}
use lib.Dec.{leb, ltb}
use Rattle.sheet.specs.Limits.{count_digits}
use Rattle.sheet.specs.Sets.{set_of}
use Rattle.tokens.specs.Tokens.{Token}
use Rattle.tokeniser.specs.Places.{tokens_at}
use Rattle.tokeniser.specs.declared.Cursor.{Cursor}
use Rattle.lexing.specs.Forms.{◌>>=◌, form, follow}
use Rattle.lexing.specs.Numbers.{is_number, digits_after}
use Rattle.lexing.proofs.readers.Suffixes.{LeavesEnd, end-of-end, then-leaves, follow-leaves}
use Rattle.lexing.proofs.readers.Places.{Found, found-to}
use Rattle.bundle_reading.specs.Bundles.{pile_end, rising_items, bundle_after}
use Rattle.bundle_reading.specs.Results.{bundle_from}

pub rising_items-leaves : (items above : ℕ) (ts : List Token) → LeavesEnd (λ r. r.1) ts (rising_items items above ts)
unfolding rising_items
rising_items-leaves items above [] = suffix_refl []
rising_items-leaves items above (t ∷ ts) =
    go (is_number count_digits t) (ltb above (digits_after 0 t) && leb (digits_after 0 t) items) (rising_items-leaves items (digits_after 0 t) ts)
  where
    go : (number test : Bool) → LeavesEnd (λ r. r.1) ts (rising_items items (digits_after 0 t) ts)
        → LeavesEnd (λ (r : List ℕ × List Token). r.1) (t ∷ ts)
        (cond number (cond test (rising_items items (digits_after 0 t) ts >>= (λ r. Some (digits_after 0 t ∷ r.0, r.1))) None) (Some ([], t ∷ ts)))
    go false test later = suffix_refl (t ∷ ts)
    go true false later = tt
    go true true later =
        then-leaves (t ∷ ts) (rising_items items (digits_after 0 t) ts) _ (λ r. r.1) (λ r. r.1) (end-of-end (λ r. r.1) (rising_items items (digits_after 0 t) ts) (suffix-cons t ts) later)
        (λ r. suffix_refl r.1)

pub bundle_after-leaves : (fs : List Token) (items : ℕ) (ts : List Token) → LeavesEnd (λ r. r.1) ts (bundle_after fs items ts)
unfolding bundle_after
bundle_after-leaves fs items ts =
    then-leaves ts (follow fs ts) _ (λ us. us) (λ r. r.1) (follow-leaves fs ts)
    (λ us. then-leaves us (rising_items items 0 us) _ (λ r. r.1) (λ r. r.1) (rising_items-leaves items 0 us)
    (λ r. then-leaves r.1 (follow (form pile_end) r.1) _ (λ vs. vs) (λ q. q.1) (follow-leaves (form pile_end) r.1) (λ vs. suffix_refl vs)))

-- a bundle behind a form, where it is read
pub bundle_after-read : (s : List ℕ) (c : Cursor) (fs : List Token) (items : ℕ) {set : ℕ} {c' : Cursor} → Some (set, c') ≡ bundle_from s c (bundle_after fs items (tokens_at s c))
    → Found s c set_of (bundle_after fs items (tokens_at s c)) set c'
bundle_after-read s c fs items told = found-to s c set_of (bundle_after fs items (tokens_at s c)) (bundle_after-leaves fs items (tokens_at s c)) told
