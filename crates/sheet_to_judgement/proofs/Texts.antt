-- The text that the code makes of the margins in their places is that of the agents' margins, and how long it is. Assumes nothing.
use mathlib.Core.Path.{◌≡◌, sym, ap, ◌∙◌}
use mathlib.Core.List.{List, ◌++◌, map, flat_map, Memᴰ as Mem}
use Prim.Native.Nat.{ℕ, suc, ◌+◌, ◌*◌, ◌^◌, ◌≤◌, ◌<◌}
use native.Mathlib.Omega.{arith}
use lib.IntN.{ℤ, pos, negsuc}
use lib.ListN.{length, length-append}
use lib.Signed.{mag}
use Rattle.lists.specs.Lists.{range, nth, padded}
use Rattle.lists.proofs.ranges.Ranges.{length-range}
use Rattle.lists.proofs.places.Places.{nth-padded-range}
use Rattle.lists.proofs.members.FlatMap.{flat_map-cong, flat_map-map, length-flat_map-le}
use Rattle.lists.proofs.sums.Totals.{sum_over-le}
use Rattle.text.specs.Bytes.{bytes}
use Rattle.text.specs.Decimal.{signed}
use Rattle.text.proofs.Decimal.{decimal-length}
use Rattle.sheet.specs.Limits.{most_agents}
use Rattle.sheet_to_judgement.specs.AcceptedText.{accepted_text, margin_digits, longest_accepted}
use Rattle.sheet_to_judgement.specs.internal.MarginsText.{spaced_margin, margins_text}

-- a whole number of 64 bits
abbrev pub Small : ℤ → Type 0
Small z = mag z < 2 ^ 63

-- it has so many digits at most, and a sign
length-signed : (z : ℤ) → Small z → length (signed z) ≤ 1 + margin_digits
unfolding signed
length-signed (pos n) small = omega (arith, decimal-length n margin_digits (omega arith) (omega arith))
length-signed (negsuc n) small = simp length-append (omega (arith, decimal-length (suc n) margin_digits (omega arith) (omega arith)))

-- the texts of several, each behind a space
length-spaced : (f : ℕ → ℤ) (n : ℕ) → ((i : ℕ) → Mem i (range 1 n) → Small (f i)) → length (flat_map (λ i. bytes " " ++ signed (f i)) (range 1 n)) ≤ n * (2 + margin_digits)
length-spaced f n small =
    omega (
      arith,
      length-flat_map-le (λ i. bytes " " ++ signed (f i)) (λ i. 2 + margin_digits) (range 1 n) (λ i in_use. omega (arith, length-append (bytes " ") (signed (f i)), length-signed (f i) (small i in_use))),
      sum_over-le (λ i. 2 + margin_digits) 1 (2 + margin_digits) (range 1 n) (λ i in_use. omega arith),
      length-range 1 n,
    )

-- the whole text of margins of 64 bits
pub length-margins_text : (n : ℕ) (margins : List ℤ) → n ≤ most_agents → ((i : ℕ) → Small (nth (pos 0) margins i)) → length (margins_text n margins) ≤ longest_accepted
unfolding margins_text
length-margins_text n margins few small =
    let texts = flat_map (spaced_margin margins) (range 1 n) in
    omega (
      arith,
      length-append (bytes "(accepted (margins") (texts ++ bytes "))\n"),
      length-append texts (bytes "))\n"),
      length-spaced (nth (pos 0) margins) n (λ i in_use. small i),
    )

-- the margins in the code's places
module _ (n : ℕ) (f : ℕ → ℤ) where
  abbrev stored : List ℤ
  stored = padded most_agents (pos 0) (map f (range 1 n))

  spaced_margin-stored : (i : ℕ) → Mem i (range 1 n) → spaced_margin stored i ≡ bytes " " ++ signed (f i)
  spaced_margin-stored i in_use = ap (λ z. bytes " " ++ signed z) (nth-padded-range most_agents (pos 0) (pos 0) f n in_use)

  pub margins_text-accepted : margins_text n stored ≡ accepted_text (map f (range 1 n))
  unfolding margins_text accepted_text
  margins_text-accepted =
      ap (λ t. bytes "(accepted (margins" ++ t ++ bytes "))\n")
      (flat_map-cong (spaced_margin stored) (λ i. bytes " " ++ signed (f i)) (range 1 n) spaced_margin-stored
      ∙ sym (flat_map-map (λ z. bytes " " ++ signed z) f (range 1 n)))

  pub length-accepted_text : n ≤ most_agents → ((i : ℕ) → Mem i (range 1 n) → Small (f i)) → length (accepted_text (map f (range 1 n))) ≤ longest_accepted
  unfolding accepted_text
  length-accepted_text few small =
      let texts = flat_map (λ i. bytes " " ++ signed (f i)) (range 1 n) in
      rw (flat_map-map (λ z. bytes " " ++ signed z) f (range 1 n))
      (omega (arith, length-append (bytes "(accepted (margins") (texts ++ bytes "))\n"), length-append texts (bytes "))\n"), length-spaced f n small))
