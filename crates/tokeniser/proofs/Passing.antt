-- Bytes that count for nothing, one after another: spaces, remarks and the ends of blank lines. Assumes nothing.
use mathlib.Core.Path.{◌≡◌, refl, sym, ◌∙◌}
use mathlib.Core.List.{List, [], ◌∷◌}
use mathlib.Core.Bool.{Bool, true, false, not, ◌&&◌, ◌||◌}
use Prim.Native.Nat.{ℕ, suc, ◌+◌, ◌≤◌, ◌<◌}
use native.Mathlib.Nat.{add-zero}
use native.Mathlib.Omega.{arith}
use lib.Dec.{eqb}
use lib.ListN.{length, get_or, drop, drop_of_length-le, length-drop}
use lib.Seq.{drop-drop}
use borrow.Author.Tests.{eqb-true}
use Rattle.std.proofs.lemmas.List.Sums.{prefix_len-le-length}
use Rattle.lists.proofs.places.Passing.{drop-next}
use Rattle.tokens.specs.Lines.{line_feed, space, semicolon}
use Rattle.tokens.specs.TokensAfter.{counts_for_nothing}
use Rattle.tokeniser.specs.NextToken.{in_remark, blanks}
use Rattle.tokeniser.specs.internal.Scanned.{remark_bytes}

second-false : (x y z : Bool) → (x || y || z) ≡ false → y ≡ false
second-false true y z e = cc
second-false false true z e = cc
second-false false false z e = refl

-- a byte that does not count for nothing begins no remark
pub no-remark-begins : (begun : Bool) (b : ℕ) → counts_for_nothing begun b ≡ false → in_remark false b ≡ false
no-remark-begins begun b counts = rw (second-false (eqb b space) (eqb b semicolon) (not begun && eqb b line_feed) counts) refl

-- a remark is passed up to its line feed
pub remark-passed : (begun : Bool) (s : List ℕ) → blanks begun true s ≡ remark_bytes s + blanks begun false (drop (remark_bytes s) s)
unfolding blanks
remark-passed begun [] = refl
remark-passed begun (b ∷ bs) = go (eqb b line_feed) refl (remark-passed begun bs)
  where
    go : (ends : Bool) → eqb b line_feed ≡ ends → blanks begun true bs ≡ remark_bytes bs + blanks begun false (drop (remark_bytes bs) bs)
        → blanks begun true (b ∷ bs) ≡ remark_bytes (b ∷ bs) + blanks begun false (drop (remark_bytes (b ∷ bs)) (b ∷ bs))
    go true e later = rw (eqb-true b line_feed e) (omega arith)
    go false e later =
        let one-more : 1 + remark_bytes bs ≡ suc (remark_bytes bs) = omega arith in
        rw (e, one-more, later) (omega arith)

module _ (begun remark : Bool) (s : List ℕ) (i : ℕ) where
  -- a byte of a remark, or one that counts for nothing by itself, is passed
  pub blank-passed : i < length s → (in_remark remark (get_or s i 0) || counts_for_nothing begun (get_or s i 0)) ≡ true
      → i + blanks begun remark (drop i s) ≡ i + 1 + blanks begun (in_remark remark (get_or s i 0)) (drop (i + 1) s)
  unfolding blanks
  blank-passed h e = rw (drop-next s i h, e) (omega arith)

  -- where a byte counts, or the text ends, nothing is passed
  pub none_passed : i < length s → (in_remark remark (get_or s i 0) || counts_for_nothing begun (get_or s i 0)) ≡ false → i + blanks begun remark (drop i s) ≡ i
  unfolding blanks
  none_passed h e = rw (drop-next s i h, e, add-zero i)

  pub none-passed-at-end : length s ≤ i → i + blanks begun remark (drop i s) ≡ i
  unfolding blanks
  none-passed-at-end h = rw (drop_of_length-le s h, add-zero i)

-- a semicolon is passed with the bytes of its remark
module _ (s : List ℕ) (i : ℕ) (h : i < length s) where
  pub remark-within : i + 1 + remark_bytes (drop (i + 1) s) ≤ length s
  remark-within = omega (arith, prefix_len-le-length (λ b. not (eqb b line_feed)) (drop (i + 1) s), length-drop {A = ℕ} (i + 1) s)

  pub semicolon-passed : (begun : Bool) (more : ℕ) → eqb (get_or s i 0) semicolon ≡ true → more ≡ remark_bytes (drop (i + 1) s)
      → i + blanks begun false (drop i s) ≡ i + 1 + more + blanks begun false (drop (i + 1 + more) s)
  semicolon-passed begun more e n =
      blank-passed begun false s i h (rw (eqb-true _ _ e) refl)
      ∙ rw (eqb-true _ _ e, remark-passed begun (drop (i + 1) s), sym n, drop-drop more (i + 1) s) (omega arith)
