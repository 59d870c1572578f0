-- What counts for nothing at the front of a text: it stays within the text, ends where a token begins, and takes away no token.
-- Assumes nothing.
use mathlib.Core.Path.{◌≡◌, refl, ◌∙◌}
use mathlib.Core.List.{List, [], ◌∷◌}
use mathlib.Core.Bool.{Bool, true, false, cond, ◌||◌}
use Prim.Native.Nat.{ℕ, suc, ◌≤◌, ◌<◌}
use native.Mathlib.Omega.{arith}
use lib.ListN.{length, get_or, drop}
use lib.Dec.{eqb}
use borrow.Author.Tests.{eqb-true}
use Rattle.tokens.specs.Lines.{line_feed, space, semicolon}
use Rattle.tokens.specs.TokensAfter.{tokens_after, counts_for_nothing}
use Rattle.tokens.proofs.texts.Bytewise.{tokens_after-space, tokens_after-blank-line, tokens_after-remark-end, tokens_after-remark-line-feed, tokens_after-remark-byte}
use Rattle.tokeniser.specs.NextToken.{in_remark, blanks}

module _ (begun : Bool) where
  pub blanks-within : (remark : Bool) (s : List ℕ) → blanks begun remark s ≤ length s
  unfolding blanks
  blanks-within remark [] = omega arith
  blanks-within remark (b ∷ bs) = go (in_remark remark b) (counts_for_nothing begun b) (blanks-within (in_remark remark b) bs)
    where
      go : (within nothing : Bool) → blanks begun within bs ≤ length bs → cond (within || nothing) (suc (blanks begun within bs)) 0 ≤ suc (length bs)
      go true nothing later = omega arith
      go false true later = omega arith
      go false false later = omega arith

  pub blanks-stop : (remark : Bool) (s : List ℕ) → blanks begun remark s < length s → counts_for_nothing begun (get_or s (blanks begun remark s) 0) ≡ false
  unfolding blanks
  blanks-stop remark [] h = absurd (omega arith)
  blanks-stop remark (b ∷ bs) h = go (in_remark remark b) (counts_for_nothing begun b) refl (blanks-stop (in_remark remark b) bs) h
    where
      go : (within nothing : Bool) → counts_for_nothing begun b ≡ nothing
          → (blanks begun within bs < length bs → counts_for_nothing begun (get_or bs (blanks begun within bs) 0) ≡ false)
          → cond (within || nothing) (suc (blanks begun within bs)) 0 < suc (length bs)
          → counts_for_nothing begun (get_or (b ∷ bs) (cond (within || nothing) (suc (blanks begun within bs)) 0) 0) ≡ false
      go true nothing e later h = later (omega arith)
      go false true e later h = later (omega arith)
      go false false e later h = e

  -- a text behind a byte of a remark, or not
  abbrev behind_remark : Bool → List ℕ → List ℕ
  behind_remark remark s = cond remark (semicolon ∷ s) s

  -- the same tokens with one byte less, where those of the bytes after it are known
  module _ (b : ℕ) (bs : List ℕ) (later : (remark : Bool) → tokens_after begun (behind_remark remark bs) ≡ tokens_after begun (drop (blanks begun remark bs) bs)) where
    outside-remark : tokens_after begun (b ∷ bs) ≡ tokens_after begun (drop (blanks begun false (b ∷ bs)) (b ∷ bs))
    unfolding blanks
    outside-remark = go begun (eqb b semicolon) refl (eqb b space) refl (eqb b line_feed) refl later
      where
        go : (line p : Bool) → eqb b semicolon ≡ p → (q : Bool) → eqb b space ≡ q → (r : Bool) → eqb b line_feed ≡ r
            → ((remark : Bool) → tokens_after line (behind_remark remark bs) ≡ tokens_after line (drop (blanks line remark bs) bs))
            → tokens_after line (b ∷ bs) ≡ tokens_after line (drop (blanks line false (b ∷ bs)) (b ∷ bs))
        go line true e q f r g after = rw (eqb-true b semicolon e) (after true)
        go line false e true f r g after = rw (eqb-true b space f) (tokens_after-space line bs ∙ after false)
        go false false e false f true g after = rw (eqb-true b line_feed g) (tokens_after-blank-line bs ∙ after false)
        go true false e false f r g after = rw (e, f)
        go false false e false f false g after = rw (e, f, g)

    in-remark : tokens_after begun (semicolon ∷ b ∷ bs) ≡ tokens_after begun (drop (blanks begun true (b ∷ bs)) (b ∷ bs))
    unfolding blanks
    in-remark = go (eqb b line_feed) refl
      where
        go : (p : Bool) → eqb b line_feed ≡ p → tokens_after begun (semicolon ∷ b ∷ bs) ≡ tokens_after begun (drop (blanks begun true (b ∷ bs)) (b ∷ bs))
        go false e = rw e (tokens_after-remark-byte begun b bs e ∙ later true)
        go true e = rw (eqb-true b line_feed e) (tokens_after-remark-line-feed begun bs ∙ rw (eqb-true b line_feed e) at outside-remark)

  tokens-behind : (remark : Bool) (s : List ℕ) → tokens_after begun (behind_remark remark s) ≡ tokens_after begun (drop (blanks begun remark s) s)
  unfolding blanks
  tokens-behind true [] = tokens_after-remark-end begun
  tokens-behind false [] = refl
  tokens-behind true (b ∷ bs) = in-remark b bs (λ remark. tokens-behind remark bs)
  tokens-behind false (b ∷ bs) = outside-remark b bs (λ remark. tokens-behind remark bs)

  pub blanks-same-tokens : (s : List ℕ) → tokens_after begun s ≡ tokens_after begun (drop (blanks begun false s) s)
  blanks-same-tokens s = tokens-behind false s
