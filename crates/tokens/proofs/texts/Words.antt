-- The token that a text begins with: a bracket, a line feed, or the bytes of a word. Assumes nothing.
use mathlib.Core.Path.{◌≡◌, refl, sym, ap, ◌∙◌}
use mathlib.Core.List.{List, [], ◌∷◌}
use mathlib.Core.Bool.{Bool, true, false, not, ◌&&◌, ◌||◌, false≢true}
use Prim.Native.Nat.{ℕ, zero, suc, ◌<◌, suc-le-suc}
use native.Mathlib.Omega.{arith}
use lib.ListN.{get_or, take, drop}
use lib.Dec.{eqb}
use borrow.Author.Tests.{eqb-true}
use Rattle.tokens.specs.Lines.{line_feed, space, semicolon}
use Rattle.tokens.specs.Tokens.{is_bracket, is_word_byte, goes_on, extended, ended}
use Rattle.tokens.specs.TokensAfter.{tokens_after, is_delimiter, counts_for_nothing}
use Rattle.tokens.proofs.texts.Kinds.{word_byte, bracket}
use Rattle.tokens.proofs.texts.Bytewise.{tokens_after-line-feed, extended-not-ended, tokens_after-token}

-- a bracket is a token by itself
pub bracket-token : (begun : Bool) (b : ℕ) (bs : List ℕ) → is_bracket b ≡ true → tokens_after begun (b ∷ bs) ≡ (b ∷ []) ∷ tokens_after true bs
bracket-token begun b bs e =
    let f = bracket b e in
    tokens_after-token b f.no_space begun bs f.without_line_feed f.no_semicolon ∙ rw e

-- the last byte of a word is a token, and another one stands at the front of the word that goes on
pub last-of-word : (begun : Bool) (b : ℕ) (bs : List ℕ) → is_word_byte b ≡ true → goes_on bs ≡ false → tokens_after begun (b ∷ bs) ≡ (b ∷ []) ∷ tokens_after true bs
last-of-word begun b bs w n =
    let f = word_byte b w in
    tokens_after-token b f.no_space begun bs f.without_line_feed f.no_semicolon ∙ rw (f.no_bracket, n)

pub front-of-word : (begun : Bool) (b : ℕ) (bs : List ℕ) → is_word_byte b ≡ true → goes_on bs ≡ true → tokens_after begun (b ∷ bs) ≡ extended b (tokens_after true bs)
front-of-word begun b bs w n =
    let f = word_byte b w in
    tokens_after-token b f.no_space begun bs f.without_line_feed f.no_semicolon ∙ rw (f.no_bracket, n)

-- the bytes of a word are one token
pub word-token : (begun : Bool) (d : List ℕ) (n : ℕ) → ((k : ℕ) → k < suc n → is_word_byte (get_or d k space) ≡ true) → is_word_byte (get_or d (suc n) space) ≡ false
    → tokens_after begun d ≡ take (suc n) d ∷ tokens_after true (drop (suc n) d)
unfolding extended
word-token begun [] n ws e = absurd (false≢true (ws 0 (omega arith)))
word-token begun (b ∷ bs) zero ws e = last-of-word begun b bs (ws 0 (omega arith)) e
word-token begun (b ∷ bs) (suc n) ws e =
    front-of-word begun b bs (ws 0 (omega arith)) (ws 1 (omega arith)) ∙ ap (extended b) (word-token true bs n (λ k h. ws (suc k) (suc-le-suc h)) e)

-- the two bytes that are tokens by themselves
pub delimiter-token : (begun : Bool) (b : ℕ) (bs : List ℕ) → counts_for_nothing begun b ≡ false → is_delimiter b ≡ true
    → tokens_after begun (b ∷ bs) ≡ (b ∷ []) ∷ tokens_after (not (eqb b line_feed)) bs
delimiter-token begun b bs n d = go begun (eqb b line_feed) refl n (is_bracket b) refl d
  where
    go : (begun p : Bool) → eqb b line_feed ≡ p → counts_for_nothing begun b ≡ false → (q : Bool) → is_bracket b ≡ q → (q || eqb b line_feed) ≡ true
        → tokens_after begun (b ∷ bs) ≡ (b ∷ []) ∷ tokens_after (not p) bs
    go true true e n q f d = rw (eqb-true b line_feed e) (tokens_after-line-feed bs)
    go false true e n q f d = absurd (false≢true (sym n ∙ rw (eqb-true b line_feed e)))
    go begun false e n true f d = bracket-token begun b bs f
    go begun false e n false f d = absurd (false≢true (rw e at d))

pub no-delimiter : (p q r t u : Bool) → (p || t || u) ≡ false → (q || r) ≡ false → (not (p || q || r || t) ≡ true) × (r ≡ false)
no-delimiter true q r t u e f = absurd (false≢true (sym e))
no-delimiter false true r t u e f = absurd (false≢true (sym f))
no-delimiter false false true t u e f = absurd (false≢true (sym f))
no-delimiter false false false true u e f = absurd (false≢true (sym e))
no-delimiter false false false false u e f = (refl, refl)

-- a byte that counts begins a token
pub token_begins : (begun : Bool) (b : ℕ) (bs : List ℕ) → counts_for_nothing begun b ≡ false → ended (tokens_after begun (b ∷ bs)) ≡ false
token_begins begun b bs n = go (is_delimiter b) refl (goes_on bs) refl
  where
    word : is_delimiter b ≡ false → is_word_byte b ≡ true
    word d = (no-delimiter (eqb b space) (is_bracket b) (eqb b line_feed) (eqb b semicolon) (not begun && eqb b line_feed) n d).0

    go : (p : Bool) → is_delimiter b ≡ p → (q : Bool) → goes_on bs ≡ q → ended (tokens_after begun (b ∷ bs)) ≡ false
    go true d q g = rw (delimiter-token begun b bs n d)
    go false d true g = rw (front-of-word begun b bs (word d) g) (extended-not-ended b (tokens_after true bs))
    go false d false g = rw (last-of-word begun b bs (word d) g)
