-- Texts that have the same tokens wherever they stand: behind any text, on a line that has begun or not, in a remark or behind a word.
-- Assumes nothing.
use mathlib.Core.Path.{◌≡◌, refl, sym, ap, ◌∙◌}
use mathlib.Core.List.{List, [], ◌∷◌, ◌++◌, append-nil}
use mathlib.Core.Bool.{Bool, true, false, not, and-eq-true_iff, true≢false}
use Prim.Native.Nat.{ℕ, zero, suc}
use lib.ListN.{replicate}
use lib.Dec.{eqb}
use borrow.Author.Tests.{eqb-true, not-true}
use Rattle.tokens.specs.Lines.{line_feed, space, semicolon}
use Rattle.tokens.specs.Tokens.{is_word_byte, goes_on, extended}
use Rattle.tokens.specs.TokensAfter.{tokens_after}
use Rattle.tokens.specs.Respaced.{no_line_feed}
use Rattle.tokens.proofs.texts.Kinds.{Kind, space_kind, line_feed_kind, semicolon_kind, bracket_kind, word_byte_kind, kind}
use Rattle.tokens.proofs.texts.Bytewise.{tokens_after-space, tokens_after-line-feed, tokens_after-blank-line, tokens_after-remark-end, tokens_after-remark-line-feed, tokens_after-remark-byte}
use Rattle.tokens.proofs.texts.Words.{bracket-token, last-of-word, front-of-word}

pub record Alike (s t : List ℕ) : Type 0 where
  pub same : (begun : Bool) → tokens_after begun s ≡ tokens_after begun t
  pub same_in_remark : (begun : Bool) → tokens_after begun (semicolon ∷ s) ≡ tokens_after begun (semicolon ∷ t)
  pub same_word : goes_on s ≡ goes_on t

-- a byte before texts that are alike
module _ {s t : List ℕ} (b : ℕ) (a : Alike s t) where
  word-alike : (begun goes : Bool) → is_word_byte b ≡ true → goes_on s ≡ goes → tokens_after begun (b ∷ s) ≡ tokens_after begun (b ∷ t)
  word-alike begun true k e = front-of-word begun b s k e ∙ ap (extended b) (a.same true) ∙ sym (front-of-word begun b t k (sym a.same_word ∙ e))
  word-alike begun false k e = last-of-word begun b s k e ∙ ap (λ ts. (b ∷ []) ∷ ts) (a.same true) ∙ sym (last-of-word begun b t k (sym a.same_word ∙ e))

  byte-same : Kind b → (begun : Bool) → tokens_after begun (b ∷ s) ≡ tokens_after begun (b ∷ t)
  byte-same (space_kind e) begun = rw (e, tokens_after-space begun s, tokens_after-space begun t) (a.same begun)
  byte-same (line_feed_kind e) true = rw (e, tokens_after-line-feed s, tokens_after-line-feed t) (ap (λ ts. (line_feed ∷ []) ∷ ts) (a.same false))
  byte-same (line_feed_kind e) false = rw (e, tokens_after-blank-line s, tokens_after-blank-line t) (a.same false)
  byte-same (semicolon_kind e) begun = rw e (a.same_in_remark begun)
  byte-same (bracket_kind k) begun = rw (bracket-token begun b s k.bracket_kind, bracket-token begun b t k.bracket_kind) (ap (λ ts. (b ∷ []) ∷ ts) (a.same true))
  byte-same (word_byte_kind k) begun = word-alike begun (goes_on s) k refl

  byte-in-remark : (p : Bool) → eqb b line_feed ≡ p → (begun : Bool) → tokens_after begun (semicolon ∷ b ∷ s) ≡ tokens_after begun (semicolon ∷ b ∷ t)
  byte-in-remark true e begun =
      rw (eqb-true b line_feed e, tokens_after-remark-line-feed begun s, tokens_after-remark-line-feed begun t)
      (rw (eqb-true b line_feed e) at (byte-same (kind b) begun))
  byte-in-remark false e begun = rw (tokens_after-remark-byte begun b s e, tokens_after-remark-byte begun b t e) (a.same_in_remark begun)

  byte-alike : Alike (b ∷ s) (b ∷ t)
  byte-alike = record { same = byte-same (kind b); same_in_remark = byte-in-remark (eqb b line_feed) refl; same_word = refl }

-- behind any text
pub text-alike : {s t : List ℕ} (front : List ℕ) → Alike s t → Alike (front ++ s) (front ++ t)
text-alike [] a = a
text-alike (b ∷ front) a = byte-alike b (text-alike front a)

-- a space before, and after, anything but a byte of a word
pub space-before-alike : (s : List ℕ) → goes_on s ≡ false → Alike s (space ∷ s)
space-before-alike s g =
    record {
      same = λ begun. sym (tokens_after-space begun s);
      same_in_remark = λ begun. sym (tokens_after-remark-byte begun space s refl);
      same_word = g;
    }

space-after-same : (b : ℕ) (s : List ℕ) → Kind b → is_word_byte b ≡ false → (begun : Bool) → tokens_after begun (b ∷ s) ≡ tokens_after begun (b ∷ space ∷ s)
space-after-same b s (space_kind e) n begun = rw (e, tokens_after-space begun (space ∷ s)) refl
space-after-same b s (line_feed_kind e) n true = rw (e, tokens_after-line-feed s, tokens_after-line-feed (space ∷ s), tokens_after-space false s)
space-after-same b s (line_feed_kind e) n false = rw (e, tokens_after-blank-line s, tokens_after-blank-line (space ∷ s), tokens_after-space false s)
space-after-same b s (semicolon_kind e) n begun = rw (e, tokens_after-remark-byte begun space s refl)
space-after-same b s (bracket_kind k) n begun = rw (bracket-token begun b s k.bracket_kind, bracket-token begun b (space ∷ s) k.bracket_kind, tokens_after-space true s)
space-after-same b s (word_byte_kind k) n begun = absurd (true≢false (sym k ∙ n))

pub space-after-alike : (b : ℕ) (s : List ℕ) → is_word_byte b ≡ false → Alike (b ∷ s) (b ∷ space ∷ s)
space-after-alike b s n = record { same = space-after-same b s (kind b) n; same_in_remark = in-remark (eqb b line_feed) refl; same_word = refl }
  where
    in-remark : (p : Bool) → eqb b line_feed ≡ p → (begun : Bool) → tokens_after begun (semicolon ∷ b ∷ s) ≡ tokens_after begun (semicolon ∷ b ∷ space ∷ s)
    in-remark true e begun =
        rw (eqb-true b line_feed e, tokens_after-remark-line-feed begun s, tokens_after-remark-line-feed begun (space ∷ s))
        (rw (eqb-true b line_feed e) at (space-after-same b s (kind b) n begun))
    in-remark false e begun =
        rw (tokens_after-remark-byte begun b s e, tokens_after-remark-byte begun b (space ∷ s) e, tokens_after-remark-byte begun space s refl)

-- a remark before a line feed, and at the end of a text
remark-same : (begun : Bool) (r s : List ℕ) → no_line_feed r ≡ true → tokens_after begun (semicolon ∷ r ++ s) ≡ tokens_after begun (semicolon ∷ s)
remark-same begun [] s n = refl
remark-same begun (b ∷ r) s n =
    let both = (and-eq-true_iff (not (eqb b line_feed)) (no_line_feed r)).0 n in
    tokens_after-remark-byte begun b (r ++ s) (not-true _ both.0) ∙ remark-same begun r s both.1

pub remark-alike : (r s : List ℕ) → no_line_feed r ≡ true → Alike (line_feed ∷ s) (semicolon ∷ r ++ line_feed ∷ s)
remark-alike r s n =
    record {
      same = λ begun. sym (remark-same begun r (line_feed ∷ s) n ∙ tokens_after-remark-line-feed begun s);
      same_in_remark = λ begun. sym (tokens_after-remark-byte begun semicolon (r ++ line_feed ∷ s) refl ∙ remark-same begun r (line_feed ∷ s) n);
      same_word = refl;
    }

pub last-remark-alike : (r : List ℕ) → no_line_feed r ≡ true → Alike [] (semicolon ∷ r)
last-remark-alike r n =
    let all-of-it : (begun : Bool) → tokens_after begun (semicolon ∷ r) ≡ tokens_after begun (semicolon ∷ []) = λ begun. rw append-nil at (remark-same begun r [] n) in
    record {
      same = λ begun. sym (all-of-it begun ∙ tokens_after-remark-end begun);
      same_in_remark = λ begun. sym (tokens_after-remark-byte begun semicolon r refl ∙ all-of-it begun);
      same_word = refl;
    }

-- a blank line, and one behind another line
spaces-same : (begun : Bool) (n : ℕ) (s : List ℕ) → tokens_after begun (replicate n space ++ s) ≡ tokens_after begun s
spaces-same begun zero s = refl
spaces-same begun (suc n) s = tokens_after-space begun (replicate n space ++ s) ∙ spaces-same begun n s

pub blank-line-same : (n : ℕ) (s : List ℕ) → tokens_after false (replicate n space ++ line_feed ∷ s) ≡ tokens_after false s
blank-line-same n s = spaces-same false n (line_feed ∷ s) ∙ tokens_after-blank-line s

pub blank-line-alike : (n : ℕ) (s : List ℕ) → Alike (line_feed ∷ s) (line_feed ∷ replicate n space ++ line_feed ∷ s)
blank-line-alike n s =
    record {
      same = same;
      same_in_remark = λ begun. tokens_after-remark-line-feed begun s ∙ same begun ∙ sym (tokens_after-remark-line-feed begun (replicate n space ++ line_feed ∷ s));
      same_word = refl;
    }
  where
    same : (begun : Bool) → tokens_after begun (line_feed ∷ s) ≡ tokens_after begun (line_feed ∷ replicate n space ++ line_feed ∷ s)
    same true = rw (tokens_after-line-feed s, tokens_after-line-feed (replicate n space ++ line_feed ∷ s), blank-line-same n s)
    same false = rw (tokens_after-blank-line s, tokens_after-blank-line (replicate n space ++ line_feed ∷ s), blank-line-same n s)
