-- Texts one behind the other: where no word runs across and no remark is open, their tokens stand one behind the other. Assumes nothing.
use mathlib.Core.Path.{◌≡◌, refl, sym, ap, ◌∙◌}
use mathlib.Core.List.{List, [], ◌∷◌, ◌++◌, append-nil, append_assoc}
use mathlib.Core.Bool.{Bool, true, false, not, cond, and-eq-true_iff, false≢true}
use Prim.Native.Nat.{ℕ}
use lib.Dec.{eqb}
use Rattle.lists.specs.Lists.{all}
use Rattle.tokens.specs.Lines.{line_feed, space, semicolon}
use Rattle.tokens.specs.Tokens.{Token, is_bracket, is_word_byte, goes_on, extended, tokens, ended}
use Rattle.tokens.specs.TokensAfter.{tokens_after}
use Rattle.tokens.proofs.texts.Kinds.{Kind, space_kind, line_feed_kind, semicolon_kind, bracket_kind, word_byte_kind, kind, word_byte, bracket}
use Rattle.tokens.proofs.texts.Bytewise.{tokens_after-fresh, tokens_after-nil, tokens_after-space, tokens_after-line-feed, tokens_after-blank-line, extended-append}
use Rattle.tokens.proofs.texts.Words.{bracket-token, last-of-word, front-of-word, token_begins}

-- whether the line has begun with a token behind a text, by whether it had before it
unfoldable pub begun_after : Bool → List ℕ → Bool
begun_after begun [] = begun
begun_after begun (b ∷ bs) = begun_after (cond (eqb b space) begun (not (eqb b line_feed))) bs

-- whether no remark begins in a text
abbrev pub no_remark : List ℕ → Bool
no_remark x = all (λ b. not (eqb b semicolon)) x

pub goes_on-append : (x y : List ℕ) → goes_on y ≡ false → goes_on (x ++ y) ≡ goes_on x
goes_on-append [] y g = g
goes_on-append (b ∷ x) y g = refl

word-begins : (x : List ℕ) → goes_on x ≡ true → ended (tokens_after true x) ≡ false
word-begins [] g = absurd (false≢true g)
word-begins (b ∷ x) g = let w = word_byte b g in token_begins true b x (rw (w.no_space, w.no_semicolon))

module _ (y : List ℕ) (g : goes_on y ≡ false) where
  -- the tokens of a text and those of y stand one behind the other
  abbrev Apart : List ℕ → Type 0
  Apart x = (begun : Bool) → tokens_after begun (x ++ y) ≡ tokens_after begun x ++ tokens_after (begun_after begun x) y

  -- one byte more at the front
  module _ (b : ℕ) (x : List ℕ) (later : Apart x) where
    word-apart : (begun goes : Bool) → is_word_byte b ≡ true → goes_on x ≡ goes → tokens_after begun (b ∷ x ++ y) ≡ tokens_after begun (b ∷ x) ++ tokens_after (begun_after true x) y
    word-apart begun true k e =
        front-of-word begun b (x ++ y) k (goes_on-append x y g ∙ e) ∙ ap (extended b) (later true)
        ∙ sym (extended-append b (tokens_after true x) _ (word-begins x e))
        ∙ ap (λ ts. ts ++ tokens_after (begun_after true x) y) (sym (front-of-word begun b x k e))
    word-apart begun false k e =
        last-of-word begun b (x ++ y) k (goes_on-append x y g ∙ e) ∙ ap (λ ts. (b ∷ []) ∷ ts) (later true)
        ∙ ap (λ ts. ts ++ tokens_after (begun_after true x) y) (sym (last-of-word begun b x k e))

    byte-apart : Kind b → not (eqb b semicolon) ≡ true → Apart (b ∷ x)
    unfolding begun_after
    byte-apart (space_kind e) r begun = rw (e, tokens_after-space begun (x ++ y), tokens_after-space begun x) (later begun)
    byte-apart (line_feed_kind e) r true = rw (e, tokens_after-line-feed (x ++ y), tokens_after-line-feed x) (ap (λ ts. (line_feed ∷ []) ∷ ts) (later false))
    byte-apart (line_feed_kind e) r false = rw (e, tokens_after-blank-line (x ++ y), tokens_after-blank-line x) (later false)
    byte-apart (semicolon_kind e) r begun = absurd (false≢true (rw e at r))
    byte-apart (bracket_kind k) r begun =
        rw (k.no_space, k.without_line_feed, bracket-token begun b (x ++ y) k.bracket_kind, bracket-token begun b x k.bracket_kind)
        (ap (λ ts. (b ∷ []) ∷ ts) (later true))
    byte-apart (word_byte_kind k) r begun = let w = word_byte b k in rw (w.no_space, w.without_line_feed) (word-apart begun (goes_on x) k refl)

  pub tokens_append : (x : List ℕ) → no_remark x ≡ true → Apart x
  unfolding begun_after
  tokens_append [] r = λ begun. rw (tokens_after-nil begun)
  tokens_append (b ∷ x) r =
      let plain = (and-eq-true_iff (not (eqb b semicolon)) (no_remark x)).0 r in
      byte-apart b x (tokens_append x plain.1) (kind b) plain.0

-- the tokens of a text that another one follows, which goes on with no word of it
pub record Lexes (begun : Bool) (x : List ℕ) (ts : List Token) (after : Bool) : Type 0 where
  pub parted : goes_on x ≡ false
  pub lexes : (y : List ℕ) → goes_on y ≡ false → tokens_after begun (x ++ y) ≡ ts ++ tokens_after after y

pub lexed-tokens : {x : List ℕ} {ts : List Token} {after : Bool} → Lexes false x ts after → tokens x ≡ ts
lexed-tokens {x} {ts} {after} l =
    sym (tokens_after-fresh x) ∙ ap (tokens_after false) (sym (append-nil x)) ∙ l.lexes [] refl ∙ ap (λ us. ts ++ us) (tokens_after-nil after) ∙ append-nil ts

infixl 30 ◌then◌
-- one text behind the other
pub ◌then◌ : {begun between after : Bool} {x y : List ℕ} {ts us : List Token} → Lexes begun x ts between → Lexes between y us after → Lexes begun (x ++ y) (ts ++ us) after
◌then◌ {x = x} {y} {ts} {us} first second =
    record {
      parted = goes_on-append x y second.parted ∙ first.parted;
      lexes = λ z g.
          ap (tokens_after _) (append_assoc x y z) ∙ first.lexes (y ++ z) (goes_on-append y z g ∙ second.parted) ∙ ap (λ more. ts ++ more) (second.lexes z g)
          ∙ sym (append_assoc ts us _);
    }

pub nothing-lexed : {begun : Bool} → Lexes begun [] [] begun
nothing-lexed = record { parted = refl; lexes = λ y g. refl }

pub space-lexed : {begun : Bool} → Lexes begun (space ∷ []) [] begun
space-lexed = record { parted = refl; lexes = λ y g. tokens_after-space _ y }

-- a text that begins with a bracket and has no remark
pub bracketed-lexed : {begun : Bool} (b : ℕ) (x : List ℕ) → is_bracket b ≡ true → no_remark x ≡ true → Lexes begun (b ∷ x) (tokens (b ∷ x)) (begun_after true x)
bracketed-lexed {begun} b x e r =
    record {
      parted = rw (no_space, e);
      lexes = λ y g.
          bracket-token begun b (x ++ y) e ∙ ap (λ ts. (b ∷ []) ∷ ts) (tokens_append y g x r true)
          ∙ ap (λ ts. ts ++ tokens_after (begun_after true x) y) (sym (bracket-token false b x e) ∙ tokens_after-fresh (b ∷ x));
    }
  where
    no_space : eqb b space ≡ false
    no_space = (bracket b e).no_space

-- a word behind a space
word-lexes : (begun : Bool) (b : ℕ) (bs y : List ℕ) → all is_word_byte (b ∷ bs) ≡ true → goes_on y ≡ false → tokens_after begun (b ∷ bs ++ y) ≡ (b ∷ bs) ∷ tokens_after true y
unfolding extended
word-lexes begun b [] y w g = last-of-word begun b y ((and-eq-true_iff (is_word_byte b) true).0 w).0 g
word-lexes begun b (c ∷ cs) y w g =
    let both = (and-eq-true_iff (is_word_byte b) (all is_word_byte (c ∷ cs))).0 w in
    front-of-word begun b (c ∷ cs ++ y) both.0 ((and-eq-true_iff (is_word_byte c) (all is_word_byte cs)).0 both.1).0
    ∙ ap (extended b) (word-lexes true c cs y both.1 g)

pub spaced-word-lexed : {begun : Bool} (b : ℕ) (bs : List ℕ) → all is_word_byte (b ∷ bs) ≡ true → Lexes begun (space ∷ b ∷ bs) ((b ∷ bs) ∷ []) true
spaced-word-lexed {begun} b bs w = record { parted = refl; lexes = λ y g. tokens_after-space begun (b ∷ bs ++ y) ∙ word-lexes begun b bs y w g }

-- a word behind a bracket
pub bracket-word-lexed : {begun : Bool} (b c : ℕ) (cs : List ℕ) → is_bracket b ≡ true → all is_word_byte (c ∷ cs) ≡ true → Lexes begun (b ∷ c ∷ cs) ((b ∷ []) ∷ (c ∷ cs) ∷ []) true
bracket-word-lexed {begun} b c cs e w =
    record {
      parted = rw ((bracket b e).no_space, e);
      lexes = λ y g. bracket-token begun b (c ∷ cs ++ y) e ∙ ap (λ ts. (b ∷ []) ∷ ts) (word-lexes true c cs y w g);
    }
