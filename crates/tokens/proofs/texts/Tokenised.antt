-- `words` gives the tokens of each line of a text, and a line has no others. Assumes nothing.
use mathlib.Core.Path.{◌≡◌, refl, sym, ap, ◌∙◌}
use mathlib.Core.List.{List, [], ◌∷◌, ◌++◌, map, Memᴰ as Mem}
use mathlib.Core.Bool.{Bool, true, false, not, cond, and-eq-true_iff, true≢false, false≢true}
use Prim.Native.Nat.{ℕ}
use lib.Dec.{eqb}
use Rattle.lists.specs.Lists.{all}
use Rattle.lists.proofs.members.Each.{Each, each-mem}
use Rattle.tokens.specs.Lines.{line_feed, semicolon, Line, on_first, lines, before_remark, without_remark, lines_without_remarks}
use Rattle.tokens.specs.Tokens.{Token, is_word_byte, goes_on, extended, words}
use Rattle.tokens.specs.Tokenised.{Tokenised, nothing, space_first, bracket_first, word_first}
use Rattle.tokens.specs.Respaced.{no_line_feed}
use Rattle.tokens.proofs.texts.Kinds.{Kind, space_kind, line_feed_kind, semicolon_kind, bracket_kind, word_byte_kind, kind, word_byte, bracket}
use Rattle.tokens.proofs.texts.Parts.{no_remark}

-- a byte more at the front of the word that a line begins with
word-longer : {bs : List ℕ} {ts : List Token} (b : ℕ) → is_word_byte b ≡ true → goes_on bs ≡ true → Tokenised bs ts → Tokenised (b ∷ bs) (extended b ts)
unfolding extended
word-longer b k g nothing = absurd (false≢true g)
word-longer b k g (space_first d) = absurd (false≢true g)
word-longer b k g (bracket_first {b = c} e d) = absurd (true≢false (sym e ∙ (word_byte c g).no_bracket))
word-longer b k g (word_first c w a n d) = word_first b (c ∷ w) (rw k a) n d

-- a byte before a line, which ends no line and begins no remark
byte-tokenised : (b : ℕ) (bs : List ℕ) → Kind b → not (eqb b line_feed) ≡ true → not (eqb b semicolon) ≡ true → Tokenised bs (words bs) → Tokenised (b ∷ bs) (words (b ∷ bs))
unfolding words
byte-tokenised b bs (space_kind e) l r d = rw e (space_first d)
byte-tokenised b bs (line_feed_kind e) l r d = absurd (false≢true (rw e at l))
byte-tokenised b bs (semicolon_kind e) l r d = absurd (false≢true (rw e at r))
byte-tokenised b bs (bracket_kind k) l r d = rw (k.no_space, k.bracket_kind) (bracket_first k.bracket_kind d)
byte-tokenised b bs (word_byte_kind k) l r d = rw ((word_byte b k).no_space, (word_byte b k).no_bracket) (go (goes_on bs) refl)
  where
    go : (q : Bool) → goes_on bs ≡ q → Tokenised (b ∷ bs) (cond (not (goes_on bs)) ((b ∷ []) ∷ words bs) (extended b (words bs)))
    go true g = rw g (word-longer b k g d)
    go false g = rw g (word_first b [] (rw k) g d)

-- a line without a remark
words-tokenised : (bs : List ℕ) → no_line_feed bs ≡ true → no_remark bs ≡ true → Tokenised bs (words bs)
unfolding words
words-tokenised [] l r = nothing
words-tokenised (b ∷ bs) l r =
    let no_end = (and-eq-true_iff (not (eqb b line_feed)) (no_line_feed bs)).0 l in
    let no_semicolon = (and-eq-true_iff (not (eqb b semicolon)) (no_remark bs)).0 r in
    byte-tokenised b bs (kind b) no_end.0 no_semicolon.0 (words-tokenised bs no_end.1 no_semicolon.1)

-- no line feed stands within a line, and no semicolon where its remark is dropped
lines-hold-no-line-feed : (s : List ℕ) → Each (λ l. no_line_feed l.content ≡ true) (lines s)
unfolding lines on_first
lines-hold-no-line-feed [] = tt
lines-hold-no-line-feed (b ∷ s) = go (eqb b line_feed) refl (lines s) (lines-hold-no-line-feed s)
  where
    go : (p : Bool) → eqb b line_feed ≡ p → (ls : List Line) → Each (λ l. no_line_feed l.content ≡ true) ls
        → Each (λ l. no_line_feed l.content ≡ true) (cond p (record { content = []; terminated = true } ∷ ls) (on_first b ls))
    go true e ls h = (refl, h)
    go false e [] h = (rw e, tt)
    go false e (l ∷ ls) h = (rw e h.0, h.1)

before_remark-no-line-feed : (bs : List ℕ) → no_line_feed bs ≡ true → no_line_feed (before_remark bs) ≡ true
unfolding before_remark
before_remark-no-line-feed [] n = refl
before_remark-no-line-feed (b ∷ bs) n =
    let both = (and-eq-true_iff (not (eqb b line_feed)) (no_line_feed bs)).0 n in
    go (eqb b semicolon) both.0 (before_remark-no-line-feed bs both.1)
  where
    go : (q : Bool) → not (eqb b line_feed) ≡ true → no_line_feed (before_remark bs) ≡ true → no_line_feed (cond q [] (b ∷ before_remark bs)) ≡ true
    go true e later = refl
    go false e later = rw e later

before_remark-no-remark : (bs : List ℕ) → no_remark (before_remark bs) ≡ true
unfolding before_remark
before_remark-no-remark [] = refl
before_remark-no-remark (b ∷ bs) = go (eqb b semicolon) refl (before_remark-no-remark bs)
  where
    go : (q : Bool) → eqb b semicolon ≡ q → no_remark (before_remark bs) ≡ true → no_remark (cond q [] (b ∷ before_remark bs)) ≡ true
    go true e later = refl
    go false e later = rw e later

-- each line of a text, without its remark, has the tokens that `words` gives
pub lines-tokenised : (s : List ℕ) {l : Line} → Mem l (lines_without_remarks s) → Tokenised l.content (words l.content)
lines-tokenised s m = each-mem (λ l. Tokenised l.content (words l.content)) (lines_without_remarks s) (go (lines s) (lines-hold-no-line-feed s)) m
  where
    go : (ls : List Line) → Each (λ l. no_line_feed l.content ≡ true) ls → Each (λ l. Tokenised l.content (words l.content)) (map without_remark ls)
    go [] h = tt
    go (l ∷ ls) h =
        (words-tokenised (before_remark l.content) (before_remark-no-line-feed l.content h.0) (before_remark-no-remark l.content), go ls h.1)

-- the bytes of a word that does not go on behind them are one token
words-word : (b : ℕ) (w bs : List ℕ) → all is_word_byte (b ∷ w) ≡ true → goes_on bs ≡ false → words (b ∷ w ++ bs) ≡ (b ∷ w) ∷ words bs
unfolding words extended
words-word b [] bs a n =
    let f = word_byte b ((and-eq-true_iff (is_word_byte b) true).0 a).0 in
    rw (f.no_space, f.no_bracket, n)
words-word b (c ∷ w) bs a n =
    let both = (and-eq-true_iff (is_word_byte b) (all is_word_byte (c ∷ w))).0 a in
    let f = word_byte b both.0 in
    rw (f.no_space, f.no_bracket, ((and-eq-true_iff (is_word_byte c) (all is_word_byte w)).0 both.1).0) (ap (extended b) (words-word c w bs both.1 n))

-- a line has no other tokens
pub tokenised-unique : {bs : List ℕ} {ts : List Token} → Tokenised bs ts → ts ≡ words bs
unfolding words
tokenised-unique nothing = refl
tokenised-unique (space_first d) = tokenised-unique d
tokenised-unique (bracket_first {b} e d) = let f = bracket b e in rw (f.no_space, e) (ap (λ ts. (b ∷ []) ∷ ts) (tokenised-unique d))
tokenised-unique (word_first b w {bs} a n d) = ap (λ ts. (b ∷ w) ∷ ts) (tokenised-unique d) ∙ sym (words-word b w bs a n)
