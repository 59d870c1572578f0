-- What holds of the tokens of a line: none is empty or holds a space, a bracket stands alone, joined they are the line without its spaces,
-- and any other token is a word that is as long as it can be. Assumes nothing.
use mathlib.Core.Path.{◌≡◌, refl, sym, ap, ap₂, ◌∙◌}
use mathlib.Core.Logic.{⊎_elim}
use mathlib.Core.List.{List, [], ◌∷◌, ◌++◌, reverse, reverse-cons, reverse-append, append_assoc, flatten}
use mathlib.Core.List.Memᴰ.{cases_cons}
use mathlib.Core.List.Memᴰ.{eq_of_singleton as only-member}
use mathlib.Core.List.Memᴰ.{not-nil}
use mathlib.Core.List.{Memᴰ as Mem}
use mathlib.Core.Bool.{true, false, not, and-eq-true_iff, true≢false, false≢true}
use Prim.Native.Nat.{ℕ}
use lib.Dec.{eqb}
use Rattle.lists.specs.Lists.{all, any, elem}
use Rattle.lists.proofs.members.Counting.{any_none, all-mem, filter-all, filter-append}
use Rattle.lists.proofs.members.Distinct.{eqb_comm}
use Rattle.lists.proofs.members.Each.{Each, each-mem}
use Rattle.tokens.specs.Lines.{space}
use Rattle.tokens.specs.Tokens.{Token, is_bracket, is_word_byte, goes_on}
use Rattle.tokens.specs.Tokenised.{Tokenised, nothing, space_first, bracket_first, word_first, has_byte, LongestRun, without_spaces}
use Rattle.tokens.proofs.texts.Kinds.{word_byte, bracket}
use Rattle.tokens.proofs.texts.Parts.{goes_on-append}

-- a token is a bracket by itself or a word
data BracketOrWord : Token → Type 0 where
  a_bracket : (b : ℕ) → is_bracket b ≡ true → BracketOrWord (b ∷ [])
  a_word : (b : ℕ) (w : List ℕ) → all is_word_byte (b ∷ w) ≡ true → BracketOrWord (b ∷ w)

brackets-and-words : {bs : List ℕ} {ts : List Token} → Tokenised bs ts → Each BracketOrWord ts
brackets-and-words nothing = tt
brackets-and-words (space_first d) = brackets-and-words d
brackets-and-words (bracket_first {b} e d) = (a_bracket b e, brackets-and-words d)
brackets-and-words (word_first b w a n d) = (a_word b w a, brackets-and-words d)

bracket-or-word : {bs : List ℕ} {ts : List Token} → Tokenised bs ts → {t : Token} → Mem t ts → BracketOrWord t
bracket-or-word {bs} {ts} d m = each-mem BracketOrWord ts (brackets-and-words d) m

-- no token is empty, and none holds a space
has-byte : {t : Token} → BracketOrWord t → has_byte t ≡ true
has-byte (a_bracket b e) = refl
has-byte (a_word b w a) = refl

pub no-token-is-empty : {bs : List ℕ} {ts : List Token} → Tokenised bs ts → {t : Token} → Mem t ts → has_byte t ≡ true
no-token-is-empty d m = has-byte (bracket-or-word d m)

no-space-in : {t : Token} → BracketOrWord t → elem space t ≡ false
no-space-in (a_bracket b e) = any_none (eqb space) (b ∷ []) (λ x m. rw (only-member m) (eqb_comm space b ∙ (bracket b e).no_space))
no-space-in (a_word b w a) = any_none (eqb space) (b ∷ w) (λ x m. eqb_comm space x ∙ (word_byte x (all-mem is_word_byte a m)).no_space)

pub no-token-holds-a-space : {bs : List ℕ} {ts : List Token} → Tokenised bs ts → {t : Token} → Mem t ts → elem space t ≡ false
no-token-holds-a-space d m = no-space-in (bracket-or-word d m)

-- a token that a bracket stands in is that bracket
alone : {t : Token} → BracketOrWord t → {b : ℕ} → Mem b t → is_bracket b ≡ true → t ≡ b ∷ []
alone (a_bracket c e) m f = ap (λ x. x ∷ []) (sym (only-member m))
alone (a_word c w a) {b} m f = absurd (true≢false (sym f ∙ (word_byte b (all-mem is_word_byte a m)).no_bracket))

pub bracket-stands-alone : {bs : List ℕ} {ts : List Token} → Tokenised bs ts → {t : Token} → Mem t ts → {b : ℕ} → Mem b t → is_bracket b ≡ true → t ≡ b ∷ []
bracket-stands-alone d m = alone (bracket-or-word d m)

-- the tokens joined are the line without its spaces
word-without-spaces : (w : List ℕ) → all is_word_byte w ≡ true → without_spaces w ≡ w
word-without-spaces w a = filter-all (λ b. not (eqb b space)) w (λ b m. rw (word_byte b (all-mem is_word_byte a m)).no_space)

pub tokens-joined : {bs : List ℕ} {ts : List Token} → Tokenised bs ts → flatten ts ≡ without_spaces bs
unfolding flatten
tokens-joined nothing = refl
tokens-joined (space_first d) = tokens-joined d
tokens-joined (bracket_first {b} e d) = rw (bracket b e).no_space (ap (λ bs. b ∷ bs) (tokens-joined d))
tokens-joined (word_first b w {bs} a n d) =
    ap₂ ◌++◌ (sym (word-without-spaces (b ∷ w) a)) (tokens-joined d) ∙ sym (filter-append (λ b. not (eqb b space)) (b ∷ w) bs)

-- a word of what stands behind a byte of none, and behind a word
run-behind-byte : {bs t : List ℕ} (b : ℕ) → is_word_byte b ≡ false → LongestRun bs t → LongestRun (b ∷ bs) t
run-behind-byte b n r =
    record {
      front = b ∷ r.front;
      behind = r.behind;
      stands = ap (λ bs. b ∷ bs) r.stands;
      is_word = r.is_word;
      begins = rw (reverse-cons b r.front) (goes_on-append (reverse r.front) (b ∷ []) n ∙ r.begins);
      ends = r.ends;
    }

goes_on-front : (x : List ℕ) (c : ℕ) (y : List ℕ) → goes_on ((x ++ c ∷ []) ++ y) ≡ goes_on (x ++ c ∷ [])
goes_on-front [] c y = refl
goes_on-front (b ∷ x) c y = refl

run-behind-word : {bs t : List ℕ} (w : List ℕ) → goes_on bs ≡ false → has_byte t ≡ true → LongestRun bs t → LongestRun (w ++ bs) t
run-behind-word {bs} {t} w n h r =
    record {
      front = w ++ r.front;
      behind = r.behind;
      stands = ap (λ bs. w ++ bs) r.stands ∙ sym (append_assoc w r.front (t ++ r.behind));
      is_word = r.is_word;
      begins = rw (reverse-append w r.front) (go r.front t r.stands h r.is_word r.begins);
      ends = r.ends;
    }
  where
    go : (f u : List ℕ) → bs ≡ f ++ (u ++ r.behind) → has_byte u ≡ true → all is_word_byte u ≡ true → goes_on (reverse f) ≡ false → goes_on (reverse f ++ reverse w) ≡ false
    go [] [] e h a g = absurd (false≢true h)
    go [] (b ∷ u) e h a g = absurd (false≢true (sym n ∙ ap goes_on e ∙ ((and-eq-true_iff (is_word_byte b) (all is_word_byte u)).0 a).0))
    go (c ∷ f) u e h a g = rw (reverse-cons c f) (goes_on-front (reverse f) c (reverse w) ∙ rw (reverse-cons c f) at g)

bracket-no-word-byte : (b : ℕ) → is_bracket b ≡ true → is_word_byte b ≡ false
bracket-no-word-byte b e = rw ((bracket b e).no_space, e)

-- a token without a bracket is a word that is as long as it can be
pub word-is-longest-run : {bs : List ℕ} {ts : List Token} → Tokenised bs ts → {t : Token} → Mem t ts → any is_bracket t ≡ false → LongestRun bs t
word-is-longest-run nothing m n = absurd (not-nil m)
word-is-longest-run (space_first d) m n = run-behind-byte space refl (word-is-longest-run d m n)
word-is-longest-run (bracket_first {b} e d) {t} m n =
    ⊎_elim
    (λ (same : t ≡ b ∷ []). absurd (false≢true (sym n ∙ ap (any is_bracket) same ∙ rw e)))
    (λ later. run-behind-byte b (bracket-no-word-byte b e) (word-is-longest-run d later n))
    (cases_cons m)
word-is-longest-run (word_first b w {bs} a g d) {t} m n =
    ⊎_elim
    (λ (same : t ≡ b ∷ w). rw same (record { front = []; behind = bs; stands = refl; is_word = a; begins = refl; ends = g }))
    (λ later. run-behind-word (b ∷ w) g (no-token-is-empty d later) (word-is-longest-run d later n))
    (cases_cons m)
