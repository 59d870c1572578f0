-- The token at the front of a text: a bracket, a line feed, or the longest run of word bytes. Assumes nothing.
use mathlib.Core.Path.{◌≡◌, refl}
use mathlib.Core.Logic.{⊎_elim}
use mathlib.Core.List.{List, ◌∷◌}
use mathlib.Core.Bool.{Bool, true, false, not, cond, ◌&&◌}
use Prim.Native.Nat.{ℕ, zero, suc, ◌+◌, ◌≤◌, ◌<◌}
use native.Mathlib.Nat.{add-zero}
use native.Mathlib.Omega.{arith}
use lib.ListN.{length, get_or, take, drop, drop_of_length-le, get_or-eq_default}
use lib.Dec.{eqb}
use Rattle.std.proofs.lemmas.List.Sums.{prefix_len-le-length, prefix_len_passes, prefix_len_stops}
use Rattle.lists.proofs.Cases.{lt-or-ge}
use Rattle.lists.proofs.places.Passing.{drop-next}
use Rattle.tokens.specs.Lines.{line_feed, space, semicolon}
use Rattle.tokens.specs.Tokens.{is_bracket, is_word_byte}
use Rattle.tokens.specs.TokensAfter.{tokens_after, is_delimiter, counts_for_nothing}
use Rattle.tokens.proofs.texts.Words.{word-token, delimiter-token, no-delimiter}
use Rattle.tokeniser.specs.internal.Scanned.{word_bytes, token_bytes}

-- a run of word bytes ends at another byte or at the end of the text
word_bytes-stop : (s : List ℕ) → is_word_byte (get_or s (word_bytes s) space) ≡ false
word_bytes-stop s = ⊎_elim (prefix_len_stops is_word_byte s space) (λ l. rw (get_or-eq_default s space {n = word_bytes s} l)) (lt-or-ge (word_bytes s) (length s))

pub token_bytes-within : (b : ℕ) (bs : List ℕ) → token_bytes (b ∷ bs) ≤ suc (length bs)
token_bytes-within b bs = go (is_delimiter b)
  where
    go : (alone : Bool) → suc (cond alone 0 (word_bytes bs)) ≤ suc (length bs)
    go true = omega arith
    go false = omega (arith, prefix_len-le-length is_word_byte bs)

-- the first token at a byte that counts
pub first-token : (begun : Bool) (b : ℕ) (bs : List ℕ) → counts_for_nothing begun b ≡ false
    → tokens_after begun (b ∷ bs) ≡ take (token_bytes (b ∷ bs)) (b ∷ bs) ∷ tokens_after (not (eqb b line_feed)) (drop (token_bytes (b ∷ bs)) (b ∷ bs))
first-token begun b bs n = go (is_delimiter b) refl
  where
    each : is_word_byte b ≡ true → (k : ℕ) → k < suc (word_bytes bs) → is_word_byte (get_or (b ∷ bs) k space) ≡ true
    each w zero h = w
    each w (suc k) h = prefix_len_passes is_word_byte bs k space (omega arith)

    go : (alone : Bool) → is_delimiter b ≡ alone
        → tokens_after begun (b ∷ bs) ≡ (b ∷ take (cond alone 0 (word_bytes bs)) bs) ∷ tokens_after (not (eqb b line_feed)) (drop (cond alone 0 (word_bytes bs)) bs)
    go true d = delimiter-token begun b bs n d
    go false d =
        let word = no-delimiter (eqb b space) (is_bracket b) (eqb b line_feed) (eqb b semicolon) (not begun && eqb b line_feed) n d in
        rw word.1 (word-token begun (b ∷ bs) (word_bytes bs) (each word.0) (word_bytes-stop bs))

-- a run of word bytes goes on from a place, ends there, or ends with the text
module _ (s : List ℕ) (i : ℕ) where
  pub word-goes-on : i < length s → is_word_byte (get_or s i 0) ≡ true → i + word_bytes (drop i s) ≡ i + 1 + word_bytes (drop (i + 1) s)
  word-goes-on h w = rw (drop-next s i h, w) (omega arith)

  pub word-stops : i < length s → is_word_byte (get_or s i 0) ≡ false → i + word_bytes (drop i s) ≡ i
  word-stops h w = rw (drop-next s i h, w, add-zero i)

  pub word-ends : length s ≤ i → i + word_bytes (drop i s) ≡ i
  word-ends h = rw (drop_of_length-le s h, add-zero i)
