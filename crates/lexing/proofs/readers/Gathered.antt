-- Loops that read entries one after another and gather them: before any is read, the next one, and when none is left. Assumes nothing.
use mathlib.Core.Path.{◌≡◌, refl, sym, ap, ◌∙◌}
use mathlib.Core.List.{List, [], ◌∷◌, map}
use Rattle.std.specs.Prelude.{Option, None, Some}
use Prim.Native.Nat.{ℕ, ◌+◌, ◌-◌, ◌≤◌, ◌<◌}
use native.Mathlib.Nat.{sub-zero}
use native.Mathlib.Numerals.{add-one}
use native.Mathlib.Omega.{arith}
use lib.ListN.{length, set, replicate, length-map}
use lib.Seq.{sets}
use Rattle.lists.specs.Lists.{padded}
use Rattle.lists.proofs.places.Padding.{sets-blank}
use Rattle.tokens.specs.Tokens.{Token}
use Rattle.tokeniser.specs.Behind.{place_left}
use Rattle.tokeniser.specs.declared.Cursor.{Cursor}
use Rattle.lexing.specs.Forms.{◌>>=◌, in_turn}
use Rattle.lexing.specs.Results.{found_from}
use Rattle.lexing.proofs.readers.InTurn.{Holds, in-turn-length, turn-missed, turn-read, turn-none-left}
use Rattle.lexing.proofs.readers.Places.{none-found}

-- kept in another way, which is the same for what is read
pub found-same : {A B : Type 0} (kept kept' : A → B) (P : A → Type 0) → ((a : A) → P a → kept a ≡ kept' a) → (s : List ℕ) (c : Cursor) (o : Option (A × List Token))
    → Holds (λ q. P q.0) o → found_from kept s c o ≡ found_from kept' s c o
unfolding found_from
found-same kept kept' P same s c None h = refl
found-same kept kept' P same s c (Some (a, ts)) h = ap (λ b. Some (b, place_left s c ts)) (same a h)

-- what is gathered of entries, the first of which is that after k others
module _ {A B : Type 0} (step : ℕ → B → A → B) where
  abbrev pub gathered : ℕ → B → List A → B
  gathered k b [] = b
  gathered k b (a ∷ later) = gathered (k + 1) (step k b a) later

-- a loop that reads entries, by what it has gathered of the first k of n and the tokens that are left
module _ {A B : Type 0} (reader : ℕ → List Token → Option (A × List Token)) (step : ℕ → B → A → B) (s : List ℕ) (c : Cursor) (n : ℕ) where
  unfoldable pub gathered_from : ℕ → B → List Token → Option (B × Cursor)
  gathered_from k b ts = found_from (gathered step k b) s c (in_turn reader (k + 1) (n - k) ts)

  pub none-gathered : (kept : List A → B) (blank : B) (ts : List Token) → ((l : List A) → length l ≡ n → kept l ≡ gathered step 0 blank l)
      → found_from kept s c (in_turn reader 1 n ts) ≡ gathered_from 0 blank ts
  unfolding gathered_from
  none-gathered kept blank ts same = rw sub-zero (found-same kept (gathered step 0 blank) (λ l. length l ≡ n) same s c (in_turn reader 1 n ts) (in-turn-length reader 1 n ts))

  module _ (k : ℕ) (b : B) (ts : List Token) where
    pub next-missed : k < n → reader (k + 1) ts ≡ None → None ≡ gathered_from k b ts
    unfolding gathered_from
    next-missed more e = none-found s c (gathered step k b) (turn-missed reader (k + 1) k n ts more e)

    pub next-gathered : (a : A) (ts' : List Token) → k < n → reader (k + 1) ts ≡ Some (a, ts') → gathered_from k b ts ≡ gathered_from (k + 1) (step k b a) ts'
    unfolding gathered_from found_from
    next-gathered a ts' more e = rw (turn-read reader (k + 1) k n ts a ts' more e) (go (in_turn reader (k + 1 + 1) (n - (k + 1)) ts'))
      where
        go : (o : Option (List A × List Token)) → found_from (gathered step k b) s c (o >>= (λ r. Some (a ∷ r.0, r.1))) ≡ found_from (gathered step (k + 1) (step k b a)) s c o
        go None = refl
        go (Some (l, us)) = refl

    pub all-gathered : n ≤ k → Some (b, place_left s c ts) ≡ gathered_from k b ts
    unfolding gathered_from found_from
    all-gathered h = rw (turn-none-left reader (k + 1) k n ts h)

-- entries that are put into places, as they are stored
module _ {A B : Type 0} (stored : A → B) where
  abbrev pub put : ℕ → List B → A → List B
  put k places a = set places k (stored a)

  pub gathered-sets : (k : ℕ) (places : List B) (l : List A) → gathered put k places l ≡ sets places k (map stored l)
  gathered-sets k places [] = refl
  gathered-sets k places (a ∷ l) = gathered-sets (k + 1) (set places k (stored a)) l ∙ ap (λ i. sets (set places k (stored a)) i (map stored l)) (add-one k)

  pub padded-gathered : (most : ℕ) (blank : B) (l : List A) → length l ≤ most → padded most blank (map stored l) ≡ gathered put 0 (replicate most blank) l
  padded-gathered most blank l few = sym (gathered-sets 0 (replicate most blank) l ∙ sets-blank most blank (map stored l) (omega (arith, length-map l stored)))
