-- The places behind tokens: the tokens at them, and one such place behind another. Assumes nothing.
use mathlib.Core.Path.{◌≡◌, refl, sym, ap, ◌∙◌}
use mathlib.Core.List.{List, [], ◌∷◌, IsSuffix}
use mathlib.Core.Bool.{false, true≢false}
use Prim.Native.Nat.{ℕ, zero, suc, ◌+◌, ◌-◌, ◌≤◌}
use native.Mathlib.Nat.{zero-add, suc-add}
use native.Mathlib.Omega.{arith}
use lib.ListN.{length, drop, length-append, length-drop}
use lib.Seq.{drop-append_seam, drop-nil}
use Rattle.tokens.specs.Tokens.{Token, rest, ended}
use Rattle.tokeniser.specs.Places.{tokens_at}
use Rattle.tokeniser.specs.NextToken.{next_token}
use Rattle.tokeniser.specs.Behind.{behind, place_left}
use Rattle.tokeniser.specs.declared.Cursor.{Cursor}
use Rattle.tokeniser.specs.declared.Token as token
use Rattle.tokeniser.proofs.NextToken.{next_token-next}

drop-rest : (k : ℕ) (ts : List Token) → drop k (rest ts) ≡ drop (suc k) ts
drop-rest k [] = drop-nil k
drop-rest k (t ∷ ts) = refl

pub tokens-behind : (s : List ℕ) (c : Cursor) (k : ℕ) → tokens_at s (behind s c k) ≡ drop k (tokens_at s c)
unfolding behind
tokens-behind s c zero = refl
tokens-behind s c (suc k) = tokens-behind s (next_token s c).next k ∙ ap (drop k) (next_token-next s c).then_rest ∙ drop-rest k (tokens_at s c)

behind-behind : (s : List ℕ) (c : Cursor) (j k : ℕ) → behind s (behind s c j) k ≡ behind s c (j + k)
unfolding behind
behind-behind s c zero k = rw (zero-add k)
behind-behind s c (suc j) k = rw (suc-add j k) (behind-behind s (next_token s c).next j k)

-- a place behind some of the tokens that follow another
pub record Reached (s : List ℕ) (c c' : Cursor) : Type 0 where
  pub count : ℕ
  pub left : count ≤ length (tokens_at s c)
  pub is_behind : c' ≡ behind s c count

module _ {s : List ℕ} {c : Cursor} where
  pub reached-here : Reached s c c
  unfolding behind
  reached-here = record { count = 0; left = omega arith; is_behind = refl }

  -- the place behind the next token, where one is left
  pub reached-next : {t : token.Token} → t ≡ next_token s c → ended (tokens_at s c) ≡ false → Reached s c t.next
  unfolding behind
  reached-next e h = record { count = 1; left = some_left (tokens_at s c) h; is_behind = ap (λ t. t.next) e }
    where
      some_left : (ts : List Token) → ended ts ≡ false → 1 ≤ length ts
      some_left [] e = absurd (true≢false e)
      some_left (t ∷ ts) e = omega arith

  pub reached_then : {c' c'' : Cursor} → Reached s c c' → Reached s c' c'' → Reached s c c''
  reached_then {c'} {c''} a b =
      let tokens = ap (tokens_at s) a.is_behind ∙ tokens-behind s c a.count in
      record {
        count = a.count + b.count;
        left = omega (arith, a.left, b.left, ap length tokens ∙ length-drop a.count (tokens_at s c));
        is_behind = b.is_behind ∙ ap (λ p. behind s p b.count) a.is_behind ∙ behind-behind s c a.count b.count;
      }

  -- such a place is known by the tokens that are left there
  pub reached-place : {c' : Cursor} → Reached s c c' → c' ≡ place_left s c (tokens_at s c')
  reached-place {c'} r =
      let tokens = ap (tokens_at s) r.is_behind ∙ tokens-behind s c r.count in
      let count : r.count ≡ length (tokens_at s c) - length (tokens_at s c') = omega (arith, r.left, ap length tokens ∙ length-drop r.count (tokens_at s c)) in
      r.is_behind ∙ ap (behind s c) count

-- a place that is reached, and where these tokens are left
pub record LeavesTokens (s : List ℕ) (c : Cursor) (ts : List Token) (c' : Cursor) : Type 0 where
  pub tokens_left : tokens_at s c' ≡ ts
  pub reached : Reached s c c'

-- of the tokens at a place the last are left where they should be
pub place-leaves : {s : List ℕ} {c : Cursor} {ts : List Token} → IsSuffix ts (tokens_at s c) → LeavesTokens s c ts (place_left s c ts)
place-leaves {s} {c} {ts} last =
    let passed : length (tokens_at s c) - length ts ≡ length last.0 = omega (arith, sym (ap length last.1) ∙ length-append last.0 ts) in
    record {
      tokens_left = tokens-behind s c (length (tokens_at s c) - length ts) ∙ rw (passed, ← last.1) (drop-append_seam last.0 ts);
      reached = record { count = length (tokens_at s c) - length ts; left = omega arith; is_behind = refl };
    }

-- tokens that are left are left at the same place from one that was reached before
pub place_left-then : {s : List ℕ} {c c' : Cursor} {ts : List Token} → Reached s c c' → IsSuffix ts (tokens_at s c') → place_left s c' ts ≡ place_left s c ts
place_left-then {s} {c} r last =
    let leaves = place-leaves last in
    reached-place (reached_then r leaves.reached) ∙ ap (place_left s c) leaves.tokens_left
