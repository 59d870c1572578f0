-- The tokens at the first place of a text and at its end. Assumes nothing.
use mathlib.Core.Path.{◌≡◌, sym, ◌∙◌}
use mathlib.Core.Logic.{⊎_elim}
use mathlib.Core.List.{List, []}
use mathlib.Core.Bool.{Bool}
use Prim.Native.Nat.{ℕ, ◌≤◌, ◌<◌, min}
use native.Mathlib.Omega.{arith}
use lib.ListN.{length, drop, drop_of_length-le}
use Rattle.lists.proofs.Cases.{lt-or-ge}
use Rattle.tokens.specs.Tokens.{tokens}
use Rattle.tokens.specs.TokensAfter.{tokens_after}
use Rattle.tokeniser.specs.Places.{tokens_at, start, inside}
use Rattle.tokeniser.specs.declared.Cursor.{Cursor}
use Rattle.tokens.proofs.texts.Bytewise.{tokens_after-fresh, tokens_after-nil}

pub tokens-start : (s : List ℕ) → tokens_at s start ≡ tokens s
unfolding tokens_at
tokens-start s = tokens_after-fresh s

pub tokens-end : (begun : Bool) (s : List ℕ) (i : ℕ) → length s ≤ i → tokens_after begun (drop i s) ≡ []
tokens-end begun s i h = rw (drop_of_length-le s h) (tokens_after-nil begun)

-- a place beyond the end has no more tokens than the end
pub tokens-inside : (s : List ℕ) (c : Cursor) → tokens_at s (inside s c) ≡ tokens_at s c
unfolding tokens_at inside
tokens-inside s c = ⊎_elim within beyond (lt-or-ge c.at (length s))
  where
    within : c.at < length s → tokens_after c.begun (drop (min c.at (length s)) s) ≡ tokens_after c.begun (drop c.at s)
    within h = let e : min c.at (length s) ≡ c.at = omega arith in rw e

    beyond : length s ≤ c.at → tokens_after c.begun (drop (min c.at (length s)) s) ≡ tokens_after c.begun (drop c.at s)
    beyond h = tokens-end c.begun s (min c.at (length s)) (omega arith) ∙ sym (tokens-end c.begun s c.at h)

pub inside-text : (s : List ℕ) (c : Cursor) → (inside s c).at ≤ length s
unfolding inside
inside-text s c = omega arith
