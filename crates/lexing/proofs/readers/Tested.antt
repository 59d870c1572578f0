-- What is read where a test holds. Assumes nothing.
use mathlib.Core.Path.{◌≡◌, refl, ap}
use mathlib.Core.List.{List, ◌∷◌}
use Rattle.std.specs.Prelude.{None, Some}
use Rattle.std.proofs.lemmas.Option.{none-some}
use mathlib.Core.Bool.{Bool, true, false, cond}
use Prim.Native.Nat.{ℕ}
use Rattle.tokens.specs.Tokens.{Token}
use Rattle.lexing.specs.Numbers.{is_number, digits_after, number}

-- what is there is one
pub some-injective : {A : Type 0} (a b : A) → Some a ≡ Some b → a ≡ b
some-injective a b e = cc

pub passed : {A : Type 0} (test : Bool) (a b : A) → cond test (Some a) None ≡ Some b → (test ≡ true) × (a ≡ b)
passed true a b e = (refl, some-injective a b e)
passed false a b e = absurd (none-some b e)

-- a token that is read as a number, and the tokens after it
pub number_passed : (most : ℕ) (t : Token) (ts : List Token) (k : ℕ) (ts' : List Token) → number most (t ∷ ts) ≡ Some (k, ts')
    → (is_number most t ≡ true) × (digits_after 0 t ≡ k) × (ts ≡ ts')
unfolding number
number_passed most t ts k ts' e =
    let read = passed (is_number most t) (digits_after 0 t, ts) (k, ts') e in
    (read.0, ap (λ p. p.0) read.1, ap (λ p. p.1) read.1)
