-- The kinds of bytes, as far as tokens go: a space, a line feed, a semicolon, a bracket or a byte of a word. Assumes nothing.
use mathlib.Core.Path.{◌≡◌, refl}
use mathlib.Core.Bool.{Bool, true, false, not, ◌||◌, false≢true}
use Prim.Native.Nat.{ℕ}
use lib.Dec.{eqb}
use borrow.Author.Tests.{eqb-true}
use Rattle.tokens.specs.Lines.{line_feed, space, semicolon}
use Rattle.tokens.specs.Tokens.{opening, closing, is_bracket, is_word_byte}

-- the tests that a byte of a word, and a bracket, fails
pub record WordByte (b : ℕ) : Type 0 where
  pub no_space : eqb b space ≡ false
  pub no_bracket : is_bracket b ≡ false
  pub without_line_feed : eqb b line_feed ≡ false
  pub no_semicolon : eqb b semicolon ≡ false

pub record Bracket (b : ℕ) : Type 0 where
  pub bracket_kind : is_bracket b ≡ true
  pub no_space : eqb b space ≡ false
  pub without_line_feed : eqb b line_feed ≡ false
  pub no_semicolon : eqb b semicolon ≡ false

all-fail : (p q r s : Bool) → not (p || q || r || s) ≡ true → (p ≡ false) × (q ≡ false) × (r ≡ false) × (s ≡ false)
all-fail true q r s e = absurd (false≢true e)
all-fail false true r s e = absurd (false≢true e)
all-fail false false true s e = absurd (false≢true e)
all-fail false false false true e = absurd (false≢true e)
all-fail false false false false e = (refl, refl, refl, refl)

pub word_byte : (b : ℕ) → is_word_byte b ≡ true → WordByte b
word_byte b e =
    let f = all-fail (eqb b space) (is_bracket b) (eqb b line_feed) (eqb b semicolon) e in
    record { no_space = f.0; no_bracket = f.1; without_line_feed = f.2; no_semicolon = f.3 }

pub bracket : (b : ℕ) → is_bracket b ≡ true → Bracket b
bracket b e = go (eqb b opening) refl (eqb b closing) refl e
  where
    go : (p : Bool) → eqb b opening ≡ p → (q : Bool) → eqb b closing ≡ q → (p || q) ≡ true → Bracket b
    go true f q g h = rw (eqb-true b opening f) (record { bracket_kind = refl; no_space = refl; without_line_feed = refl; no_semicolon = refl })
    go false f true g h = rw (eqb-true b closing g) (record { bracket_kind = refl; no_space = refl; without_line_feed = refl; no_semicolon = refl })
    go false f false g h = absurd (false≢true h)

pub data Kind (b : ℕ) : Type 0 where
  space_kind : b ≡ space → Kind b
  line_feed_kind : b ≡ line_feed → Kind b
  semicolon_kind : b ≡ semicolon → Kind b
  bracket_kind : Bracket b → Kind b
  word_byte_kind : is_word_byte b ≡ true → Kind b

pub kind : (b : ℕ) → Kind b
kind b = go (eqb b space) refl (is_bracket b) refl (eqb b line_feed) refl (eqb b semicolon) refl
  where
    go : (p : Bool) → eqb b space ≡ p → (q : Bool) → is_bracket b ≡ q → (r : Bool) → eqb b line_feed ≡ r → (s : Bool) → eqb b semicolon ≡ s → Kind b
    go true e q f r g s h = space_kind (eqb-true b space e)
    go false e true f r g s h = bracket_kind (bracket b f)
    go false e false f true g s h = line_feed_kind (eqb-true b line_feed g)
    go false e false f false g true h = semicolon_kind (eqb-true b semicolon h)
    go false e false f false g false h = word_byte_kind (rw (e, f, g, h))
