-- What an entry answers: the number of a reason to turn its input down, or a result (document 01, "Reasons to turn a sheet down, in
-- checking order"). Assumes nothing: these are definitions.
use Rattle.std.specs.Prelude.{◌≡◌, Bool, cond, ℕ, Option, None, Some}

-- "The answer is the number and nothing else", or what the entry gives where nothing is turned down
pub data Answer (A : Type 0) : Type 0 where
  refused : (number : ℕ) → Answer A
  accepted : (result : A) → Answer A

-- the answer is no refusal with the number k
pub record NeverRefused {A : Type 0} (k : ℕ) (answer : Answer A) : Type 0 where
  pub never : answer ≡ refused k → ⊥

module _ {A : Type 0} where
  -- refusal n where the test fails, else what follows: "Each is looked for over the whole input before the following one"
  abbrev pub require : ℕ → Bool → Answer A → Answer A
  require n test later = cond test later (refused n)

  -- 0, or the number of the refusal
  abbrev pub number_of : Answer A → ℕ
  number_of (refused number) = number
  number_of (accepted result) = 0

module _ {A B : Type 0} where
  -- what is made of a result that is accepted; a refusal stays
  abbrev pub map_answer : (A → B) → Answer A → Answer B
  map_answer made (refused number) = refused number
  map_answer made (accepted result) = accepted (made result)

  -- one answer after another: the first refusal, or what follows from the result
  abbrev pub and_then : Answer A → (A → Answer B) → Answer B
  and_then (refused number) next = refused number
  and_then (accepted result) next = next result

  -- refusal n where there is nothing, else what follows from it
  abbrev pub require_some : ℕ → Option A → (A → Answer B) → Answer B
  require_some n None next = refused n
  require_some n (Some a) next = next a

  -- what a lent place holds afterwards: "a lent buffer keeps all its bytes" on a refusal; else what the result makes of the old content
  abbrev pub after : (A → B → B) → Answer A → B → B
  after stored (refused number) old = old
  after stored (accepted result) old = stored result old
