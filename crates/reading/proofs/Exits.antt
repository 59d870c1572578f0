-- What the exit of a `?` answers: the reason that was given. Assumes nothing.
use mathlib.Core.Path.{◌≡◌, ap, ◌∙◌}
use Rattle.std.specs.Prelude.{Option, None, Result, Err}
use Rattle.std.specs.Option.{ok_or}
use Rattle.std.specs.Result.{IsErrAnd}
use Rattle.std.proofs.lemmas.Result.{err_from_is_err_and}
use Rattle.sheet.specs.Answers.{refused}
use Rattle.sheet.specs.Refusals.{number, answer_of}
use Rattle.sheet.specs.declared.refusal.Refusal.{Refusal}

module _ {A : Type 0} (r : Result A Refusal) (given : Refusal) (exit : IsErrAnd r (λ e. e ≡ given)) where
  pub exit-refused : answer_of r ≡ refused (number given)
  exit-refused = let p = err_from_is_err_and r exit in rw (p.1, p.2)

  -- where something is missing
  pub exit-missing : {B : Type 0} (o : Option B) (reason : Refusal) → Err given ≡ ok_or o reason → o ≡ None → answer_of r ≡ refused (number reason)
  exit-missing o reason same none = let e : given ≡ reason = cc (rw none at same) in exit-refused ∙ ap (λ n. refused (number n)) e
