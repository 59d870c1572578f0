use mathlib.Core.Path.{refl}
use Rattle.std.proofs.lemmas.Result.{err_from_is_err_and}
use Rattle.exact_printing.proofs.Answers.{refusal-printed, none-printed, found-short, found-printed}
use Rattle.exact_printing.proofs.print_exact.Goals as goal

pub print_bundles-requires : goal.print_bundles-requires
print_bundles-requires c = found-short (rw c.in-Some.is at c.in_ok-exact.ensures)

pub returns-in_err-exact : goal.returns-in_err-exact
returns-in_err-exact c =
    let p = err_from_is_err_and c.from_residual.result c.from_residual.ensures.1 in
    rw (p.1, p.2) (refusal-printed _ c.in_err-exact.ensures (refl, refl))

pub returns-in-None : goal.returns-in-None
returns-in-None c = none-printed (rw c.in-None.is at c.in_ok-exact.ensures) (c.fill.ensures.answer, c.fill.ensures.buffer)

pub returns-in-Some : goal.returns-in-Some
returns-in-Some c = found-printed (rw c.in-Some.is at c.in_ok-exact.ensures) (c.print_bundles.ensures.answer, c.print_bundles.ensures.buffer)
