use Rattle.std.proofs.lemmas.Result.{err_from_is_err_and}
use Rattle.sheet.specs.Refusals.{number}
use Rattle.sheet.proofs.Answering.{refused-of_err}
use Rattle.shares.specs.Shares.{sharing}
use Rattle.shares.specs.Stored.{stored}
use Rattle.shares.proofs.Answered.{answered-known}
use Rattle.exact_division.proofs.Answers.{searching-refused}
use Rattle.exact_search.proofs.Searched.{searched-refused}
use Rattle.exact_search.proofs.find_exact.Goals as goal

pub search-requires : goal.search-requires
search-requires c =
    let own = c.in_ok-own in
    answered-known c.args.contents own.own own.ensures.answer own.ensures.bound

pub returns-in_err-own : goal.returns-in_err-own
returns-in_err-own c =
    let sheet = c.args.contents in
    let e = c.in_err-own.field-0.0 in
    let p = err_from_is_err_and c.from_residual.result c.from_residual.ensures.1 in
    rw (p.1, p.2) (searched-refused sheet e (searching-refused sheet (number e) (refused-of_err stored (sharing sheet) e c.in_err-own.ensures.answer)))
