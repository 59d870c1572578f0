use mathlib.Core.Path.{ap, ◌∙◌}
use Rattle.serving.specs.Serving.{suits_of}
use Rattle.serving.specs.internal.Searching.{first_matching}
use Rattle.serving.proofs.searches.FirstMatching.{first_matching-matching}
use Rattle.serving.proofs.choosing.matched.Goals as goal

pub returns : goal.returns
returns c =
    let a = c.args in
    let suits = suits_of a.suiting in
    c.extend.ensures ∙ ap (first_matching suits a.served.now a.free.now) c.new.ensures ∙ first_matching-matching suits a.served.now a.free.now
