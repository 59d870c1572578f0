use mathlib.Core.Path.{◌≡◌, sym, ◌∙◌}
use mathlib.Core.List.{map}
use native.Mathlib.Omega.{arith}
use lib.ListN.{length, get_or, length-map, get_or-map}
use lib.Seq.{ext_get_or}
use Rattle.std.proofs.Common.{rules}
use Rattle.sheet.specs.Limits.{most_agents}
use Rattle.stated_truth.specs.Lines.{no_line}
use Rattle.judging.proofs.bundles_of.Goals as goal

pub returns-clause-each : goal.returns-clause-each
returns-clause-each c =
    let lines = c.args.lines in
    let mapped = c.map.ensures.items in
    let places : length lines ≡ most_agents = c.well_formed.0.1.0.1 in
    ext_get_or 0 c.map.result (map (λ l. l.bundle) lines) (mapped.long ∙ sym places ∙ sym (length-map lines (λ l. l.bundle)))
    (λ i lt.
    let called = (mapped.at i no_line 0 (omega (arith, mapped.long))).2 in
    let here : get_or c.map.result i 0 ≡ (get_or lines i no_line).bundle = search rules in
    here ∙ sym (get_or-map (λ l. l.bundle) lines i no_line))
