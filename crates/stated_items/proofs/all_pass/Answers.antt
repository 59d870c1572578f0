use mathlib.Core.Path.{◌≡◌, refl, sym, ap, ap₂, ◌∙◌}
use mathlib.Core.Bool.{Bool, ◌&&◌}
use mathlib.Core.List.{List, map}
use Prim.Native.Nat.{ℕ, ◌+◌, ◌<◌}
use native.Mathlib.Omega.{arith}
use lib.ListN.{length, take, get_or, length-take}
use lib.Seq.{get_or-take}
use Rattle.lists.specs.Lists.{range, all}
use Rattle.lists.proofs.places.Places.{nth-next}
use Rattle.lists.proofs.members.Tests.{all-next, all-fails}
use Rattle.sheet.specs.Sets.{items_of}
use Rattle.division_reading.specs.declared.StatedLine.{StatedLine}
use Rattle.stated_truth.specs.Lines.{no_line, cuts_pass}
use Rattle.stated_items.proofs.all_pass.Invariants.{cut_passes}
use Rattle.stated_items.proofs.all_pass.Goals as goal

-- the test of the cut of line i + 1
cut-told : (n last : ℕ) (test : List (List ℕ) → Bool) (lines : List StatedLine) (i : ℕ) (sets : List ℕ) → i < length (take last lines)
    → sets ≡ take n (get_or (take last lines) i no_line).cut → cut_passes n test lines (i + 1) ≡ test (map items_of sets)
cut-told n last test lines i sets more is =
    ap (λ l. test (map items_of (take n l.cut))) (nth-next no_line lines i ∙ sym (get_or-take last lines i no_line (omega (arith, length-take last lines))))
    ∙ ap (λ s. test (map items_of s)) (sym is)

pub returns-then-not-passes : goal.returns-then-not-passes
returns-then-not-passes g c =
    λ test told.
    let a = c.args in
    let t = told _ _ c.sets_of.ensures.each (record { shown = _; shows = refl; says = record { met = c.passes.ensures } }) in
    sym (ap (λ b. b && cuts_pass a.agents test a.lines) (ap (λ s. test (map items_of s)) (sym c.sets_of.ensures.first) ∙ sym t ∙ c.if-not-passes.true))

pub loop-line-init : goal.loop-line-init
loop-line-init g c =
    λ test told.
    let t = told _ _ c.sets_of.ensures.each (record { shown = _; shows = refl; says = record { met = c.passes.ensures } }) in
    record { first = ap (λ s. test (map items_of s)) (sym c.sets_of.ensures.first) ∙ sym t ∙ c.if-not-passes.false; cuts = refl }

pub returns-then-not-passes-2 : goal.returns-then-not-passes-2
returns-then-not-passes-2 g c =
    λ test told.
    let a = c.args in
    let l = c.loop-line in
    let sets = c.sets_of-in-loop-line in
    let t = told _ _ sets.ensures.each (record { shown = _; shows = refl; says = record { met = c.passes-in-loop-line.ensures } }) in
    let fails = cut-told a.agents _ test a.lines l.line-index sets.result.now c.loop-line-test.true sets.ensures.first ∙ sym t ∙ c.if-not-passes-2.true in
    let passed = l.invariant test told in
    sym (ap₂ ◌&&◌ passed.first (all-fails (cut_passes a.agents test a.lines) a.agents (l.line-index + 1) (omega arith) (omega (arith, length-take {A = StatedLine})) fails))

pub loop-line-preserved : goal.loop-line-preserved
loop-line-preserved g c =
    λ test told.
    let a = c.args in
    let l = c.loop-line in
    let sets = c.sets_of-in-loop-line in
    let t = told _ _ sets.ensures.each (record { shown = _; shows = refl; says = record { met = c.passes-in-loop-line.ensures } }) in
    let holds = cut-told a.agents _ test a.lines l.line-index sets.result.now c.loop-line-test.true sets.ensures.first ∙ sym t ∙ c.if-not-passes-2.false in
    let passed = l.invariant test told in
    record { first = passed.first; cuts = all-next (cut_passes a.agents test a.lines) l.line-index passed.cuts holds }

pub returns : goal.returns
returns g c =
    λ test told.
    let a = c.args in
    let passed = c.loop-line.invariant test told in
    let e : c.loop-line.line-index ≡ a.agents = omega (arith, length-take {A = StatedLine}) in
    sym (ap₂ ◌&&◌ passed.first (ap (λ k. all (cut_passes a.agents test a.lines) (range 1 k)) (sym e) ∙ passed.cuts))
