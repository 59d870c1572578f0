use mathlib.Core.Path.{◌≡◌, sym, ap, ap₂, ◌∙◌}
use mathlib.Core.Bool.{Bool, true}
use mathlib.Core.List.{List, [], map, Memᴰ as Mem}
use Rattle.std.specs.Prelude.{Option, Some}
use Prim.Native.Nat.{ℕ, min}
use native.Mathlib.Omega.{arith}
use lib.IntN.{ℤ, pos}
use Rattle.lists.specs.Lists.{range, nth, padded}
use Rattle.sheet.specs.Limits.{most_agents, most_items}
use Rattle.sheet.specs.Contents.{Contents}
use Rattle.sheet.specs.Sets.{items_of}
use Rattle.sheet.specs.Answers.{Answer, accepted, map_answer}
use Rattle.grades.specs.Scale.{margins_by_terms, grade_by_terms, assessment_by_terms}
use Rattle.grades.proofs.InPlaces.{assessment_in-by-terms}
use Rattle.grading.specs.Assessed.{assessed}
use Rattle.division_reading.specs.Stated.{Stated}
use Rattle.stated_truth.specs.Truth.{bundles_of, bundles_and_cuts, of_sheet, each_in_one, figures_true}
use Rattle.stated_truth.specs.Lines.{stated_of, stated_in, sets_and_cuts, figures_true_by}
use Rattle.stated_truth.specs.Judging.{judging_by, judging_read}
use Rattle.stated_truth.proofs.Verdicts.{judging-within, judged-off-sheet, judged-not-once, judged-false, judged-true}
use Rattle.judging.specs.Stored.{stored}
use Rattle.judging.proofs.StatedLines.{nth-bundle, test-stated, figures-stated}
use Rattle.judging.proofs.judge_shared.Goals as goal
use Rattle.judging.proofs.judge_shared.Goals.{After-figures_true-correct}

-- the sheet
abbrev sheet_in : After-figures_true-correct → Contents
sheet_in s = s.args.contents

-- what is stated of it, as it is handed over
abbrev stated_at : After-figures_true-correct → Option Stated
stated_at s = stated_in s.args.contents.agents (Some s.args.division)

-- what the lines state
abbrev division : After-figures_true-correct → Stated
division c = let a = c.args in stated_of a.contents.agents a.division.grade a.division.lines

-- the answer on it
abbrev answer : After-figures_true-correct → Answer (List ℤ)
answer c = judging_read (sheet_in c) c.args.terms (division c)

-- the sets of the agents in use have the items of their bundles
same-items : (c : After-figures_true-correct) (i : ℕ) → Mem i (range 1 c.args.contents.agents) → nth [] (map items_of c.bundles_of-bundles.result) i ≡ nth [] (bundles_of (division c)) i
same-items c i mi =
    let a = c.args in
    ap (λ sets. nth [] (map items_of sets) i) c.bundles_of-bundles.ensures.each ∙ nth-bundle a.contents.agents a.division.grade a.division.lines mi

-- what the division comes to
assessed-told : (c : After-figures_true-correct) → c.assess-assessed.result ≡ assessed (assessment_by_terms (sheet_in c) c.args.terms (bundles_of (division c)))
assessed-told c =
    c.assess-assessed.ensures
    ∙ ap assessed (assessment_in-by-terms {sheet = sheet_in c} c.requires.0 c.args.terms c.requires.1 c.bundles_of-bundles.result (bundles_of (division c)) (same-items c))

-- the margins
margins-told : (c : After-figures_true-correct)
    → c.assess-assessed.result.margins ≡ padded most_agents (pos 0) (margins_by_terms (sheet_in c) c.args.terms (bundles_of (division c)))
margins-told c = ap (λ r. r.margins) (assessed-told c)

-- the grade
grade-told : (c : After-figures_true-correct) → grade_by_terms (sheet_in c) c.args.terms (bundles_of (division c)) ≡ c.assess-assessed.result.grade
grade-told c = sym (ap (λ r. r.grade) (assessed-told c))

-- the counts are within the limits of a sheet, so that neither is cut
agents-kept : (c : After-figures_true-correct) → let n = c.args.contents.agents in n ≡ min n most_agents
agents-kept c = omega (arith, c.requires.0.counts.few)

items_kept : (c : After-figures_true-correct) → let m = c.args.contents.items in m ≡ min m most_items
items_kept c = omega (arith, c.requires.0.counts.few_items)

-- a test of the bundles and the cuts, for the counts of the sheet
test-told : (c : After-figures_true-correct) (test : ℕ → ℕ → List (List ℕ) → Bool)
    → let a = c.args in
    let n = a.contents.agents in
    let m = a.contents.items in
    bundles_and_cuts (test n m) (division c) ≡ sets_and_cuts (min n most_agents) (test (min n most_agents) (min m most_items)) c.bundles_of-bundles.result a.division.lines
test-told c test =
    let a = c.args in
    let n = a.contents.agents in
    let m = a.contents.items in
    test-stated n a.division.grade a.division.lines c.requires.0.counts.few c.bundles_of-bundles.ensures.places (test n m)
    ∙ ap (λ sets. sets_and_cuts n (test n m) sets a.division.lines) (sym c.bundles_of-bundles.ensures.each)
    ∙ ap₂ (λ n m. sets_and_cuts n (test n m) c.bundles_of-bundles.result a.division.lines) (agents-kept c) (items_kept c)

-- the second test of refusal 11
abbrev of_this_sheet : After-figures_true-correct → Bool
of_this_sheet c = let a = c.args in bundles_and_cuts (of_sheet a.contents.agents a.contents.items) (division c)

of-sheet-told : (c : After-figures_true-correct) → of_this_sheet c ≡ c.all_of_sheet-named.result
of-sheet-told c = test-told c of_sheet ∙ sym c.all_of_sheet-named.ensures

-- the test of refusal 12
in-one-told : (c : After-figures_true-correct) → bundles_and_cuts (each_in_one c.args.contents.items) (division c) ≡ c.all_in_one-once.result
in-one-told c = test-told c (λ n. each_in_one) ∙ sym c.all_in_one-once.ensures

-- the test of refusal 13
figures-told : (c : After-figures_true-correct) → figures_true (sheet_in c) c.args.terms (division c) ≡ c.figures_true-correct.result
figures-told c =
    let a = c.args in
    figures-stated (sheet_in c) c.requires.0 a.division.grade a.division.lines c.bundles_of-bundles.ensures.places (ap (λ r. r.worths) (assessed-told c)) a.terms c.assess-assessed.result.grade (grade-told c)
    ∙ ap₂ (λ n m. figures_true_by n m a.contents.table a.shares c.assess-assessed.result.worths a.division.lines c.assess-assessed.result.grade a.division.grade) (agents-kept c) (items_kept c)
    ∙ sym c.figures_true-correct.ensures

-- the answer is that on what is stated
answer-read : (c : After-figures_true-correct) → judging_by (sheet_in c) c.args.terms (stated_at c) ≡ answer c
answer-read c = judging-within (sheet_in c) c.args.terms (stated_at c) c.requires.0.counts

-- each item is in just one bundle
once : (c : After-figures_true-correct) → c.all_in_one-once.result ≡ true → bundles_and_cuts (each_in_one c.args.contents.items) (division c) ≡ true
once c e = in-one-told c ∙ e

pub returns-then-not-named : goal.returns-then-not-named
returns-then-not-named c =
    let t = (goal.at.returns-then-not-named c).After-figures_true-correct in
    let out = of-sheet-told t ∙ c.if-not-named.true in
    sym (ap (map_answer stored) (answer-read t ∙ judged-off-sheet (sheet_in t) c.args.terms (division t) out))

pub returns-then-not-once : goal.returns-then-not-once
returns-then-not-once c =
    let t = (goal.at.returns-then-not-once c).After-figures_true-correct in
    let named : c.all_of_sheet-named.result ≡ true = cc in
    let out = in-one-told t ∙ c.if-not-once.true in
    sym (ap (map_answer stored) (answer-read t ∙ judged-not-once (sheet_in t) c.args.terms (division t) (of-sheet-told t ∙ named) out))

pub returns-then-not-correct : goal.returns-then-not-correct
returns-then-not-correct c =
    let t = (goal.at.returns-then-not-correct c).After-figures_true-correct in
    let named : c.all_of_sheet-named.result ≡ true = cc in
    let one : c.all_in_one-once.result ≡ true = cc in
    let out = figures-told t ∙ c.if-not-correct.true in
    sym (ap (map_answer stored) (answer-read t ∙ judged-false (sheet_in t) c.args.terms (division t) (of-sheet-told t ∙ named) (once t one) out))

pub returns : goal.returns
returns c =
    let t = (goal.at.returns c).After-figures_true-correct in
    let named : c.all_of_sheet-named.result ≡ true = cc in
    let one : c.all_in_one-once.result ≡ true = cc in
    let correct = figures-told t ∙ c.if-not-correct.false in
    ap accepted (margins-told t)
    ∙ sym (ap (map_answer stored) (answer-read t ∙ judged-true (sheet_in t) c.args.terms (division t) (of-sheet-told t ∙ named) (once t one) correct))
