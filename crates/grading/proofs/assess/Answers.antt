use mathlib.Core.Path.{◌≡◌, ap, ◌∙◌}
use mathlib.Core.List.{List, map}
use Prim.Native.Nat.{ℕ, min}
use lib.IntN.{ℤ, pos}
use Rattle.lists.specs.Lists.{nth, padded}
use Rattle.sheet.specs.Limits.{most_agents, most_items, greatest_sum}
use Rattle.sheet.specs.Sets.{items_of}
use Rattle.sheet.specs.Tables.{profile}
use Rattle.sheet.specs.Amounts.{SmallAmounts}
use Rattle.margins.specs.Margins.{margin, limited_terms, margins_stored}
use Rattle.grades.specs.Grade.{own_values}
use Rattle.grades.specs.Assessment.{Assessment, assessment_in}
use Rattle.grade_amounts.specs.Compared.{compared}
use Rattle.grade_amounts.specs.declared.Compared.{Compared}
use Rattle.grading.specs.declared.Assessed.{Assessed}
use Rattle.grading.proofs.ByAmounts.{margins-by-amounts, grade-by-amounts}
use Rattle.grading.proofs.assess.Goals as goal
use Rattle.grading.proofs.assess.Goals.{After-grade_by-grade, Start}

-- the agents and the places of the table in use, and the bundles as lists
abbrev agents_of : Start → ℕ
agents_of s = min s.args.contents.agents most_agents

abbrev rows_of : Start → List (List ℕ)
rows_of s = profile (agents_of s) (min s.args.contents.items most_items) s.args.contents.table

abbrev bundles_of : Start → List (List ℕ)
bundles_of s = map items_of s.args.bundles

-- what the allocation comes to
abbrev assessment_of : Start → Assessment
assessment_of s = let a = s.args in assessment_in a.contents a.terms a.shares a.bundles

worths-told : (c : After-grade_by-grade) → c.compare-compared.result.own ≡ padded most_agents 0 (assessment_of c.before.before.before.before).worths
unfolding assessment_in compared
worths-told c = ap (λ (r : Compared). r.own) c.compare-compared.ensures.amounts

margins-told : (c : After-grade_by-grade) → c.margins_of-margins.result ≡ padded most_agents (pos 0) (assessment_of c.before.before.before.before).margins
unfolding assessment_in
margins-told c =
    let a = c.args in
    let small : SmallAmounts (padded most_agents 0 (own_values (agents_of c.before.before.before.before) (rows_of c.before.before.before.before) (bundles_of c.before.before.before.before))) = rw (worths-told c) at c.compare-compared.ensures.bound in
    c.margins_of-margins.ensures
    ∙ ap (λ worths. margins_stored a.contents.agents a.terms worths a.shares) (worths-told c)
    ∙ ap (padded most_agents (pos 0)) (margins-by-amounts (agents_of c.before.before.before.before) (rows_of c.before.before.before.before) (bundles_of c.before.before.before.before) a.shares a.terms small)

grade-told : (c : After-grade_by-grade) → c.grade_by-grade.result ≡ (assessment_of c.before.before.before.before).grade
unfolding assessment_in
grade-told c =
    c.grade_by-grade.ensures
    ∙ grade-by-amounts (agents_of c.before.before.before.before) (rows_of c.before.before.before.before) (bundles_of c.before.before.before.before) c.args.shares
    (λ i. margin (limited_terms c.args.terms) (nth 0 (own_values (agents_of c.before.before.before.before) (rows_of c.before.before.before.before) (bundles_of c.before.before.before.before)) i) (nth 0 (map (λ share. min share greatest_sum) c.args.shares) i))
    c.compare-compared.ensures.amounts (margins-told c)

pub returns : goal.returns
returns c = made (worths-told c) (margins-told c) (grade-told c)
  where
    made : {worths worths' : List ℕ} {margins margins' : List ℤ} {g g' : ℕ} → worths ≡ worths' → margins ≡ margins' → g ≡ g'
        → ◌≡◌ {A = Assessed} (record { worths = worths; margins = margins; grade = g }) (record { worths = worths'; margins = margins'; grade = g' })
    made p q r = rw (p, q, r)
