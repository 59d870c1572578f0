-- The theorems about every sheet, with any marks. Assumes nothing.
use mathlib.Core.Path.{◌≡◌, refl, sym, ap, ◌∙◌}
use mathlib.Core.Bool.{true, false≢true}
use mathlib.Core.Logic.{⊎_elim}
use mathlib.Core.List.{List}
use Prim.Native.Nat.{ℕ, ◌≤◌}
use native.Mathlib.Omega.{arith}
use lib.Dec.{leb}
use lib.ListN.{length}
use Rattle.std.specs.Prelude.{Result, Ok, Err}
use Rattle.lists.specs.Lists.{range}
use Rattle.lists.proofs.ranges.Ranges.{length-range}
use Rattle.lists.proofs.members.Counting.{filter-all}
use Rattle.sheet.specs.Limits.{most_items, CountsWithin}
use Rattle.sheet.specs.Answers.{Answer, refused, accepted, map_answer}
use Rattle.sheet.specs.Refusals.{number, answer_of}
use Rattle.sheet.specs.declared.refusal.Refusal.{Refusal}
use Rattle.sheet.specs.declared.refusal.Refusal.TheVariants as reason
use Rattle.sheet.proofs.Answering.{number-injective}
use Rattle.sheet.specs.Tables.{AgreeInUse}
use Rattle.sheet.specs.Contents.{Contents, sheet_of}
use Rattle.sheet.specs.Allocations.{Allocates}
use Rattle.growth.specs.Growth.{growths}
use Rattle.grades.specs.Scale.{passes}
use Rattle.grades.proofs.Scale.{passes-from-grade}
use Rattle.terms.specs.Terms.{terms_for}
use Rattle.rounds.specs.Division.{Division, standard_instance, allocation, division_of, division_by_rounds, answer}
use Rattle.rounds.specs.Documented.{DividedAsDocumented}
use Rattle.division.specs.Stored.{stored}
use Rattle.division.specs.declared.Division.{Division as StoredDivision}
use Rattle.division.specs.Promise.{is_division, bundles_in, all_agents, satisfied_agents, Promised}
use Rattle.terms.proofs.Allowed.{terms_for-at-most-standard}
use Rattle.rounds.proofs.Allocation.{length-allocation, allocation-sublist, holds-promised, allocation-allocates}
use Rattle.rounds.proofs.Answers.{answer-cases, answer-within-limits, answer-refused-14, same-answer-with-any-allowance}
use Rattle.rounds.proofs.DividedAsDocumented.{answer-as-documented}
use Rattle.rounds.proofs.Graded.{never-graded-5}
use Rattle.rounds.proofs.Theorems.{agreeing-tables-same-answer}
use Rattle.division.proofs.Answered.{refused-not-accepted, answer_of-injective, ok-of_accepted, err-of_refused, bundles_in-divided}

-- two divisions that the code answers at once are one
same-division : {d d' : StoredDivision} → ◌≡◌ {A = Result StoredDivision Refusal} (Ok d) (Ok d') → d ≡ d'
same-division e = cc

module _ (sheet : Contents) (allowance : ℕ) where
  -- the counts
  abbrev n : ℕ
  n = sheet.agents

  abbrev m : ℕ
  m = sheet.items

  -- the bundles of the division by the rounds
  abbrev bundles : List (List ℕ)
  bundles = allocation n m (standard_instance sheet)

  -- in the division by the rounds every agent is satisfied
  all-satisfied : all_agents n ≡ satisfied_agents sheet bundles
  unfolding terms_for
  all-satisfied =
      rw (length-allocation n m (terms_for n) sheet.table)
      (sym (filter-all _ (range 1 n) (holds-promised n m (terms_for n) sheet.table (terms_for-at-most-standard n))))

  -- each item is in one bundle
  all-allocated : 1 ≤ n → Allocates n m bundles
  all-allocated = allocation-allocates n m (terms_for n) sheet.table (terms_for-at-most-standard n)

  divided-bundles : m ≤ most_items → bundles_in n (Ok (stored (division_by_rounds sheet))) ≡ bundles
  unfolding division_of
  divided-bundles few =
      bundles_in-divided m few n (division_by_rounds sheet) (length-allocation n m (terms_for n) sheet.table) (allocation-sublist n m (terms_for n) sheet.table)

  -- what is promised of a division by the rounds
  promised-divided : CountsWithin n m → growths n m ≤ allowance → Promised sheet allowance (Ok (stored (division_by_rounds sheet)))
  promised-divided w enough =
      record {
        satisfied_iff_division = λ some. (λ _. refl, λ _. rw (divided-bundles w.few_items) all-satisfied);
        refusal_holds_nothing = λ e. absurd (false≢true (sym e));
        beyond_allowance_refused = λ _ less. absurd (omega (arith, enough, less));
        within_limits_divided = λ _ _. refl;
        division_allocates = λ _. rw (divided-bundles w.few_items) (all-allocated w.some);
      }

  -- what is promised of a refusal, where the counts are not both within the limits or the allowance is not enough
  promised-refused : (e : Refusal) → answer sheet allowance ≡ refused (number e) → Promised sheet allowance (Err e)
  promised-refused e is =
      record {
        satisfied_iff_division = λ some. (λ same. absurd (omega (arith, ap length same, length-range 1 n)), λ is. absurd (false≢true is));
        refusal_holds_nothing = λ _. refl;
        beyond_allowance_refused = λ w less. ap Err (number-injective e reason.AllowanceTooSmall (same-number (sym is ∙ (answer-refused-14 sheet allowance w).1 less)));
        within_limits_divided = λ w enough. absurd (refused-not-accepted (answer sheet allowance) (number e) _ is (answer-within-limits sheet allowance w enough));
        division_allocates = λ is. absurd (false≢true is);
      }
    where
      same-number : {k l : ℕ} → ◌≡◌ {A = Answer Division} (refused k) (refused l) → k ≡ l
      same-number e = cc

  -- of what the code answers
  module _ (r : Result StoredDivision Refusal) (answered : answer_of r ≡ map_answer stored (answer sheet allowance)) where
    -- demand 3, for every sheet
    pub promised : Promised sheet allowance r
    promised =
        ⊎_elim
        (λ d. rw (ok-of_accepted (answer sheet allowance) r answered (division_by_rounds sheet) d.0) (promised-divided d.1 d.2))
        (λ x. let (e, is, told) = err-of_refused (answer sheet allowance) r answered x.0 x.1 in rw is (promised-refused e told))
        (answer-cases sheet allowance)

    -- where the code's answer is a division, that is the one by the rounds, and the counts are within the limits
    divided-by-rounds : is_division r ≡ true → (answer sheet allowance ≡ accepted (division_by_rounds sheet)) × (r ≡ Ok (stored (division_by_rounds sheet))) × CountsWithin n m
    divided-by-rounds is =
        ⊎_elim
        (λ d. (d.0, ok-of_accepted (answer sheet allowance) r answered (division_by_rounds sheet) d.0, d.1))
        (λ x. absurd (false≢true (sym (ap is_division (err-of_refused (answer sheet allowance) r answered x.0 x.1).1) ∙ is)))
        (answer-cases sheet allowance)

    -- demand 2, of the code's answer: where it is a division, it has the shares, cuts, cutters and bundles of one that is as document 01 says
    pub divided-as-documented : is_division r ≡ true → (d : Division) × (r ≡ Ok (stored d)) × DividedAsDocumented sheet (terms_for n) d
    divided-as-documented is =
        let d = division_by_rounds sheet in
        let (divided, same, w) = divided-by-rounds is in
        (d, same, answer-as-documented sheet allowance d divided)

    -- a division that is answered passes the test for g exactly where its grade is at most g
    pub divided-passes-from-grade : (d : StoredDivision) → r ≡ Ok d → (g : ℕ) → 1 ≤ g → passes sheet (bundles_in n r) g ≡ leb d.grade g
    unfolding division_of
    divided-passes-from-grade d is g some =
        let (divided, same, w) = divided-by-rounds (ap is_division is) in
        let grade : d.grade ≡ (stored (division_by_rounds sheet)).grade = ap (λ (s : StoredDivision). s.grade) (same-division (sym is ∙ same)) in
        rw (same, grade, divided-bundles w.few_items) (passes-from-grade sheet bundles (all-allocated w.some) g some)

    -- a division that is answered is graded 1, 2, 3 or 4: "5 is the rest", and demand 3 leaves none of the box's divisions there
    pub divided-never-5 : (d : StoredDivision) → r ≡ Ok d → d.grade ≤ 4
    divided-never-5 d is =
        let (divided, same, w) = divided-by-rounds (ap is_division is) in
        rw (same-division (sym is ∙ same)) (never-graded-5 sheet allowance (division_by_rounds sheet) divided)

    -- "a grade 1 division passes the tests for 2 and 3"
    pub divided-1-passes-2-and-3 : (d : StoredDivision) → r ≡ Ok d → d.grade ≡ 1 → (passes sheet (bundles_in n r) 2 ≡ true) × (passes sheet (bundles_in n r) 3 ≡ true)
    divided-1-passes-2-and-3 d is is-1 = (
      divided-passes-from-grade d is 2 (omega arith) ∙ ap (λ g. leb g 2) is-1,
      divided-passes-from-grade d is 3 (omega arith) ∙ ap (λ g. leb g 3) is-1,
    )

    -- "and a grade 2 division the test for 3"
    pub divided-2-passes-3 : (d : StoredDivision) → r ≡ Ok d → d.grade ≡ 2 → passes sheet (bundles_in n r) 3 ≡ true
    divided-2-passes-3 d is is-2 = divided-passes-from-grade d is 3 (omega arith) ∙ ap (λ g. leb g 3) is-2

-- "places beyond the yards and pieces in use count for nothing": the code's answer is the same
pub agreeing-tables-same-outcome : (n m : ℕ) (table table' : List (List ℕ)) (allowance : ℕ) → AgreeInUse n m table table' → (r r' : Result StoredDivision Refusal)
    → answer_of r ≡ map_answer stored (answer (sheet_of n m table) allowance)
    → answer_of r' ≡ map_answer stored (answer (sheet_of n m table') allowance)
    → r ≡ r'
agreeing-tables-same-outcome n m table table' allowance same r r' e e' =
    answer_of-injective r r' (e ∙ ap (map_answer stored) (agreeing-tables-same-answer n m table table' allowance same) ∙ sym e')

-- the code's answer is the same with every allowance that is enough
pub same-outcome-with-any-allowance : (sheet : Contents) (allowance allowance' : ℕ) → growths sheet.agents sheet.items ≤ allowance → growths sheet.agents sheet.items ≤ allowance'
    → (r r' : Result StoredDivision Refusal)
    → answer_of r ≡ map_answer stored (answer sheet allowance)
    → answer_of r' ≡ map_answer stored (answer sheet allowance')
    → r ≡ r'
same-outcome-with-any-allowance sheet allowance allowance' enough enough' r r' e e' =
    answer_of-injective r r' (e ∙ ap (map_answer stored) (same-answer-with-any-allowance sheet allowance allowance' enough enough') ∙ sym e')
