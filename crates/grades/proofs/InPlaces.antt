-- What an allocation comes to, from the shares in their places and from sets: within the limits of a sheet nothing is cut off. Assumes nothing.
use mathlib.Core.Path.{◌≡◌, ap, ap₂, ◌∙◌}
use mathlib.Core.List.{List, [], map, Memᴰ as Mem}
use Prim.Native.Nat.{ℕ, ◌-◌, min}
use native.Mathlib.Omega.{arith}
use lib.IntN.{ℤ, pos}
use lib.ListN.{get_or, get_or-map}
use Rattle.lists.specs.Lists.{range, nth}
use Rattle.lists.proofs.sums.Totals.{map-cong}
use Rattle.sheet.specs.Limits.{most_agents, most_items, greatest_sum}
use Rattle.sheet.specs.Sets.{items_of}
use Rattle.sheet.specs.Valuations.{value}
use Rattle.sheet.specs.Tables.{valuation_of}
use Rattle.sheet.specs.Contents.{Contents, valuations_of}
use Rattle.shares.specs.Shares.{shares_of}
use Rattle.shares.specs.Known.{SharesIn}
use Rattle.shares.proofs.Answered.{nth-shares-known}
use Rattle.terms.specs.Allowed.{SmallTerms}
use Rattle.terms.specs.declared.Terms.{Terms}
use Rattle.margins.specs.Margins.{margin, margins_of, limited_terms}
use Rattle.margins.proofs.Stored.{limited_terms-small}
use Rattle.grades.specs.Grade.{own_values, grade}
use Rattle.grades.specs.Assessment.{Assessment, assessment_in}
use Rattle.grades.specs.Scale.{margins_by_terms, grade_by_terms, assessment_by_terms}
use Rattle.grades.proofs.Grades.{grade-cong}

-- the shares of the sheet in their places, and sets of the agents in use that have the items of their bundles
module _ {sheet : Contents} {shares : List ℕ} (known : SharesIn sheet shares) (terms : Terms) (small : SmallTerms terms)
    (sets : List ℕ) (bundles : List (List ℕ)) (same : (i : ℕ) → Mem i (range 1 sheet.agents) → nth [] (map items_of sets) i ≡ nth [] bundles i) where
  -- the marks in use
  abbrev rows : List (List ℕ)
  rows = valuations_of sheet

  -- the shares, cut to the greatest sum
  abbrev cut_shares : List ℕ
  cut_shares = map (λ share. min share greatest_sum) shares

  share-not-cut : {i : ℕ} → Mem i (range 1 sheet.agents) → nth 0 cut_shares i ≡ nth 0 (shares_of sheet) i
  share-not-cut {i} mi =
      let small-share : min (get_or shares (i - 1) 0) greatest_sum ≡ get_or shares (i - 1) 0 = omega (arith, known.small (i - 1)) in
      get_or-map (λ share. min share greatest_sum) shares (i - 1) 0 ∙ small-share ∙ nth-shares-known known mi

  same-worths : own_values sheet.agents rows (map items_of sets) ≡ own_values sheet.agents rows bundles
  same-worths = map-cong _ _ (range 1 sheet.agents) (λ i mi. ap (value (valuation_of rows i)) (same i mi))

  -- the margins by terms and shares that are cut
  abbrev cut_margins : List ℤ
  cut_margins = margins_of sheet.agents (limited_terms terms) (own_values sheet.agents rows (map items_of sets)) cut_shares

  same-margins : cut_margins ≡ margins_by_terms sheet terms bundles
  same-margins =
      ap₂ (λ t worths. margins_of sheet.agents t worths cut_shares) (limited_terms-small terms small) same-worths
      ∙ map-cong _ _ (range 1 sheet.agents) (λ i mi. ap (margin terms (nth 0 (own_values sheet.agents rows bundles) i)) (share-not-cut mi))

  same-grade : grade sheet.agents rows shares cut_margins (map items_of sets) ≡ grade_by_terms sheet terms bundles
  same-grade =
      grade-cong sheet.agents rows shares (shares_of sheet) cut_margins (margins_by_terms sheet terms bundles) (map items_of sets) bundles
      (λ i mi. nth-shares-known known mi)
      (λ i mi. ap (λ l. nth (pos 0) l i) same-margins)
      same

  pub assessment_in-by-terms : assessment_in sheet terms shares sets ≡ assessment_by_terms sheet terms bundles
  unfolding assessment_in
  assessment_in-by-terms =
      let agents : min sheet.agents most_agents ≡ sheet.agents = omega (arith, known.counts.few) in
      let items : min sheet.items most_items ≡ sheet.items = omega (arith, known.counts.few_items) in
      rw (agents, items) (made same-worths same-margins same-grade)
    where
      made : {worths worths' : List ℕ} {margins margins' : List ℤ} {g g' : ℕ} → worths ≡ worths' → margins ≡ margins' → g ≡ g'
          → ◌≡◌ {A = Assessment} (record { worths = worths; margins = margins; grade = g }) (record { worths = worths'; margins = margins'; grade = g' })
      made p q r = rw (p, q, r)
