-- The answer for a sheet: its division, or the reason why it is refused. Assumes nothing: these are definitions.
use Rattle.std.specs.Prelude.{List, map, ℕ, ℤ}
use Rattle.lists.specs.Lists.{range}
use Rattle.sheet.specs.Answers.{Answer, accepted, and_then}
use Rattle.sheet.specs.Contents.{Contents, valuations_of}
use Rattle.maximin.specs.Share.{maximin_share, maximin_partition}
use Rattle.terms.specs.declared.Terms.{Terms}
use Rattle.terms.specs.Terms.{terms_of}
use Rattle.rounds.specs.Round.{Instance, Round, rounds, held}
use Rattle.grades.specs.Assessment.{Assessment, assessment}
use Rattle.shares.specs.Shares.{sharing_within}

-- a division, agent after agent: the bundles (piles), their worths, the shares, the cuts of all items, the margins; the cutter of each round;
-- the grade
pub record Division : Type 0 where
  pub bundles : List (List ℕ)
  pub worths : List ℕ
  pub shares : List ℕ
  pub cuts : List (List ℕ)
  pub margins : List ℤ
  pub cutters : List ℕ
  pub grade : ℕ

-- n agents with their valuations, by the terms
abbrev pub instance_of : ℕ → Terms → List (List ℕ) → Instance
instance_of n terms valuations = record { terms = terms; valuations = valuations; shares = map (maximin_share n) valuations }

-- the agents of a sheet, by the terms
abbrev pub instance_of_sheet : Contents → Terms → Instance
instance_of_sheet sheet terms = instance_of sheet.agents terms (valuations_of sheet)

-- the same by the terms of the sheet
abbrev pub standard_instance : Contents → Instance
standard_instance sheet = instance_of_sheet sheet (terms_of sheet)

module _ (n m : ℕ) (G : Instance) where
  -- the rounds from n agents and the items 1 .. m
  abbrev pub all_rounds : List Round
  all_rounds = rounds G n (range 1 n) (range 1 m)

  -- the bundle of each agent
  abbrev pub allocation : List (List ℕ)
  allocation = map (held all_rounds) (range 1 n)

  -- what it comes to
  abbrev pub allocation_assessment : Assessment
  allocation_assessment = assessment n G.terms G.valuations G.shares allocation

  -- the division by the rounds, with each agent's cut of all items into n bundles
  unfoldable pub division_of : Division
  division_of =
      record {
        bundles = allocation;
        worths = allocation_assessment.worths;
        shares = G.shares;
        cuts = map (maximin_partition n) G.valuations;
        margins = allocation_assessment.margins;
        cutters = map (λ r. r.cutter) all_rounds;
        grade = allocation_assessment.grade;
      }

-- the division of a sheet by the rounds, with any terms
abbrev pub division_by_terms : Contents → Terms → Division
division_by_terms sheet terms = division_of sheet.agents sheet.items (instance_of_sheet sheet terms)

-- the division of a sheet by the rounds of document 01
abbrev pub division_by_rounds : Contents → Division
division_by_rounds sheet = division_by_terms sheet (terms_of sheet)

-- "Dividing a table directly", with an allowance: the refusals of its shares, 14 among them, else its division
unfoldable pub answer : Contents → ℕ → Answer Division
answer sheet allowance = and_then (sharing_within sheet allowance) (λ shares. accepted (division_by_rounds sheet))
