-- The starred sheets a to i of document 01 in one table, each with what the documents say of it: b and d have the grade of document 02, order
-- 2, all have the margins of order 5. A sheet of grade 2 stands behind them; then the sheet of "Two thirds used for every N".
-- Assumes nothing: these are definitions.
use Rattle.std.specs.Prelude.{◌⊎◌, List, [], ◌∷◌, pos}
use Rattle.std.proofs.Common.{inl, inr}
use Rattle.sheet.specs.Answers.{Answer, accepted}
use Rattle.sheet.specs.Contents.{Contents, sheet_of}
use Rattle.terms.specs.declared.Terms.{Terms}
use Rattle.cut.specs.Outcome.{Found, shared, cutting}
use Rattle.cut.specs.SampleCuts.{Sample as CutSample}
use Rattle.shares.specs.Shares.{standard_allowance}
use Rattle.rounds.specs.Division.{Division, answer}

-- a sheet, with its division
pub record Sample : Type 0 where
  pub sheet : Contents
  pub division : Division

-- a row of the table: a sheet with its division, or a valuation to be cut with its share and partition
pub data Starred : Type 0 where
  sheet : (sample : Sample) → Starred
  cut : (sample : CutSample) → Starred

-- what the definitions answer for a row
abbrev pub answer_by_definitions : Starred → Answer Division ⊎ Answer Found
answer_by_definitions (sheet s) = inl (answer s.sheet standard_allowance)
answer_by_definitions (cut s) = inr (cutting s.valuation s.set s.bundles s.allowance)

-- what the row states
abbrev pub answer_stated : Starred → Answer Division ⊎ Answer Found
answer_stated (sheet s) = inl (accepted s.division)
answer_stated (cut s) = inr s.answered

-- sheet a
abbrev pub sheet_a : Sample
sheet_a =
    record {
      sheet = sheet_of 2 3 ((5 ∷ 3 ∷ 4 ∷ []) ∷ (6 ∷ 2 ∷ 2 ∷ []) ∷ []);
      division = record {
        bundles = (1 ∷ []) ∷ (2 ∷ 3 ∷ []) ∷ [];
        worths = 5 ∷ 4 ∷ [];
        shares = 5 ∷ 4 ∷ [];
        cuts = (1 ∷ 2 ∷ 2 ∷ []) ∷ (1 ∷ 2 ∷ 2 ∷ []) ∷ [];
        margins = pos 0 ∷ pos 0 ∷ [];
        cutters = 1 ∷ [];
        grade = 3;
      };
    }

unfoldable pub starred : List Starred
starred =
    -- a
    sheet sheet_a
    -- b
    ∷ sheet (record {
      sheet = sheet_of 3 4 ((1 ∷ 1 ∷ 1 ∷ 1 ∷ []) ∷ (6 ∷ 6 ∷ 3 ∷ 3 ∷ []) ∷ (2 ∷ 2 ∷ 2 ∷ 2 ∷ []) ∷ []);
      division = record {
        bundles = (3 ∷ []) ∷ (1 ∷ 2 ∷ []) ∷ (4 ∷ []) ∷ [];
        worths = 1 ∷ 12 ∷ 2 ∷ [];
        shares = 1 ∷ 6 ∷ 2 ∷ [];
        cuts = (1 ∷ 1 ∷ 2 ∷ 3 ∷ []) ∷ (1 ∷ 2 ∷ 3 ∷ 3 ∷ []) ∷ (1 ∷ 1 ∷ 2 ∷ 3 ∷ []) ∷ [];
        margins = pos 2 ∷ pos 60 ∷ pos 4 ∷ [];
        cutters = 1 ∷ 2 ∷ [];
        grade = 3;
      };
    })
    -- c
    ∷ sheet (record {
      sheet = sheet_of 3 4 ((1 ∷ 1 ∷ 1 ∷ 1 ∷ []) ∷ (4 ∷ 4 ∷ 3 ∷ 1 ∷ []) ∷ (1 ∷ 1 ∷ 1 ∷ 1 ∷ []) ∷ []);
      division = record {
        bundles = (1 ∷ 2 ∷ []) ∷ (3 ∷ []) ∷ (4 ∷ []) ∷ [];
        worths = 2 ∷ 3 ∷ 1 ∷ [];
        shares = 1 ∷ 4 ∷ 1 ∷ [];
        cuts = (1 ∷ 1 ∷ 2 ∷ 3 ∷ []) ∷ (1 ∷ 2 ∷ 3 ∷ 3 ∷ []) ∷ (1 ∷ 1 ∷ 2 ∷ 3 ∷ []) ∷ [];
        margins = pos 10 ∷ pos 0 ∷ pos 2 ∷ [];
        cutters = 1 ∷ [];
        grade = 4;
      };
    })
    -- d
    ∷ sheet (record {
      sheet = sheet_of 3 4 ((1 ∷ 1 ∷ 1 ∷ 1 ∷ []) ∷ (8 ∷ 8 ∷ 5 ∷ 3 ∷ []) ∷ (1 ∷ 1 ∷ 1 ∷ 1 ∷ []) ∷ []);
      division = record {
        bundles = (3 ∷ []) ∷ (1 ∷ 2 ∷ []) ∷ (4 ∷ []) ∷ [];
        worths = 1 ∷ 16 ∷ 1 ∷ [];
        shares = 1 ∷ 8 ∷ 1 ∷ [];
        cuts = (1 ∷ 1 ∷ 2 ∷ 3 ∷ []) ∷ (1 ∷ 2 ∷ 3 ∷ 3 ∷ []) ∷ (1 ∷ 1 ∷ 2 ∷ 3 ∷ []) ∷ [];
        margins = pos 2 ∷ pos 80 ∷ pos 2 ∷ [];
        cutters = 1 ∷ 2 ∷ [];
        grade = 3;
      };
    })
    -- e
    ∷ sheet (record {
      sheet = sheet_of 2 1 ((7 ∷ []) ∷ (9 ∷ []) ∷ []);
      division = record {
        bundles = (1 ∷ []) ∷ [] ∷ [];
        worths = 7 ∷ 0 ∷ [];
        shares = 0 ∷ 0 ∷ [];
        cuts = (1 ∷ []) ∷ (1 ∷ []) ∷ [];
        margins = pos 14 ∷ pos 0 ∷ [];
        cutters = 1 ∷ [];
        grade = 3;
      };
    })
    -- f
    ∷ sheet (record {
      sheet = sheet_of 2 2 ((0 ∷ 0 ∷ []) ∷ (0 ∷ 0 ∷ []) ∷ []);
      division = record {
        bundles = (1 ∷ 2 ∷ []) ∷ [] ∷ [];
        worths = 0 ∷ 0 ∷ [];
        shares = 0 ∷ 0 ∷ [];
        cuts = (1 ∷ 1 ∷ []) ∷ (1 ∷ 1 ∷ []) ∷ [];
        margins = pos 0 ∷ pos 0 ∷ [];
        cutters = 1 ∷ [];
        grade = 1;
      };
    })
    -- g
    ∷ cut (record { valuation = 1 ∷ 2 ∷ 3 ∷ 4 ∷ 5 ∷ 6 ∷ 7 ∷ []; set = 0b1111111; bundles = 3; allowance = standard_allowance; answered = accepted (shared 9 (1 ∷ 1 ∷ 2 ∷ 3 ∷ 3 ∷ 1 ∷ 2 ∷ []) 365) })
    -- h
    ∷ cut (record { valuation = 2 ∷ 2 ∷ 2 ∷ 2 ∷ []; set = 0b1111; bundles = 2; allowance = standard_allowance; answered = accepted (shared 4 (1 ∷ 1 ∷ 2 ∷ 2 ∷ []) 8) })
    -- i
    ∷ sheet (record {
      sheet = sheet_of 1 3 ((3 ∷ 0 ∷ 9 ∷ []) ∷ []);
      division = record {
        bundles = (1 ∷ 2 ∷ 3 ∷ []) ∷ [];
        worths = 12 ∷ [];
        shares = 12 ∷ [];
        cuts = (1 ∷ 1 ∷ 1 ∷ []) ∷ [];
        margins = pos 0 ∷ [];
        cutters = 1 ∷ [];
        grade = 1;
      };
    })
    -- even: every pile is worth just a third of its yard's total; yard 3 counts yard 1's pile as worth more
    ∷ sheet (record {
      sheet = sheet_of 3 3 ((1 ∷ 1 ∷ 1 ∷ []) ∷ (1 ∷ 1 ∷ 1 ∷ []) ∷ (5 ∷ 1 ∷ 3 ∷ []) ∷ []);
      division = record {
        bundles = (1 ∷ []) ∷ (2 ∷ []) ∷ (3 ∷ []) ∷ [];
        worths = 1 ∷ 1 ∷ 3 ∷ [];
        shares = 1 ∷ 1 ∷ 1 ∷ [];
        cuts = (1 ∷ 2 ∷ 3 ∷ []) ∷ (1 ∷ 2 ∷ 3 ∷ []) ∷ (1 ∷ 2 ∷ 3 ∷ []) ∷ [];
        margins = pos 2 ∷ pos 2 ∷ pos 18 ∷ [];
        cutters = 1 ∷ [];
        grade = 2;
      };
    })
    ∷ []

-- the sheets of the table
abbrev pub sheets_of : List Starred → List Sample
sheets_of [] = []
sheets_of (sheet s ∷ rows) = s ∷ sheets_of rows
sheets_of (cut s ∷ rows) = sheets_of rows

abbrev pub samples : List Sample
samples = sheets_of starred

-- "Two thirds used for every N. With yard 2 of case c at 9 9 6 3, a pile of 6 would pass at 2/3 and fails at 6/8."
abbrev pub two_thirds_sheet : Sample
two_thirds_sheet =
    record {
      sheet = sheet_of 3 4 ((1 ∷ 1 ∷ 1 ∷ 1 ∷ []) ∷ (9 ∷ 9 ∷ 6 ∷ 3 ∷ []) ∷ (1 ∷ 1 ∷ 1 ∷ 1 ∷ []) ∷ []);
      division = record {
        bundles = (3 ∷ []) ∷ (1 ∷ 2 ∷ []) ∷ (4 ∷ []) ∷ [];
        worths = 1 ∷ 18 ∷ 1 ∷ [];
        shares = 1 ∷ 9 ∷ 1 ∷ [];
        cuts = (1 ∷ 1 ∷ 2 ∷ 3 ∷ []) ∷ (1 ∷ 2 ∷ 3 ∷ 3 ∷ []) ∷ (1 ∷ 1 ∷ 2 ∷ 3 ∷ []) ∷ [];
        margins = pos 2 ∷ pos 90 ∷ pos 2 ∷ [];
        cutters = 1 ∷ 2 ∷ [];
        grade = 3;
      };
    }

-- two thirds, as terms
abbrev pub two_thirds : Terms
two_thirds = record { top = 2; bottom = 3 }
