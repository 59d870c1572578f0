-- Cuts with an allowance, among them the one on which "Heaviest piece to the lightest pile" fails, cuts with an empty set or bundle, and a
-- refusal for each reason, each with its answer. The starred cuts g and h stand with the starred sheets, in `rounds`.
-- Assumes nothing: these are definitions.
use Rattle.std.specs.Prelude.{List, [], ◌∷◌, ℕ}
use Rattle.sheet.specs.Answers.{Answer, refused, accepted}
use Rattle.cut.specs.Outcome.{Found, shared, stopped}

-- a valuation, a set, a number of bundles and an allowance, with what the cut answers
pub record Sample : Type 0 where
  pub valuation : List ℕ
  pub set : ℕ
  pub bundles : ℕ
  pub allowance : ℕ
  pub answered : Answer Found

unfoldable pub samples : List Sample
samples =
    -- "Heaviest piece to the lightest pile: 3 3 2 2 2 in two piles gives 5, the share is 6"
    record { valuation = 3 ∷ 3 ∷ 2 ∷ 2 ∷ 2 ∷ []; set = 0b11111; bundles = 2; allowance = 4000000; answered = accepted (shared 6 (1 ∷ 1 ∷ 2 ∷ 2 ∷ 2 ∷ []) 16) }
    -- "The set handed to the cut may be empty", and "the empty set has one" growth layout
    ∷ record { valuation = 3 ∷ 3 ∷ []; set = 0; bundles = 2; allowance = 1; answered = accepted (shared 0 [] 1) }
    -- fewer items than bundles: a bundle stays empty
    ∷ record { valuation = 3 ∷ 5 ∷ []; set = 0b10; bundles = 2; allowance = 1; answered = accepted (shared 0 (1 ∷ []) 1) }
    -- eight growth layouts: with seven the last, 1 2 2 2, is not looked at; with one only 1 1 1 1 is
    ∷ record { valuation = 4 ∷ 2 ∷ 1 ∷ 1 ∷ []; set = 0b1111; bundles = 2; allowance = 8; answered = accepted (shared 4 (1 ∷ 2 ∷ 2 ∷ 2 ∷ []) 8) }
    ∷ record { valuation = 4 ∷ 2 ∷ 1 ∷ 1 ∷ []; set = 0b1111; bundles = 2; allowance = 7; answered = accepted (stopped 3 (1 ∷ 2 ∷ 1 ∷ 2 ∷ []) 7) }
    ∷ record { valuation = 4 ∷ 2 ∷ 1 ∷ 1 ∷ []; set = 0b1111; bundles = 2; allowance = 1; answered = accepted (stopped 0 (1 ∷ 1 ∷ 1 ∷ 1 ∷ []) 1) }
    -- 4 before 5, 5 before 14
    ∷ record { valuation = []; set = 0b1000000000000; bundles = 7; allowance = 0; answered = refused 4 }
    ∷ record { valuation = []; set = 0b1000000000000; bundles = 0; allowance = 0; answered = refused 4 }
    ∷ record { valuation = []; set = 0b1000000000000; bundles = 6; allowance = 0; answered = refused 5 }
    ∷ record { valuation = 3 ∷ 5 ∷ []; set = 0b11; bundles = 6; allowance = 0; answered = refused 14 }
    ∷ []
