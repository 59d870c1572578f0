-- The grade by amounts compared agent by agent. Assumes nothing: these are definitions.
use Rattle.std.specs.Prelude.{cond, List, ℕ, ℤ}
use Rattle.sheet.specs.Amounts.{each_at_most}
use Rattle.margins.specs.Margins.{none_negative}
use Rattle.grade_amounts.specs.declared.Compared.{Compared}

-- "the first that fits", of n agents
unfoldable pub grade_by_amounts : ℕ → Compared → List ℕ → List ℤ → ℕ
grade_by_amounts n compared shares margins =
    cond (each_at_most compared.greatest compared.own n) 1
    (cond (each_at_most compared.totals compared.multiples n) 2
    (cond (each_at_most shares compared.own n) 3
    (cond (none_negative n margins) 4 5)))
