-- What holds of the search for every sheet: any counts of agents (yards) and items (pieces), and any marks. Assumes nothing.
use mathlib.Core.Path.{◌≡◌, sym, ◌∙◌}
use mathlib.Core.Bool.{true, false, true≢false}
use mathlib.Core.List.{List}
use Prim.Native.Nat.{ℕ}
use Rattle.lists.proofs.members.Congruence.{any-cong}
use Rattle.sheet.specs.Answers.{accepted}
use Rattle.sheet.specs.Tables.{AgreeInUse}
use Rattle.sheet.specs.Contents.{Contents, sheet_of}
use Rattle.sheet.proofs.valuing.Tables.{profile-agree}
use Rattle.maximin.specs.Partitions.{partitions}
use Rattle.shares.specs.Shares.{sharing}
use Rattle.exact_division.specs.Exact.{bundles_by, exact_exists, ExactDivision}
use Rattle.exact_division.specs.Search.{searching}
use Rattle.exact_division.proofs.Giving.{bundles_by-allocates}
use Rattle.exact_division.proofs.Existence.{exact-division-exists, exists-exact-division}
use Rattle.exact_division.proofs.Grades.{is_exact-agree}
use Rattle.exact_division.proofs.Answers.{searching-accepted}

module _ (sheet : Contents) where
  -- where the search says that there is an exact division, there is one
  pub found-exact-division : searching sheet ≡ accepted true → (bundles : List (List ℕ)) × ExactDivision sheet bundles
  found-exact-division found = exists-exact-division sheet (searching-accepted sheet true found).0

  -- "It says none only where no such division exists"
  pub none-no-exact-division : searching sheet ≡ accepted false → (bundles : List (List ℕ)) → ExactDivision sheet bundles → ⊥
  none-no-exact-division none bundles d = true≢false (sym (exact-division-exists sheet bundles d) ∙ (searching-accepted sheet false none).0)

-- "places beyond the yards and pieces in use count for nothing"
module _ (n m : ℕ) (table table' : List (List ℕ)) (same : AgreeInUse n m table table') where
  agreeing-tables-same-existence : exact_exists (sheet_of n m table) ≡ exact_exists (sheet_of n m table')
  unfolding exact_exists
  agreeing-tables-same-existence =
      any-cong _ _ (partitions n m) (λ agents listed. is_exact-agree n m table table' (bundles_by n m agents) (bundles_by-allocates n m agents listed) same)

  pub agreeing-tables-same-search : searching (sheet_of n m table) ≡ searching (sheet_of n m table')
  unfolding searching sharing
  agreeing-tables-same-search = rw (profile-agree n m table table' same, agreeing-tables-same-existence)
