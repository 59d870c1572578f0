-- Two tables of three agents without an exact division: the three players of document 000, section 2 ("must give none"), and nine items by
-- Feige, Sapir and Tauber (2021). Their shares leave nothing over, and the pruned walk finds no way. Assumes nothing.
use mathlib.Core.Path.{◌≡◌, refl, ap, ◌∙◌}
use mathlib.Core.Bool.{true, false}
use mathlib.Core.List.{List, [], ◌∷◌}
use Prim.Native.Nat.{ℕ}
use native.Mathlib.Omega.{arith}
use Rattle.lists.specs.Lists.{range, all}
use Rattle.lists.specs.Sums.{sum_over}
use Rattle.sheet.specs.Limits.{CountsWithin}
use Rattle.sheet.specs.Answers.{accepted}
use Rattle.sheet.specs.Contents.{sheet_of}
use Rattle.sheet.specs.ThreePlayers.{players}
use Rattle.shares.proofs.Shown.{shows, shares-shown}
use Rattle.shares.proofs.ThreePlayers.{partitions_shown}
use Rattle.exact_division.specs.Search.{searching}
use Rattle.exact_division.proofs.Answers.{searching-within-limits}
use Rattle.exact_division.proofs.Pruning.{marks_of, most, possible, impossible-none}

-- shares that leave nothing over, and no way for the pruned walk
shown-none : (n m : ℕ) (table : List (List ℕ)) (share : ℕ) (partitions : List (List ℕ)) → CountsWithin n m → all (shows n m table share partitions) (range 1 n) ≡ true
    → possible n (marks_of table) (range 1 m) (sum_over (most n (marks_of table)) (range 1 m)) (λ agent. share) ≡ false → searching (sheet_of n m table) ≡ accepted false
shown-none n m table share partitions counts shown impossible =
    searching-within-limits (sheet_of n m table) counts ∙ ap accepted (impossible-none n m table (λ agent. share) (shares-shown n m table share partitions shown) impossible)

pub three-players-none : searching (sheet_of 3 12 players) ≡ accepted false
three-players-none =
    shown-none 3 12 players 4055000 partitions_shown (record { some = omega arith; few = omega arith; some_items = omega arith; few_items = omega arith }) refl refl

abbrev pub nine_items : List (List ℕ)
nine_items = (1 ∷ 16 ∷ 23 ∷ 26 ∷ 4 ∷ 10 ∷ 12 ∷ 19 ∷ 9 ∷ []) ∷ (1 ∷ 16 ∷ 22 ∷ 26 ∷ 4 ∷ 9 ∷ 13 ∷ 20 ∷ 9 ∷ []) ∷ (1 ∷ 15 ∷ 23 ∷ 25 ∷ 4 ∷ 10 ∷ 13 ∷ 20 ∷ 9 ∷ []) ∷ []

-- a partition of the items into bundles of 40 for each agent
abbrev partitions_of_nine : List (List ℕ)
partitions_of_nine = (1 ∷ 1 ∷ 1 ∷ 2 ∷ 2 ∷ 2 ∷ 3 ∷ 3 ∷ 3 ∷ []) ∷ (1 ∷ 2 ∷ 3 ∷ 1 ∷ 2 ∷ 3 ∷ 1 ∷ 2 ∷ 3 ∷ []) ∷ (1 ∷ 2 ∷ 3 ∷ 2 ∷ 3 ∷ 1 ∷ 3 ∷ 1 ∷ 1 ∷ []) ∷ []

pub nine-items-none : searching (sheet_of 3 9 nine_items) ≡ accepted false
nine-items-none =
    shown-none 3 9 nine_items 40 partitions_of_nine (record { some = omega arith; few = omega arith; some_items = omega arith; few_items = omega arith }) refl refl
