-- The three players of document 000, section 2, read row by row as items 1 to 12: each share is 4,055,000, since three times it is the row's
-- total and a partition into three bundles of 4,055,000 is shown. Assumes nothing.
use mathlib.Core.Path.{◌≡◌, refl, ap₂}
use mathlib.Core.List.{List, [], ◌∷◌, map}
use Prim.Native.Nat.{ℕ, ◌*◌, ◌≤◌}
use native.Mathlib.Omega.{arith}
use lib.ListN.{replicate}
use Rattle.lists.specs.Lists.{range, nth}
use Rattle.lists.specs.Sums.{total}
use Rattle.sheet.specs.Tables.{valuation_of, all_values}
use Rattle.sheet.specs.ThreePlayers.{players}
use Rattle.sheet.specs.Contents.{sheet_of}
use Rattle.maximin.specs.Share.{bundle_value}
use Rattle.shares.specs.Shares.{share_of}
use Rattle.shares.proofs.Shown.{shares-shown}

-- the values that player i puts on the twelve items
abbrev values : ℕ → List ℕ
values i = all_values 12 (valuation_of players i)

-- a partition for each player: by the rows, and by the labels α β γ and + - * of the document
abbrev pub partitions_shown : List (List ℕ)
partitions_shown =
    (1 ∷ 1 ∷ 1 ∷ 1 ∷ 2 ∷ 2 ∷ 2 ∷ 2 ∷ 3 ∷ 3 ∷ 3 ∷ 3 ∷ [])
    ∷ (1 ∷ 1 ∷ 2 ∷ 3 ∷ 1 ∷ 2 ∷ 3 ∷ 3 ∷ 1 ∷ 2 ∷ 2 ∷ 3 ∷ [])
    ∷ (1 ∷ 2 ∷ 1 ∷ 3 ∷ 2 ∷ 3 ∷ 1 ∷ 2 ∷ 3 ∷ 2 ∷ 3 ∷ 1 ∷ [])
    ∷ []

-- each total is three times 4,055,000, and each bundle of these partitions is worth 4,055,000
pub three-players-totals : map (λ i. total (values i)) (range 1 3) ≡ replicate 3 (3 * 4055000)
three-players-totals = refl

pub three-players-bundles : map (λ i. map (λ c. bundle_value c (values i) (nth [] partitions_shown i)) (range 1 3)) (range 1 3) ≡ replicate 3 (replicate 3 4055000)
three-players-bundles = refl

-- so that is each player's share
share-shown : (i : ℕ) → 1 ≤ i → i ≤ 3 → share_of (sheet_of 3 12 players) i ≡ 4055000
share-shown = shares-shown 3 12 players 4055000 partitions_shown refl

pub three-players-shares : map (share_of (sheet_of 3 12 players)) (range 1 3) ≡ replicate 3 4055000
three-players-shares =
    ap₂ ◌∷◌ (share-shown 1 (omega arith) (omega arith)) (ap₂ ◌∷◌ (share-shown 2 (omega arith) (omega arith)) (ap₂ ◌∷◌ (share-shown 3 (omega arith) (omega arith)) refl))
