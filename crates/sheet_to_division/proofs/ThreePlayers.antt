-- The three players of document 000, section 2: the shares of the table that their sheet's text carries. Assumes nothing.
use mathlib.Core.Path.{◌≡◌}
use mathlib.Core.List.{map}
use lib.ListN.{replicate}
use Rattle.lists.specs.Lists.{range}
use Rattle.sheet.specs.ThreePlayers.{players}
use Rattle.sheet.specs.Contents.{sheet_of}
use Rattle.sheet_lines.specs.Kept.{table_of}
use Rattle.shares.specs.Shares.{share_of}
use Rattle.shares.proofs.ThreePlayers.{three-players-shares}

-- each share is 4,055,000
pub three-players-read-shares : map (share_of (sheet_of 3 12 (table_of players))) (range 1 3) ≡ replicate 3 4055000
three-players-read-shares = three-players-shares
