-- The counts of a sheet at the front of a text that is accepted. Assumes nothing.
use mathlib.Core.Path.{◌≡◌}
use mathlib.Core.List.{List}
use Prim.Native.Nat.{ℕ}
use Rattle.sheet.specs.Limits.{CountsWithin}
use Rattle.sheet.specs.Answers.{accepted}
use Rattle.sheet.specs.Contents.{Contents}
use Rattle.sheet.proofs.Limits.{counts-within}
use Rattle.tokens.specs.Tokens.{Token}
use Rattle.reading.specs.Reading.{reading_front}
use Rattle.reading.proofs.AtFront.{front-passes}

-- they are within the limits
pub reading_front-counts : (text : List ℕ) (c : Contents) (behind : List Token) → reading_front text ≡ accepted (c, behind) → CountsWithin c.agents c.items
reading_front-counts text c behind e =
    let a = front-passes text c behind e in
    counts-within c.agents c.items a.agents_within a.items_within
