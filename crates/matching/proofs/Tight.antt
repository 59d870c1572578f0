-- Tight sets, by the bundles that suit none of their agents. Assumes nothing.
use mathlib.Core.Path.{◌≡◌, sym, ◌∙◌}
use mathlib.Core.Bool.{Bool}
use mathlib.Core.Logic.{⊎_elim}
use mathlib.Core.List.{List}
use Prim.Native.Nat.{ℕ, ◌+◌, ◌<◌}
use native.Mathlib.Omega.{arith}
use lib.Dec.{leb}
use lib.ListN.{length}
use borrow.Author.Tests.{lt-leb, le-leb}
use Rattle.lists.proofs.Cases.{lt-or-ge}
use Rattle.lists.proofs.members.Counting.{length-reject}
use Rattle.matching.specs.Matching.{wanted, neighbours, tight, free_bundles}

-- a set is tight where the bundles are at most those that suit none of it and its agents together
pub tight-free : (suits : ℕ → ℕ → Bool) (bundles agents : List ℕ)
    → leb (length bundles) (length (free_bundles suits agents bundles) + length agents) ≡ tight suits bundles agents
tight-free suits bundles agents =
    let parts = length-reject (wanted suits agents) bundles in
    let unwanted = length (free_bundles suits agents bundles) in
    let near = neighbours suits agents bundles in
    ⊎_elim
    (λ (lt : length agents < near). lt-leb (length bundles) (unwanted + length agents) (omega arith) ∙ sym (lt-leb near (length agents) lt))
    (λ ge. le-leb (length bundles) (unwanted + length agents) (omega arith) ∙ sym (le-leb near (length agents) ge))
    (lt-or-ge (length agents) near)
