use mathlib.Core.Path.{◌≡◌, refl, ◌∙◌}
use mathlib.Core.Bool.{Bool}
use mathlib.Core.List.{[]}
use Prim.Native.Nat.{ℕ, ◌+◌}
use native.Mathlib.Omega.{arith}
use lib.ListN.{get_or}
use Rattle.std.proofs.Common.{rules, tests}
use Rattle.std.specs.List.{list_all, range_with_len}
use Rattle.std.proofs.lemmas.Iterator.{YieldsList-from_range}
use Rattle.std.proofs.lemmas.Iterator.Search.{all_from_yields_List}
use Rattle.lists.specs.Lists.{nth}
use Rattle.lists.proofs.places.Places.{nth-next}
use Rattle.lists.proofs.members.Chains.{list_all-range}
use Rattle.sheet.specs.Tables.{valuation_of}
use Rattle.stated_truth.specs.Lines.{no_line, stated_line, line_true_to}
use Rattle.stated_figures.proofs.lines_true.Goals as goal

pub returns : goal.returns
returns c =
    let a = c.args in
    let true_of : ℕ → Bool =
    λ i. line_true_to a.agents a.items (get_or a.table i []) (get_or a.shares i 0) (get_or a.worths i 0) (stated_line a.agents (get_or a.lines i no_line)) in
    let true_at : ℕ → Bool =
    λ k. line_true_to a.agents a.items (valuation_of a.table k) (nth 0 a.shares k) (nth 0 a.worths k) (stated_line a.agents (nth no_line a.lines k)) in
    let tested : c.all.result ≡ list_all true_of (range_with_len 0 a.agents) =
    all_from_yields_List true_of _ _ c.all.result c.all.ensures.ran (YieldsList-from_range 0 a.agents a.agents refl (omega arith)) (λ x b q k. search (rules, tests)) in
    let same : (i : ℕ) → true_of i ≡ true_at (i + 1) = λ i. rw (nth-next [] a.table i, nth-next 0 a.shares i, nth-next 0 a.worths i, nth-next no_line a.lines i) refl in
    tested ∙ list_all-range true_of true_at 0 a.agents (λ i _. same i)
