use mathlib.Core.Path.{◌≡◌}
use mathlib.Core.List.{List, [], ◌∷◌}
use Prim.Native.Nat.{ℕ, zero, suc, ◌≤◌, ◌<◌}
use native.Mathlib.Omega.{arith}
use lib.ListN.{length, get_or}
use Rattle.std.proofs.Common.{rules, tests}
use Rattle.std.proofs.lemmas.Iterator.{YieldsList-from_slice}
use Rattle.std.proofs.lemmas.Iterator.Adapters.{serves_from_places}
use Rattle.std.proofs.lemmas.Iterator.Search.{any_from_yields_List}
use Rattle.lists.specs.Lists.{Within}
use Rattle.sheet.specs.Limits.{most_agents}
use Rattle.serving.specs.Serving.{suits_of}
use Rattle.serving.proofs.suiting.is_wanted.Goals as goal

-- the entry at a place is one of 1 .. n
within-place : (n : ℕ) (xs : List ℕ) (k x : ℕ) → Within n xs → k < length xs → x ≡ get_or xs k x → (1 ≤ x) × (x ≤ n)
within-place n [] k x w more e = absurd (omega arith)
within-place n (y ∷ ys) zero x w more e = (omega (arith, w.0), omega (arith, w.1))
within-place n (y ∷ ys) (suc k) x w more e = within-place n ys k x w.2 (omega arith) e

pub any-requires-clause-callable : goal.any-requires-clause-callable
any-requires-clause-callable c =
    serves_from_places (YieldsList-from_slice c.args.agents.now cc) (λ x q h. search (rules, tests))
    (λ x k more e. let w = within-place most_agents c.args.agents.now k x.now c.requires.0 more e in search rules)

pub returns : goal.returns
returns c =
    any_from_yields_List (λ agent. suits_of c.args.suiting agent c.args.bundle) _ _ c.any.result c.any.ensures.ran (YieldsList-from_slice c.args.agents.now cc) (λ x b q k. search (rules, tests))
