use mathlib.Core.Path.{◌≡◌, ◌∙◌}
use mathlib.Core.List.{List, [], ◌∷◌}
use Prim.Native.Nat.{ℕ, ◌-◌}
use native.Mathlib.Omega.{arith}
use Rattle.std.specs.Prelude.{fold}
use Rattle.std.proofs.Common.{rules}
use Rattle.lists.specs.Sums.{total}
use Rattle.settling.proofs.handing.left_of.Goals as goal

-- what is taken away one after the other is taken away in all
fold-sub : (n : ℕ) (xs : List ℕ) → fold ◌-◌ n xs ≡ n - total xs
fold-sub n [] = omega arith
fold-sub n (x ∷ xs) = omega (arith, fold-sub (n - x) xs)

pub returns : goal.returns
returns c =
    let told : c.fold.result ≡ fold ◌-◌ c.args.set c.args.handed = search rules in
    told ∙ fold-sub c.args.set c.args.handed
