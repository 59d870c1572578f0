-- How what a walk found is stored. Assumes nothing.
use mathlib.Core.Path.{◌≡◌, ap₂}
use mathlib.Core.List.{List}
use Prim.Native.Nat.{ℕ, ◌-◌, ◌≤◌, ◌<◌}
use native.Mathlib.Nat.{add-sub_cancel}
use native.Mathlib.Omega.{arith}
use lib.ListN.{length}
use Rattle.growth.specs.Growth.{growths}
use Rattle.maximin.specs.Share.{maximin_share, maximin_partition}
use Rattle.cut.specs.Outcome.{whole_cut, stopped_cut, placed, stored}
use Rattle.cut.specs.declared.Figure.TheVariants.{Share, Stopped}
use Rattle.cut.specs.declared.Cutting.{Cutting}
use Rattle.walk_steps.specs.declared.Search.{Search}
use Rattle.cut.proofs.Whole.{best_least, best_partition, found_with}

module _ (n : ℕ) (values : List ℕ) (allowance : ℕ) where
  -- a search that its allowance stopped
  abbrev pub stored_stopped : Search → Cutting
  stored_stopped s = record { figure = Stopped (s.best.goal - 1); partition = s.best.partition; count = allowance - s.allowance }

  pub stored-stopped : allowance < growths n (length values) → stored_stopped (found_with n values allowance (best_least n values allowance) (best_partition n values allowance))
      ≡ stored (stopped_cut n values allowance)
  stored-stopped short =
      let used : allowance - (allowance - growths n (length values)) ≡ allowance = omega arith in
      ap₂ {C = Cutting} (λ least count. record { figure = Stopped least; partition = placed (best_partition n values allowance); count = count }) (add-sub_cancel (best_least n values allowance) 1) used

  -- a search that its allowance was enough for
  abbrev pub stored_share : Search → Cutting
  stored_share s = record { figure = Share (s.best.goal - 1); partition = s.best.partition; count = allowance - s.allowance }

  pub stored-share : growths n (length values) ≤ allowance → stored_share (found_with n values allowance (maximin_share n values) (maximin_partition n values))
      ≡ stored (whole_cut n values)
  stored-share enough =
      let used : allowance - (allowance - growths n (length values)) ≡ growths n (length values) = omega arith in
      ap₂ {C = Cutting} (λ share count. record { figure = Share share; partition = placed (maximin_partition n values); count = count }) (add-sub_cancel (maximin_share n values) 1) used
