-- The code's instance, with the whole table and a share in each of six places, has the rounds of the definition. Assumes nothing.
use mathlib.Core.Path.{◌≡◌, sym, ap, ap₂}
use mathlib.Core.List.{List}
use Prim.Native.Nat.{ℕ, ◌*◌}
use lib.Dec.{leb}
use Rattle.lists.specs.Lists.{range}
use Rattle.lists.specs.Sums.{total}
use Rattle.sheet.specs.Contents.{sheet_of}
use Rattle.sheet.proofs.valuing.Tables.{values-profile}
use Rattle.maximin.specs.Share.{maximin_partition}
use Rattle.shares.specs.Known.{SharesIn}
use Rattle.shares.proofs.Answered.{nth-shares-known}
use Rattle.terms.specs.declared.Terms.{Terms}
use Rattle.rounds.specs.Round.{rounds}
use Rattle.rounds.specs.Division.{instance_of_sheet, all_rounds}
use Rattle.rounds.proofs.round.Congruence.{Alike, rounds-cong}
use Rattle.division.specs.internal.Left.{instance_from}

module _ {n m : ℕ} {table : List (List ℕ)} {shares : List ℕ} (known : SharesIn (sheet_of n m table) shares) where
  alike-placed : (terms : Terms) → Alike (instance_from terms table shares) (instance_of_sheet (sheet_of n m table) terms) (range 1 n) (range 1 m)
  alike-placed terms =
      record {
        same_suiting = λ agent i part s. ap₂ (λ share values. leb (terms.top * share) (terms.bottom * total values)) (nth-shares-known known i) (sym (values-profile n m table i s));
        same_cuts = λ agent i k part s. ap (maximin_partition k) (sym (values-profile n m table i s));
      }

  pub rounds-placed : (terms : Terms) → rounds (instance_from terms table shares) n (range 1 n) (range 1 m) ≡ all_rounds n m (instance_of_sheet (sheet_of n m table) terms)
  rounds-placed terms = rounds-cong n (range 1 n) (range 1 m) (alike-placed terms)
