-- Values that are dealt to bundles one after the other: the loads are those of a partition, so that the share reaches their least.
-- Assumes nothing.
use mathlib.Core.Path.{◌≡◌, refl, sym, ap, ◌∙◌}
use mathlib.Core.Bool.{cond}
use mathlib.Core.List.{List, [], ◌∷◌, ◌++◌}
use Prim.Native.Nat.{ℕ, ◌+◌, ◌-◌, ◌≤◌, ◌<◌}
use native.Mathlib.Nat.{add-zero, zero-add, add_assoc}
use native.Mathlib.Omega.{arith}
use lib.Dec.{eqb}
use lib.ListN.{length, get_or, take, set, length-append, length-set, length-take}
use lib.Seq.{take_all}
use Rattle.lists.specs.Lists.{zeros, Within}
use Rattle.lists.specs.Sums.{total, least_of}
use Rattle.lists.proofs.places.Places.{nth-next}
use Rattle.lists.proofs.places.Zeros.{get_d-zeros}
use Rattle.lists.proofs.places.Passing.{take_next, within-append}
use Rattle.lists.proofs.sums.LeastOf.{least_of-cong}
use Rattle.lists.proofs.sums.Sums.{total-snoc, total-take, le-sum_of}
use Rattle.sheet.specs.Limits.{most_agents}
use Rattle.maximin.specs.Share.{bundle_value, maximin_share}
use Rattle.reach.specs.Loads.{load_of}
use Rattle.reach.proofs.loads.Stored.{loaded-stored}
use Rattle.maximin.proofs.Laws.{least_bundle-le-maximin_share}
use Rattle.maximin.proofs.Partitions.{bundles-le-total}

-- one item more
bundle_value-snoc : (c v d : ℕ) (vs l : List ℕ) → length l ≡ length vs → bundle_value c (vs ++ (v ∷ [])) (l ++ (d ∷ [])) ≡ bundle_value c vs l + cond (eqb c d) v 0
bundle_value-snoc c v d [] [] e = add-zero (cond (eqb c d) v 0) ∙ sym (zero-add (cond (eqb c d) v 0))
bundle_value-snoc c v d [] (f ∷ l) e = absurd (omega arith)
bundle_value-snoc c v d (u ∷ vs) [] e = absurd (omega arith)
bundle_value-snoc c v d (u ∷ vs) (f ∷ l) e =
    ap (λ s. cond (eqb c f) u 0 + s) (bundle_value-snoc c v d vs l (omega arith)) ∙ sym (add_assoc (cond (eqb c f) u 0) (bundle_value c vs l) (cond (eqb c d) v 0))

-- the first i values are dealt
pub record Dealt (n : ℕ) (values loads : List ℕ) (i : ℕ) : Type 0 where
  pub inside : i ≤ length values
  pub places : length loads ≡ most_agents
  pub laid : List ℕ
  pub within : Within n laid
  pub whole : length laid ≡ i
  pub worth : (c : ℕ) → 1 ≤ c → load_of loads c ≡ bundle_value c (take i values) laid

module _ (n : ℕ) (values : List ℕ) where
  pub dealt-start : Dealt n values (zeros most_agents) 0
  dealt-start = record { inside = omega arith; places = refl; laid = []; within = tt; whole = refl; worth = λ c some. get_d-zeros most_agents (c - 1) }

  module _ (loads : List ℕ) (i : ℕ) (dealt : Dealt n values loads i) where
    module _ (k : ℕ) (bundle : k < n) (few : n ≤ most_agents) (more : i < length values) where
      -- the load and the next value
      abbrev pub heavier : ℕ
      heavier = get_or loads k 0 + get_or values i 0

      pub heavier-le : heavier ≤ total values
      heavier-le = omega (
        arith,
        nth-next 0 loads k,
        dealt.worth (k + 1) (omega arith),
        le-sum_of (λ c. bundle_value c (take i values) dealt.laid) n (k + 1) (omega arith) (omega arith),
        bundles-le-total n (take i values) dealt.laid,
        total-snoc (take i values) (get_or values i 0),
        ap total (take_next values i more),
        total-take (i + 1) values,
      )

      pub dealt-next : Dealt n values (set loads k heavier) (i + 1)
      dealt-next =
          let v = get_or values i 0 in
          record {
            inside = omega arith;
            places = length-set loads k heavier ∙ dealt.places;
            laid = dealt.laid ++ ((k + 1) ∷ []);
            within = within-append n dealt.laid ((k + 1) ∷ []) dealt.within (omega arith, omega arith, tt);
            whole = length-append dealt.laid ((k + 1) ∷ []) ∙ ap (λ j. j + 1) dealt.whole;
            worth = λ c some.
                sym (loaded-stored loads k v c (omega (arith, dealt.places)) some)
                ∙ ap (λ x. x + cond (eqb c (k + 1)) v 0) (dealt.worth c some)
                ∙ sym (bundle_value-snoc c v (k + 1) (take i values) dealt.laid (dealt.whole ∙ sym (length-take i values ∙ omega arith)))
                ∙ ap (λ vs. bundle_value c vs (dealt.laid ++ ((k + 1) ∷ []))) (sym (take_next values i more));
          }

    -- the share reaches the least of the loads
    pub dealt-end : i ≡ length values → least_of (load_of loads) n ≤ maximin_share n values
    dealt-end all = omega (
      arith,
      least_of-cong (load_of loads) (λ c. bundle_value c values dealt.laid) n
          (λ c some _. dealt.worth c some ∙ ap (λ vs. bundle_value c vs dealt.laid) (take_all i values (omega arith))),
      least_bundle-le-maximin_share n values dealt.laid dealt.within (dealt.whole ∙ all),
    )
