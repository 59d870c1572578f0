-- One step of the search for the first matching: its end, a bundle that leads to none, and a bundle that leads to one. Assumes nothing.
use mathlib.Core.Path.{◌≡◌, sym, ap, ◌∙◌}
use mathlib.Core.Bool.{Bool, true, false, and-false}
use mathlib.Core.List.Memᴰ
use mathlib.Core.List.{List, [], ◌∷◌, ◌++◌, map, map-append, append-nil, append_assoc}
use Prim.Native.Nat.{ℕ, suc, ◌+◌, ◌-◌, ◌<◌}
use native.Mathlib.Nat.{sub-zero}
use native.Mathlib.Omega.{arith}
use lib.ListN.{length, get_or, take, drop, length-append}
use lib.Seq.{take-length, drop-length}
use Rattle.lists.specs.Lists.{elem}
use Rattle.lists.specs.Dictionary.{branches, lists_over, first_that}
use Rattle.lists.proofs.places.Prefixes.{prefix-cons, prefix-none}
use Rattle.lists.proofs.dictionary.FirstThat.{or_else, or_else-some, or_else-none, first_that-none, first_that-append}
use Rattle.lists.proofs.members.DistinctAppend.{distinct_more, distinct-twice}
use Rattle.matching.specs.Matching.{suited, matches, matching}
use Rattle.matching.proofs.Suited.{suited-more, suited-not, suited-none}
use Rattle.serving.specs.internal.Searching.{begun, PartialMatching, first_matching}
use Rattle.lists.proofs.places.Passing.{take_next, drop-next}

module _ (suits : ℕ → ℕ → Bool) where
  -- from no bundle the search ends at the matching
  pub first_matching-matching : (served free : List ℕ) → first_matching suits served free [] ≡ matching suits served free
  unfolding first_matching matching
  first_matching-matching served free = rw sub-zero (ap (first_that (matches suits served)) (prefix-none (lists_over free (length served))))

  module _ (served free chosen : List ℕ) where
    -- the first matching that begins with the bundles chosen and goes on with one of `bundles`
    abbrev pub matching_from : List ℕ → List ℕ
    matching_from bundles = first_that (matches suits served) (begun chosen (branches (λ c. lists_over free (length served - (length chosen + 1))) bundles))

    -- each agent has its bundle
    pub first_matching-end : PartialMatching suits served chosen → length chosen ≡ length served → first_matching suits served free chosen ≡ chosen
    unfolding first_matching
    first_matching-end at all =
        let none : length served - length chosen ≡ 0 = omega arith in
        let whole : take (length chosen) served ≡ served = ap (λ k. take k served) all ∙ take-length served in
        rw (none, append-nil chosen, rw whole at at.suits_each, at.injective)

    module _ (more : length chosen < length served) where
      -- the next agent has one of all free bundles
      pub first_matching-all : first_matching suits served free chosen ≡ matching_from free
      unfolding first_matching
      first_matching-all =
          let e : length served - length chosen ≡ suc (length served - (length chosen + 1)) = omega arith in
          ap (λ k. first_that (matches suits served) (begun chosen (lists_over free k))) e

      -- the matchings with the first of the bundles, and then the others
      matching_from-cons : (bundle : ℕ) (bundles : List ℕ)
          → matching_from (bundle ∷ bundles) ≡ or_else (first_matching suits served free (chosen ++ (bundle ∷ []))) (matching_from bundles)
      unfolding first_matching
      matching_from-cons bundle bundles =
          let lists = lists_over free (length served - (length chosen + 1)) in
          let later = branches (λ c. lists) bundles in
          let one : length chosen + 1 ≡ length (chosen ++ (bundle ∷ [])) = sym (length-append chosen (bundle ∷ [])) in
          ap (first_that (matches suits served))
          (map-append (λ l. chosen ++ l) (map (λ l. bundle ∷ l) lists) later ∙ ap (λ ls. ls ++ begun chosen later) (prefix-cons chosen bundle lists))
          ∙ first_that-append (matches suits served) (rw (suited-none suits served (omega arith))) (begun (chosen ++ (bundle ∷ [])) lists) (begun chosen later)
          ∙ ap (λ k. or_else (first_that (matches suits served) (begun (chosen ++ (bundle ∷ [])) (lists_over free (length served - k)))) (matching_from bundles)) one

      module _ (i : ℕ) (same : first_matching suits served free chosen ≡ matching_from (drop i free)) where
        abbrev bundle : ℕ
        bundle = get_or free i 0

        from-here : i < length free → first_matching suits served free chosen ≡ or_else (first_matching suits served free (chosen ++ (bundle ∷ []))) (matching_from (drop (i + 1) free))
        from-here lt = same ∙ ap matching_from (drop-next free i lt) ∙ matching_from-cons bundle (drop (i + 1) free)

        -- the bundle at i leads to a matching, or to none, and after the last there is none
        pub first_matching-found : i < length free → (length (first_matching suits served free (chosen ++ (bundle ∷ []))) ≡ 0 → ⊥)
            → first_matching suits served free (chosen ++ (bundle ∷ [])) ≡ first_matching suits served free chosen
        first_matching-found lt some = sym (from-here lt ∙ or_else-some (first_matching suits served free (chosen ++ (bundle ∷ []))) (matching_from (drop (i + 1) free)) some)

        pub first_matching-next : i < length free → length (first_matching suits served free (chosen ++ (bundle ∷ []))) ≡ 0
            → first_matching suits served free chosen ≡ matching_from (drop (i + 1) free)
        first_matching-next lt none = from-here lt ∙ or_else-none (first_matching suits served free (chosen ++ (bundle ∷ []))) (matching_from (drop (i + 1) free)) none

        pub first_matching-none : i ≡ length free → [] ≡ first_matching suits served free chosen
        first_matching-none e = sym (same ∙ ap matching_from (ap (λ k. drop k free) e ∙ drop-length free))

    module _ (bundle : ℕ) where
      -- every list that goes on from the bundle fails
      fails-none : ((l : List ℕ) → matches suits served (chosen ++ bundle ∷ l) ≡ false) → length (first_matching suits served free (chosen ++ (bundle ∷ []))) ≡ 0
      unfolding first_matching
      fails-none fails =
          let lists = lists_over free (length served - length (chosen ++ (bundle ∷ []))) in
          ap length (first_that-none (matches suits served) (begun (chosen ++ (bundle ∷ [])) lists)
          (λ l m. let (s, n, e) = Memᴰ.of_map (λ l. (chosen ++ (bundle ∷ [])) ++ l) lists m in rw (← e, append_assoc chosen (bundle ∷ []) s) (fails s)))

      -- a bundle that does not suit the next agent, or is chosen already, leads to no matching
      pub unsuited-none : suits (get_or served (length chosen) 0) bundle ≡ false → length (first_matching suits served free (chosen ++ (bundle ∷ []))) ≡ 0
      unsuited-none bad = fails-none (λ l. rw (suited-not suits served chosen bundle l bad))

      pub used-none : elem bundle chosen ≡ true → length (first_matching suits served free (chosen ++ (bundle ∷ []))) ≡ 0
      used-none used = fails-none (λ l. rw (distinct-twice chosen bundle l used) (and-false (suited suits served (chosen ++ bundle ∷ l))))

      -- a bundle that suits the next agent and is not chosen yet
      pub matching-with : PartialMatching suits served chosen → length chosen < length served → suits (get_or served (length chosen) 0) bundle ≡ true → elem bundle chosen ≡ false
          → PartialMatching suits served (chosen ++ (bundle ∷ []))
      matching-with at more good unused =
          let one : length (chosen ++ (bundle ∷ [])) ≡ length chosen + 1 = length-append chosen (bundle ∷ []) in
          record {
            few = omega (arith, one);
            suits_each = rw (one, take_next served (length chosen) more) (suited-more suits (take (length chosen) served) chosen (get_or served (length chosen) 0) bundle at.suits_each good);
            injective = distinct_more chosen bundle at.injective unused;
          }
