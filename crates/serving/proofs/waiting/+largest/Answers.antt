use mathlib.Core.Path.{◌≡◌, sym, ap, subst, ◌∙◌}
use mathlib.Core.List.{List, [], ◌∷◌, ◌++◌}
use Prim.Native.Nat.{ℕ, ◌-◌, ◌≤◌}
use native.Mathlib.Omega.{arith}
use lib.ListN.{length, get_or, take, drop}
use Rattle.lists.proofs.places.Passing.{empty, first-and-rest}
use Rattle.sheet.specs.Limits.{set_bits}
use Rattle.sheet.proofs.listing.Entries.{pushed}
use Rattle.lists.specs.Lists.{range}
use Rattle.matching.specs.Matching.{tight}
use Rattle.serving.specs.Serving.{suits_of}
use Rattle.serving.specs.internal.Searching.{Searching, largest_tight}
use Rattle.serving.proofs.searches.LargestTight.{largest_tight-short, largest_tight-new, largest_tight-old, largest_tight-next, searching-with}
use Rattle.serving.proofs.waiting.+largest.Goals as goal
use Rattle.serving.proofs.waiting.+largest.Goals.{Start}

-- the next agent, and those after it
abbrev agent : {t : ℕ} → Start t → ℕ
agent s = get_or s.args.others.now 0 0

abbrev rest : {t : ℕ} → Start t → List ℕ
rest s = take (length s.args.others.now - 1) (drop 1 s.args.others.now)

module _ {t : ℕ} (s : Start t) (some : 1 ≤ length s.args.others.now) where
  others-are : s.args.others.now ≡ agent s ∷ rest s
  others-are = first-and-rest s.args.others.now some

  searching : Searching (agent s ∷ rest s) s.args.bundles s.args.chosen
  searching = subst (λ others. Searching others s.args.bundles s.args.chosen) others-are s.requires

  -- the agents chosen, and the next agent
  chosen_more : take set_bits (s.args.chosen ++ (agent s ∷ [])) ≡ s.args.chosen ++ (agent s ∷ [])
  chosen_more = pushed s.args.chosen (agent s) (omega (arith, s.requires.few))

pub returns-then-len-others : goal.returns-then-len-others
returns-then-len-others t c =
    let a = c.args in
    sym (largest_tight-short (suits_of a.suiting) a.bundles a.others.now a.chosen a.best (omega (arith, c.len.ensures.count, c.len-2.ensures.count, c.if-len-others.true)))

pub returns-then-is_tight : goal.returns-then-is_tight
returns-then-is_tight t c =
    let a = c.args in
    let none = empty a.others.now (omega arith) in
    let tight = ap (tight (suits_of a.suiting) (range 1 a.bundles)) (sym c.as_slice.ensures.same) ∙ sym c.is_tight.ensures ∙ c.if-is_tight.true in
    rw none (sym (largest_tight-new (suits_of a.suiting) a.bundles a.chosen a.best (omega arith) tight))

pub returns-else-is_tight : goal.returns-else-is_tight
returns-else-is_tight t c =
    let a = c.args in
    let none = empty a.others.now (omega arith) in
    let loose = ap (tight (suits_of a.suiting) (range 1 a.bundles)) (sym c.as_slice.ensures.same) ∙ sym c.is_tight.ensures ∙ c.if-is_tight.false in
    rw none (sym (largest_tight-old (suits_of a.suiting) a.bundles a.chosen a.best loose))

pub largest-better-requires : goal.largest-better-requires
largest-better-requires t c =
    let s = (goal.at.largest-better-requires t c).Start in
    let some : 1 ≤ length s.args.others.now = omega (arith, c.in-len1-up.len_at_least) in
    (omega (arith, ap length (others-are s some)), rw (c.with.ensures ∙ chosen_more s some) (searching-with (agent s) (rest s) c.args.bundles c.args.chosen (searching s some)))

pub returns : goal.returns
returns t c =
    let s = (goal.at.returns t c).Start in
    let some : 1 ≤ length s.args.others.now = omega (arith, c.in-len1-up.len_at_least) in
    let a = c.args in
    let found : List ℕ → List ℕ → List ℕ → List ℕ = λ others l best. largest_tight (suits_of a.suiting) others a.bundles l best in
    c.largest.ensures
    ∙ ap (found (rest s) a.chosen) (c.largest-better.ensures ∙ ap (λ l. found (rest s) l a.best) (c.with.ensures ∙ chosen_more s some))
    ∙ sym (largest_tight-next (suits_of a.suiting) a.bundles (agent s) (rest s) a.chosen a.best)
    ∙ ap (λ l. found l a.chosen a.best) (sym (others-are s some))
