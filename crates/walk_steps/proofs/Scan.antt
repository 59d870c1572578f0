-- Laws of `scan`: it goes through a list in parts, its goal only rises, and it ends at the first best. Assumes nothing.
use mathlib.Core.Path.{sym, ◌≡◌, refl, ap, ◌∙◌}
use mathlib.Core.Bool.{Bool, true, false}
use mathlib.Core.Logic.{⊎_elim}
use mathlib.Core.List.Memᴰ
use mathlib.Core.List.{List, [], ◌∷◌, ◌++◌, map, Memᴰ}
use Prim.Native.Nat.{ℕ, ◌+◌, ◌≤◌, ◌<◌, max}
use native.Mathlib.Omega.{arith}
use lib.Dec.{leb}
use borrow.Author.Tests.{leb-true, leb-false, lt-leb, le-leb, eq-eqb, ne_eqb}
use Rattle.lists.specs.Dictionary.{greatest, first_at}
use Rattle.lists.proofs.Cases.{lt-or-ge}
use Rattle.lists.proofs.dictionary.First.{le-greatest}
use Rattle.walk_steps.specs.Scan.{keep, scan}
use Rattle.walk_steps.specs.declared.Best.{Best}

module _ (v : ℕ) (l : List ℕ) (b : Best) where
  pub keep-new : b.goal ≤ v → keep v l b ≡ record { goal = v + 1; partition = l }
  keep-new h = simp (le-leb _ _ h)

  pub keep-old : v < b.goal → keep v l b ≡ b
  keep-old h = simp (lt-leb _ _ h)

  keep-bounds : (b.goal ≤ (keep v l b).goal) × (v < (keep v l b).goal)
  keep-bounds = go (leb b.goal v) refl
    where
      go : (t : Bool) → leb b.goal v ≡ t → (b.goal ≤ (keep v l b).goal) × (v < (keep v l b).goal)
      go true e = let h = leb-true _ _ e in rw (ap (λ r. r.goal) (keep-new h)) (omega arith)
      go false e = let h = leb-false _ _ e in rw (keep-old h) (omega arith)

module _ (v : List ℕ → ℕ) (h : List ℕ → List ℕ) where
  pub scan-append : (b : Best) (xs ys : List (List ℕ)) → scan v h b (xs ++ ys) ≡ scan v h (scan v h b xs) ys
  scan-append b [] ys = refl
  scan-append b (x ∷ xs) ys = scan-append (keep (v x) (h x) b) xs ys

  pub scan-map : (g : List ℕ → List ℕ) (b : Best) (xs : List (List ℕ)) → scan v h b (map g xs) ≡ scan (λ l. v (g l)) (λ l. h (g l)) b xs
  scan-map g b [] = refl
  scan-map g b (x ∷ xs) = scan-map g (keep (v (g x)) (h (g x)) b) xs

  -- the goal never falls
  pub scan-rises : (b : Best) (xs : List (List ℕ)) → b.goal ≤ (scan v h b xs).goal
  scan-rises b [] = omega arith
  scan-rises b (x ∷ xs) = omega (arith, keep-bounds (v x) (h x) b, scan-rises (keep (v x) (h x) b) xs)

  -- the goal ends above the value of each that was tried
  pub scan-covers : (b : Best) {x : List ℕ} (xs : List (List ℕ)) → Memᴰ x xs → v x < (scan v h b xs).goal
  scan-covers b {x} [] m = absurd (Memᴰ.not-nil m)
  scan-covers b {x} (y ∷ ys) m =
      ⊎_elim
      (λ e. rw e (omega (arith, keep-bounds (v y) (h y) b, scan-rises (keep (v y) (h y) b) ys)))
      (scan-covers (keep (v y) (h y) b) ys)
      (Memᴰ.cases_cons m)

  -- a goal above 0 ends above the greatest value, or stays
  pub scan-goal : (b : Best) (xs : List (List ℕ)) → 1 ≤ b.goal → (scan v h b xs).goal ≡ max b.goal (greatest v xs + 1)
  scan-goal b [] some = omega arith
  scan-goal b (x ∷ xs) some =
      ⊎_elim
      (λ lt. omega (arith, ap (λ a. (scan v h a xs).goal) (keep-old (v x) (h x) b lt), scan-goal b xs some))
      (λ ge. omega (arith, ap (λ a. (scan v h a xs).goal) (keep-new (v x) (h x) b ge), scan-goal (record { goal = v x + 1; partition = h x }) xs (omega arith)))
      (lt-or-ge (v x) b.goal)

  -- lists below the goal change nothing
  pub scan-idle : (b : Best) (xs : List (List ℕ)) → ((x : List ℕ) → Memᴰ x xs → v x < b.goal) → scan v h b xs ≡ b
  scan-idle b [] low = refl
  scan-idle b (x ∷ xs) low =
      ap (λ a. scan v h a xs) (keep-old (v x) (h x) b (low x (Memᴰ.head refl)))
      ∙ scan-idle b xs (λ y m. low y (Memᴰ.tail m))

module _ (v : List ℕ → ℕ) (h : List ℕ → List ℕ) where
  -- the first best of a list, with the goal above its value
  abbrev pub best_of : List (List ℕ) → Best
  best_of ls = record { goal = greatest v ls + 1; partition = h (first_at v (greatest v ls) ls) }

  -- a head above all the rest is the first best
  best-head : (l : List ℕ) (ls : List (List ℕ)) → greatest v ls ≤ v l
      → record { goal = v l + 1; partition = h l } ≡ best_of (l ∷ ls)
  best-head l ls le =
      let e : greatest v (l ∷ ls) ≡ v l = omega arith in
      rw (e, eq-eqb (v l) (v l) refl)

  -- a head below the greatest of the rest is passed over
  best-tail : (l : List ℕ) (ls : List (List ℕ)) → v l < greatest v ls → best_of ls ≡ best_of (l ∷ ls)
  best-tail l ls lt =
      let e : greatest v (l ∷ ls) ≡ greatest v ls = omega arith in
      let of : ℕ → Best = λ g. record { goal = g + 1; partition = h (first_at v g ls) } in
      rw (ne_eqb (v l) (greatest v (l ∷ ls)) (omega arith)) (ap of (sym e))

  scan_step : (b : Best) (l : List ℕ) (ls : List (List ℕ))
      → ((a : Best) → 0 < a.goal → a.goal ≤ greatest v ls → scan v h a ls ≡ best_of ls)
      → b.goal ≤ greatest v (l ∷ ls) → scan v h b (l ∷ ls) ≡ best_of (l ∷ ls)
  scan_step b l ls rest le =
      ⊎_elim
      (λ lt. ap (λ a. scan v h a ls) (keep-old (v l) (h l) b lt) ∙ rest b (omega arith) (omega arith) ∙ best-tail l ls (omega arith))
      (λ ge. ap (λ a. scan v h a ls) (keep-new (v l) (h l) b ge) ∙ ⊎_elim
      (λ below. rest new (omega arith) (omega arith) ∙ best-tail l ls below)
      (λ above. scan-idle v h new ls (λ x m. omega (arith, le-greatest v ls m)) ∙ best-head l ls above)
      (lt-or-ge (v l) (greatest v ls)))
      (lt-or-ge (v l) b.goal)
    where
      new : Best
      new = record { goal = v l + 1; partition = h l }

  scan-later : (b : Best) (ls : List (List ℕ)) → 0 < b.goal → b.goal ≤ greatest v ls → scan v h b ls ≡ best_of ls
  scan-later b [] pos le = absurd (omega arith)
  scan-later b (l ∷ ls) pos le = scan_step b l ls (λ a. scan-later a ls) le

  -- a scan whose goal is reached ends at the first best
  pub scan-best : (b : Best) {x : List ℕ} (ls : List (List ℕ)) → Memᴰ x ls → b.goal ≤ greatest v ls → scan v h b ls ≡ best_of ls
  scan-best b [] m le = absurd (Memᴰ.not-nil m)
  scan-best b (l ∷ ls) m le = scan_step b l ls (λ a. scan-later a ls) le
