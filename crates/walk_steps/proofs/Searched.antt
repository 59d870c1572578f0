-- Laws of `searched`: it goes through a list in parts, and its allowance ends where it is spent. Assumes nothing.
use mathlib.Core.Path.{◌≡◌, refl, sym, ap, ap₂, fun_ext, ◌∙◌}
use mathlib.Core.List.{List, [], ◌∷◌, ◌++◌, map, Memᴰ as Mem}
use Prim.Native.Nat.{ℕ, ◌-◌, ◌≤◌, ◌<◌}
use native.Mathlib.Nat.{sub-add-eq, sub-zero, zero-sub}
use borrow.Author.Tests.{le-leb}
use lib.ListN.{length, take, length-append, length-map}
use lib.Seq.{take-nil, take_all}
use Rattle.lists.specs.Dictionary.{branches}
use Rattle.lists.proofs.places.Fronts.{take-append, take-mem}
use Rattle.lists.proofs.places.Passing.{take-map}
use Rattle.walk_steps.specs.Scan.{keep, looked, looking, scan, searched, passing}
use Rattle.walk_steps.specs.declared.Best.{Best}
use Rattle.walk_steps.specs.declared.Search.{Search}
use Rattle.walk_steps.proofs.Scan.{scan-append, scan-map, scan-idle}

abbrev pub search_of : Best → ℕ → Search
search_of best allowance = record { best = best; allowance = allowance }

-- an allowance that is not spent looks at one more
pub looking-some : (v : ℕ) (l : List ℕ) (s : Search) → 1 ≤ s.allowance → looking v l s ≡ looked v l s
looking-some v l s some = rw (le-leb 1 s.allowance some) refl

module _ (v : List ℕ → ℕ) (h : List ℕ → List ℕ) (s : Search) where
  pub searched-append : (xs ys : List (List ℕ)) → searched v h s (xs ++ ys) ≡ searched v h (searched v h s xs) ys
  searched-append xs ys =
      ap₂ search_of
      (ap (scan v h s.best) (take-append s.allowance xs ys) ∙ scan-append v h s.best (take s.allowance xs) (take (s.allowance - length xs) ys))
      (ap (λ k. s.allowance - k) (length-append xs ys) ∙ sub-add-eq s.allowance (length xs) (length ys))

  pub searched-map : (g : List ℕ → List ℕ) (xs : List (List ℕ)) → searched v h s (map g xs) ≡ searched (λ l. v (g l)) (λ l. h (g l)) s xs
  searched-map g xs =
      ap₂ search_of
      (ap (scan v h s.best) (take-map g s.allowance xs) ∙ scan-map v h g s.best (take s.allowance xs))
      (ap (λ k. s.allowance - k) (length-map xs g))

  -- nothing to look at
  pub searched-nil : searched v h s [] ≡ s
  searched-nil = ap₂ search_of (ap (scan v h s.best) (take-nil s.allowance)) (sub-zero s.allowance)

  -- an allowance that is spent
  pub searched-spent : (xs : List (List ℕ)) → s.allowance ≡ 0 → searched v h s xs ≡ s
  searched-spent xs e =
      ap₂ search_of (ap (λ a. scan v h s.best (take a xs)) e) (ap (λ a. a - length xs) e ∙ zero-sub (length xs) ∙ sym e)

  -- an allowance that is enough
  pub searched-all : (xs : List (List ℕ)) → length xs ≤ s.allowance → searched v h s xs ≡ search_of (scan v h s.best xs) (s.allowance - length xs)
  searched-all xs enough = ap (λ l. search_of (scan v h s.best l) (s.allowance - length xs)) (take_all s.allowance xs enough)

  -- lists below the goal only use the allowance up
  pub searched-idle : (xs : List (List ℕ)) → ((l : List ℕ) → Mem l xs → v l < s.best.goal) → searched v h s xs ≡ passing (length xs) s
  searched-idle xs low = ap (λ b. search_of b (s.allowance - length xs)) (scan-idle v h s.best (take s.allowance xs) (λ l m. low l (take-mem s.allowance xs m)))

-- lists of the same value are searched alike
scan-cong : (v w : List ℕ → ℕ) (h : List ℕ → List ℕ) (b : Best) (xs : List (List ℕ)) → ((l : List ℕ) → Mem l xs → v l ≡ w l) → scan v h b xs ≡ scan w h b xs
scan-cong v w h b [] same = refl
scan-cong v w h b (x ∷ xs) same =
    ap (λ k. scan v h (keep k (h x) b) xs) (same x (Mem.head refl)) ∙ scan-cong v w h (keep (w x) (h x) b) xs (λ l m. same l (Mem.tail m))

pub searched-cong : (v w : List ℕ → ℕ) (h : List ℕ → List ℕ) (s : Search) (xs : List (List ℕ)) → ((l : List ℕ) → Mem l xs → v l ≡ w l) → searched v h s xs ≡ searched w h s xs
searched-cong v w h s xs same =
    ap (λ b. search_of b (s.allowance - length xs)) (scan-cong v w h s.best (take s.allowance xs) (λ l m. same l (take-mem s.allowance xs m)))

module _ (v : List ℕ → ℕ) (w : ℕ → List ℕ → ℕ) (cons : (c : ℕ) (l : List ℕ) → v (c ∷ l) ≡ w c l) where
  -- the first branch is searched, and then the others
  pub searched-branch : (h : List ℕ → List ℕ) (next : ℕ → List (List ℕ)) (s : Search) (c : ℕ) (cs : List ℕ)
      → searched v h s (branches next (c ∷ cs)) ≡ searched v h (searched (w c) (λ l. h (c ∷ l)) s (next c)) (branches next cs)
  searched-branch h next s c cs =
      searched-append v h s (map (λ l. c ∷ l) (next c)) (branches next cs)
      ∙ ap (λ a. searched v h a (branches next cs))
      (searched-map v h s (λ l. c ∷ l) (next c) ∙ ap (λ f. searched f (λ l. h (c ∷ l)) s (next c)) (fun_ext (cons c)))
