-- The waiting set, the free bundles and the matching depend on what suits whom only at the agents and bundles given. Assumes nothing.
use mathlib.Core.Path.{◌≡◌, refl, ap, ap₂}
use mathlib.Core.Bool.{Bool, not, ◌&&◌}
use mathlib.Core.List.Memᴰ.{head as here}
use mathlib.Core.List.Memᴰ.{tail as there}
use mathlib.Core.List.{List, [], ◌∷◌, Memᴰ as Mem}
use Prim.Native.Nat.{ℕ}
use lib.ListN.{length}
use Rattle.lists.specs.Lists.{distinct}
use Rattle.lists.specs.Dictionary.{lists_over, sublists, first_best}
use Rattle.lists.proofs.members.Counting.{sublist-mem}
use Rattle.lists.proofs.members.Congruence.{filter-cong, any-cong, count-cong, first_that-cong}
use Rattle.lists.proofs.ranges.Sublists.{sublists-mem}
use Rattle.lists.proofs.dictionary.Listed.{lists_over-in}
use Rattle.matching.specs.Matching.{wanted, tight, waiting_set, free_bundles, suited, matches, matching}

module _ (s t : ℕ → ℕ → Bool) where
  -- the same bundles suit the same agents
  abbrev pub Agree : List ℕ → List ℕ → Type 0
  Agree agents bundles = (agent : ℕ) → Mem agent agents → (bundle : ℕ) → Mem bundle bundles → s agent bundle ≡ t agent bundle

  wanted-cong : (agents bundles : List ℕ) → Agree agents bundles → (bundle : ℕ) → Mem bundle bundles → wanted s agents bundle ≡ wanted t agents bundle
  wanted-cong agents bundles same bundle m = any-cong (λ agent. s agent bundle) (λ agent. t agent bundle) agents (λ agent n. same agent n bundle m)

  pub free_bundles-cong : (waiting bundles : List ℕ) → Agree waiting bundles → free_bundles s waiting bundles ≡ free_bundles t waiting bundles
  free_bundles-cong waiting bundles same =
      filter-cong (λ c. not (wanted s waiting c)) (λ c. not (wanted t waiting c)) bundles (λ c m. ap not (wanted-cong waiting bundles same c m))

  tight-cong : (agents bundles : List ℕ) → Agree agents bundles → tight s bundles agents ≡ tight t bundles agents
  tight-cong agents bundles same = rw (count-cong (wanted s agents) (wanted t agents) bundles (wanted-cong agents bundles same))

  pub waiting_set-cong : (others bundles : List ℕ) → Agree others bundles → waiting_set s others bundles ≡ waiting_set t others bundles
  unfolding waiting_set
  waiting_set-cong others bundles same =
      ap (first_best length)
      (filter-cong (tight s bundles) (tight t bundles) (sublists others)
      (λ l m. tight-cong l bundles (λ agent n. same agent (sublist-mem (sublists-mem others m) n))))

  suited-cong : (agents bundles chosen : List ℕ) → Agree agents bundles → ((c : ℕ) → Mem c chosen → Mem c bundles) → suited s agents chosen ≡ suited t agents chosen
  suited-cong [] bundles [] same from = refl
  suited-cong [] bundles (c ∷ chosen) same from = refl
  suited-cong (agent ∷ agents) bundles [] same from = refl
  suited-cong (agent ∷ agents) bundles (c ∷ chosen) same from =
      ap₂ ◌&&◌ (same agent (here refl) c (from c (here refl)))
      (suited-cong agents bundles chosen (λ a m. same a (there m)) (λ d m. from d (there m)))

  pub matching-cong : (served free : List ℕ) → Agree served free → matching s served free ≡ matching t served free
  unfolding matching
  matching-cong served free same =
      first_that-cong (matches s served) (matches t served) (lists_over free (length served))
      (λ l m. ap (λ b. b && distinct l) (suited-cong served free l same (lists_over-in free (length served) m).0))
