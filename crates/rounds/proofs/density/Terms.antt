-- The terms of document 01 for N agents, top and bottom, and all arithmetic that is not linear. Assumes nothing.
use mathlib.Core.Path.{◌≡◌}
use Prim.Native.Nat.{ℕ, suc, ◌+◌, ◌*◌, ◌-◌, ◌/◌, ◌≤◌, ◌<◌}
use native.Mathlib.Nat.{mul-add, add-mul, suc-mul, mul_assoc, mul_comm, mul_left_comm}
use native.Mathlib.Nat.{mul-pos, mul-le-mul, mul-le-mul_left, mul-le-mul_right, le_trans, lt_of_le_of_lt, le_of_mul-le-mul_left}
use native.Mathlib.Omega.{arith}
use Rattle.terms.specs.declared.Terms.{Terms}
use Rattle.terms.specs.Terms.{largest_odd, terms_for}
use Rattle.terms.proofs.TermsFor.{top-le-bottom, bottom-positive}
use Rattle.terms.specs.Allowed.{AtMostStandard}

-- products multiplied out and sorted: what is left is linear in them
ruleset expand = (mul-add, add-mul, suc-mul, mul_assoc, mul_comm, mul_left_comm)

abbrev pub top : ℕ → ℕ
top N = (terms_for N).top

abbrev pub bottom : ℕ → ℕ
bottom N = (terms_for N).bottom

-- K is 2 k + 1, and N is at most K + 1
terms-parts : (N : ℕ) → let k = (N - 1) / 2 in (N ≤ 2 * k + 2) × (top N ≡ 2 * (2 * k + 1)) × (bottom N ≡ 2 * (3 * k + 1))
unfolding terms_for largest_odd
terms-parts N = omega arith

-- s reaches the part top / bottom of β
abbrev pub Reaches : ℕ → ℕ → ℕ → Type 0
Reaches N β s = top N * β ≤ bottom N * s

-- s does not reach it
abbrev pub Short : ℕ → ℕ → ℕ → Type 0
Short N β s = bottom N * s < top N * β

pub reaches-mono : (N β : ℕ) {s t : ℕ} → s ≤ t → Reaches N β s → Reaches N β t
reaches-mono N β h r = le_trans r (mul-le-mul_left (bottom N) h)

pub short-mono : (N β : ℕ) {s t : ℕ} → s ≤ t → Short N β t → Short N β s
short-mono N β h r = lt_of_le_of_lt (mul-le-mul_left (bottom N) h) r

pub reaches-of-le : (N : ℕ) {β s : ℕ} → β ≤ s → Reaches N β s
reaches-of-le N h = mul-le-mul (top-le-bottom N) h

-- bottom × d > c × (bottom - top) × β
abbrev pub Lacks : ℕ → ℕ → ℕ → ℕ → Type 0
Lacks N β c d = c * (bottom N * β) < bottom N * d + c * (top N * β)

pub lacks-one : (N β a d : ℕ) → Short N β a → Lacks N β 1 (β - a + d)
lacks-one N β a d h =
    let reach : bottom N * β ≤ bottom N * (β - a + a) = mul-le-mul_left (bottom N) (omega arith) in
    simp expand (omega (arith, simp expand at reach))

pub lacks-two : (N β a b t d : ℕ) → Short N β a → Short N β b → Lacks N β (suc (t + t)) d → Lacks N β (suc (suc t + suc t)) (β - a + (β - b + d))
lacks-two N β a b t d h₁ h₂ r =
    let one = lacks-one N β a 0 h₁ in
    let two = lacks-one N β b 0 h₂ in
    simp expand (omega (arith, simp expand at one, simp expand at two, simp expand at r))

-- 2 t + 1 short members lack too much, where t < n and n + m ≤ N
pub not-lacks : (N β n m t e d : ℕ) → t < n → n + m ≤ N → t + e ≡ m → bottom N * (d + e * β) ≤ m * (top N * β) → Lacks N β (suc (t + t)) d → ⊥
not-lacks N β n m t e d h₁ h₂ h₃ h₄ h₅ =
    let (few, p, q) = terms-parts N in
    let t≤k : t ≤ (N - 1) / 2 = omega arith in
    omega (arith, simp (← h₃, p, q, expand) at h₄, simp (p, q, expand) at h₅, simp expand at (mul-le-mul_right β t≤k))

-- more than m absent members lack too much
pub not-absent : (N β m e d : ℕ) → 0 < β → m < e → bottom N * (d + e * β) ≤ m * (top N * β) → ⊥
not-absent N β m e d h₁ h₂ h₃ =
    let below = mul-le-mul_left m (mul-le-mul_right β (top-le-bottom N)) in
    let absent = mul-le-mul_right (bottom N * β) h₂ in
    omega (arith, mul-pos (bottom-positive N) h₁, simp expand at below, simp expand at absent, simp expand at h₃)

module _ (N : ℕ) (terms : Terms) (allowed : AtMostStandard N terms) where
  -- what reaches the part of document 01 reaches the part of allowed terms
  pub reaches-terms : (β s : ℕ) → Reaches N β s → terms.top * β ≤ terms.bottom * s
  reaches-terms β s h =
      let below = mul-le-mul_right β allowed.lower in
      let reach = mul-le-mul_left terms.bottom h in
      let scaled : bottom N * (terms.top * β) ≤ bottom N * (terms.bottom * s) = simp expand (omega (arith, simp expand at below, simp expand at reach)) in
      le_of_mul-le-mul_left scaled (bottom-positive N)

  -- what is at most m times the part of allowed terms is at most m times the part of document 01
  pub supply-terms : (v m β : ℕ) → terms.bottom * v ≤ m * (terms.top * β) → bottom N * v ≤ m * (top N * β)
  supply-terms v m β h =
      let below = mul-le-mul_right (m * β) allowed.lower in
      let supply = mul-le-mul_left (bottom N) h in
      let scaled : terms.bottom * (bottom N * v) ≤ terms.bottom * (m * (top N * β)) = simp expand (omega (arith, simp expand at below, simp expand at supply)) in
      le_of_mul-le-mul_left scaled allowed.positive
