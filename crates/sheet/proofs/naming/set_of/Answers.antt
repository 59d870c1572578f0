use mathlib.Core.Path.{◌≡◌, sym, ◌∙◌}
use Prim.Native.Nat.{ℕ, ◌+◌, ◌-◌, ◌*◌, ◌%◌, ◌^◌, ◌≤◌, ◌<◌}
use native.Mathlib.Nat.{mod-eq_of_lt, pow-le-pow_right}
use native.Mathlib.Omega.{arith}
use Rattle.lists.specs.Lists.{elem}
use Rattle.sheet.specs.Limits.{set_bits}
use Rattle.sheet.specs.Sets.{set_among}
use Rattle.sheet.proofs.listing.Entries.{contains-elem}
use Rattle.sheet.proofs.sets.SetOf.{passed_more, passed_same, passed-small}
use Rattle.sheet.proofs.naming.set_of.Goals as goal
use Rattle.sheet.proofs.naming.set_of.Goals.{then-contains, else-contains}

-- the bit of a place below the last fits its type
shifted : (i : ℕ) → i < set_bits → (2 ^ i ≤ 2 ^ (set_bits - 1)) × (1 * 2 ^ i % 2 ^ set_bits ≡ 2 ^ i)
shifted i low =
    let below : i ≤ set_bits - 1 = omega arith in
    let p : 2 ^ i ≤ 2 ^ (set_bits - 1) = pow-le-pow_right {n = 2} (omega arith) below in
    let small : 1 * 2 ^ i < 2 ^ set_bits = omega arith in
    (p, omega (arith, mod-eq_of_lt small))

pub overflow_add-set : goal.overflow_add-set
overflow_add-set c =
    let l = c.loop-i in
    let small : l.set < 2 ^ l.i = rw l.invariant (passed-small (λ k. elem k c.args.numbers.now) l.i) in
    let s = shifted l.i (omega arith) in
    record { fits = omega arith }

pub loop-i-preserved : goal.loop-i-preserved
loop-i-preserved c =
    let l = c.loop-i in
    let ns = c.args.numbers.now in
    let told : c.contains.result ≡ elem (l.i + 1) ns = c.contains.ensures.value ∙ contains-elem (l.i + 1) ns in
    elim c.if-contains.branch [
      | then-contains w ↦ omega (arith, w.set-is, l.invariant, shifted l.i (omega arith), passed_more (λ k. elem k ns) l.i (sym told ∙ w.if-contains.true))
      | else-contains w ↦ w.set-is ∙ l.invariant ∙ sym (passed_same (λ k. elem k ns) l.i (sym told ∙ w.if-contains.false))
    ]

pub returns : goal.returns
unfolding set_among
returns c =
    let l = c.loop-i in
    let all : l.i ≡ set_bits = omega arith in
    rw all at l.invariant
