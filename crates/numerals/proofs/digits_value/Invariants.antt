-- The loop's invariant: the digits from this one on, after those of `n`, are the number, and `n` has at most as many digits as were read.
use mathlib.Core.Path.{◌≡◌}
use mathlib.Core.Bool.{true}
use Prim.Native.Nat.{◌<◌, ◌^◌}
use lib.ListN.{drop}
use Rattle.numerals.specs.Numerals.{all_digits, digits_after}
use Rattle.numerals.proofs.digits_value.Given as goal

abbrev pub invariant-loop-b : goal.invariant-loop-b
invariant-loop-b l = (l.n < 10 ^ l.b-index) × (all_digits (drop l.b-index l.w) ≡ true) × (digits_after 0 l.w ≡ digits_after l.n (drop l.b-index l.w))
