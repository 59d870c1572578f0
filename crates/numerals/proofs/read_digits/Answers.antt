use mathlib.Core.Path.{sym}
use native.Mathlib.Omega.{arith}
use Rattle.numerals.proofs.Digits.{number-parts}
use Rattle.numerals.proofs.read_digits.Goals as goal

pub digits_value-requires : goal.digits_value-requires
digits_value-requires c =
    let parts = number-parts _ _ (sym c.if-is_number.ensures) in
    record { w_len_bound = omega arith; w_value = parts.1 }
