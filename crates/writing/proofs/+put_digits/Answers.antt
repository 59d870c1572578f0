use Prim.Native.Nat.{◌/◌, ◌%◌, ◌≤◌}
use native.Mathlib.Omega.{arith}
use mathlib.Core.Path.{sym, ap, ◌∙◌}
use mathlib.Core.List.{[], ◌∷◌, foldl-append}
use Rattle.text.specs.Decimal.{digit, decimal}
use Rattle.text.proofs.Decimal.{decimal_digit, decimal-last}
use Rattle.writing.specs.Output.{output, with_byte, with_bytes}
use Rattle.writing.proofs.+put_digits.Goals as goal

pub returns-then-n-lt10 : goal.returns-then-n-lt10
returns-then-n-lt10 t c = rw (decimal_digit c.args.n c.if-n-lt10.true) c.put_byte.ensures

pub returns : goal.returns
returns t c =
    let n = c.args.n in
    let old = output c.args.buffer.now c.args.at in
    let ten : 10 ≤ n = omega arith in
    c.put_byte-2.ensures
    ∙ ap (λ o. with_byte o (digit (n % 10))) c.put_digits-last.ensures
    ∙ sym (ap (with_bytes old) (decimal-last n ten) ∙ foldl-append with_byte old (decimal (n / 10)) (digit (n % 10) ∷ []))
