-- The program's buffer has room for the line of every refusal, so that it is written whole. Assumes nothing.
use Prim.Native.Nat.{◌≤◌}
use native.Mathlib.Omega.{arith}
use Rattle.exact_printing.specs.Printing.{longest_exact}
use Rattle.reply.specs.Replies.{longest_refusal}

refusal-has-room : longest_refusal ≤ longest_exact
refusal-has-room = omega arith
