-- The program's buffer has room for the line of every refusal, so that it is written whole. Assumes nothing.
use Prim.Native.Nat.{◌≤◌}
use native.Mathlib.Omega.{arith}
use Rattle.strict_text.specs.StrictText.{longest_strict}
use Rattle.reply.specs.Replies.{longest_refusal}

refusal-has-room : longest_refusal ≤ longest_strict
refusal-has-room = omega arith
