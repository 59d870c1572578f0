-- The program's buffer has room for the line of every refusal, so that it is written whole. Assumes nothing.
use Prim.Native.Nat.{◌≤◌}
use native.Mathlib.Omega.{arith}
use Rattle.sheet_to_judgement.specs.AcceptedText.{longest_accepted}
use Rattle.reply.specs.Replies.{longest_refusal}

refusal-has-room : longest_refusal ≤ longest_accepted
refusal-has-room = omega arith
