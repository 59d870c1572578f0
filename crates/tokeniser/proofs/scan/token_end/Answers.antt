use Prim.Native.Nat.{ℕ}
use native.Mathlib.Omega.{arith}
use lib.ListN.{length-drop}
use Rattle.std.proofs.lemmas.List.Sums.{prefix_len-le-length}
use Rattle.tokens.specs.Tokens.{is_word_byte}
use Rattle.tokeniser.proofs.scan.token_end.Goals as goal

pub overflow_add-result-else-is_delimiter-2 : goal.overflow_add-result-else-is_delimiter-2
overflow_add-result-else-is_delimiter-2 c = omega (arith, prefix_len-le-length is_word_byte, length-drop {A = ℕ})
