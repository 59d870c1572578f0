use mathlib.Core.Path.{sym}
use Rattle.sheet_to_exact.proofs.Showing.{printed-shown}
use Rattle.sheet_to_exact.proofs.show_exact.Goals as goal

pub returns : goal.returns
returns c = printed-shown c.args.text.now _ (sym c.in_ok-contents.ensures) c.print_exact.ensures
