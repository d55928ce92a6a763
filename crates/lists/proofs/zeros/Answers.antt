-- The proof of `zeros`: nothing is to be found where no code is 0.
use mathlib.Core.Path.{◌∙◌, sym}
use Rattle.lists.proofs.Zero.{none-zero}
use Rattle.lists.proofs.zeros.Goals as goal

pub returns-then-none_with : goal.returns-then-none_with
returns-then-none_with c =
    rw c.if-not-closed.false (none-zero c.args.codes.now (sym c.none_with.ensures ∙ c.if-none_with.true))
