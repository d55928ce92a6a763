-- The proof of `codes`: nothing is to be found where the largest code is not too large.
use Rattle.std.proofs.Common.{arith}
use Rattle.lists.proofs.Wide.{none-wide}
use Rattle.lists.proofs.codes.Goals as goal

pub returns-then-from-bound : goal.returns-then-from-bound
returns-then-from-bound c =
    none-wide c.args.steps c.args.codes.now (omega (arith, c.if-from-bound.true, c.from.ensures, c.largest.ensures, c.power-bound.ensures))
