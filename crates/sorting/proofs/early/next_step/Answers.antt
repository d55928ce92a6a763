-- The proof of `next_step`: the zeros below the lowest set bit are counted.
use native.Mathlib.Omega.{arith}
use Rattle.sorting.proofs.NextStep.{next-zeros}
use Rattle.sorting.proofs.early.next_step.Goals as goal

pub returns : goal.returns
returns c =
    let args = c.args in
    omega (arith, next-zeros 16 args.steps args.code args.step c.requires.0 (omega (arith, c.requires.1)))
