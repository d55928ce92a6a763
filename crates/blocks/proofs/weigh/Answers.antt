-- The proof of `weigh`: the cars passed are counted.
use mathlib.Core.Path.{◌∙◌}
use native.Mathlib.Omega.{arith}
use lib.ListN.{length, length-set}
use Rattle.blocks.proofs.Weights.{weighed-few, weighed-next}
use Rattle.blocks.proofs.weigh.Goals as goal

pub overflow_add-weights : goal.overflow_add-weights
overflow_add-weights c =
    let args = c.args in
    let i = c.loop-block.block-index in
    let fits = c.requires.1 i c.loop-block-test.true in
    omega (
      arith,
      c.from.ensures,
      weighed-few (length args.weights.now) args.numbers.now c.loop-block.weights i c.loop-block-test.true c.loop-block.invariant.1
          c.from.result (omega (arith, c.from.ensures, fits)),
      c.requires.0,
    )

pub loop-block-preserved : goal.loop-block-preserved
loop-block-preserved c =
    let args = c.args in
    let held = c.loop-block.invariant in
    let i = c.loop-block.block-index in
    let fits = c.requires.1 i c.loop-block-test.true in (
      length-set c.loop-block.weights c.from.result _ ∙ held.0,
      rw c.from.ensures (weighed-next (length args.weights.now) args.numbers.now c.loop-block.weights i c.loop-block-test.true held.1
          fits (omega (arith, held.0))),
    )
