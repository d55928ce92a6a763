-- The proof of `places`: the cars passed have their place, and the rest stays.
use native.Mathlib.Omega.{arith}
use Rattle.trains.proofs.Filling.{item-within, placed_next, placed_all}
use Rattle.trains.proofs.places.Goals as goal

pub overflow_sub-into : goal.overflow_sub-into
overflow_sub-into c = omega (arith, c.from.ensures, item-within c.args.inbound.now c.requires.2 c.loop-i.i c.loop-i-test.true)

pub bounds-into-from : goal.bounds-into-from
bounds-into-from c =
    omega (arith, c.from.ensures, item-within c.args.inbound.now c.requires.2 c.loop-i.i c.loop-i-test.true, c.loop-i.invariant.size)

pub loop-i-preserved : goal.loop-i-preserved
loop-i-preserved c =
    rw c.from.ensures (placed_next c.args.inbound.now c.requires.2 c.requires.0 c.loop-i-test.true c.loop-i.invariant)

pub returns : goal.returns
returns c = placed_all c.args.inbound.now c.requires.2 c.requires.0 c.loop-i-test.false c.loop-i.invariant
