-- The proof of `train`: the cars passed have the breaks before them.
use Rattle.breaks.specs.Numbers.{Train}
use Rattle.breaks.proofs.train.Given as goal

abbrev pub invariant-loop-car : goal.invariant-loop-car
invariant-loop-car l = Train l.places l.fn.cars.start l.car l.initial.into l.breaks l.into
