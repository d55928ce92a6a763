-- The proof of `numbers_with`: the trains passed are counted.
use lib.ListN.{length}
use Rattle.trains.proofs.Walk.{reached}
use Rattle.breaks.proofs.ByCar.{Counted}
use Rattle.breaks.proofs.numbers_with.Given as goal

abbrev pub invariant-loop-cars : goal.invariant-loop-cars
invariant-loop-cars g l =
    (goal.iterator-loop-cars g).can_next l.cars-iterator
    × (goal.iterator-loop-cars g).is_finite l.cars-iterator
    × Counted l.lengths l.inbound (length l.yielded) l.most (reached l.lengths l.yielded) l.into
