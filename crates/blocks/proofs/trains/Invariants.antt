-- The proof of `trains`: the trains passed have their numbers, and the rest stays.
use mathlib.Core.Path.{◌≡◌}
use lib.ListN.{length}
use Rattle.choice.specs.Choice.{picks_most}
use Rattle.trains.proofs.Walk.{reached}
use Rattle.blocks.proofs.ByTrain.{ChosenTo}
use Rattle.blocks.proofs.trains.Given as goal

abbrev pub invariant-loop-cars : goal.invariant-loop-cars
invariant-loop-cars l =
    goal.iterator-loop-cars.can_next l.cars-iterator
    × goal.iterator-loop-cars.is_finite l.cars-iterator
    × (length l.picks ≡ picks_most)
    × ChosenTo l.lengths l.costs l.initial.numbers (length l.yielded) (reached l.lengths l.yielded) l.numbers
