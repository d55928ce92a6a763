-- The proof of `places_among`: the cars passed have their place, and the counts are those of the cars passed.
use Rattle.stage.proofs.Standing.{StoodTo}
use Rattle.stage.proofs.places_among.Given as goal

abbrev pub invariant-loop-car : goal.invariant-loop-car
invariant-loop-car g l = StoodTo l.order l.on g.row.N l.initial.at l.car-index l.at l.standing
