-- The proof of `places`: the cars passed have their place, and the rest stays.
use Rattle.trains.proofs.Filling.{Placed}
use Rattle.trains.proofs.places.Given as goal

abbrev pub invariant-loop-i : goal.invariant-loop-i
invariant-loop-i l = Placed l.inbound l.i l.initial.into l.into
