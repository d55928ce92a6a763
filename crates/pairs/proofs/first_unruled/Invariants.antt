-- The proof of `first_unruled`: of the trains passed no pair breaks the rule.
use Rattle.trains.proofs.Walk.{reached}
use Rattle.pairs.proofs.Pairs.{Passed}
use Rattle.pairs.proofs.first_unruled.Given as goal

abbrev pub invariant-loop-train : goal.invariant-loop-train
invariant-loop-train l =
    (goal.iterator-loop-train).can_next l.train-iterator
    × (goal.iterator-loop-train).is_finite l.train-iterator
    × Passed l.lengths l.places l.codes (reached l.lengths l.yielded)
