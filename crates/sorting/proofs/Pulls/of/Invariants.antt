-- The proof of `Pulls::of`: the largest so far is the largest of the steps passed.
use mathlib.Core.Path.{◌≡◌}
use Rattle.sorting.specs.Sums.{fullest_of}
use Rattle.sorting.proofs.Pulls.of.Given as goal

abbrev pub invariant-loop-step : goal.invariant-loop-step
invariant-loop-step l = l.fullest ≡ fullest_of l.codes l.step
