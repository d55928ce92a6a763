-- The proof of `first_early`: what is left of the search over steps, then cars, finds what the whole finds.
use mathlib.Core.Path.{◌≡◌}
use Rattle.std.specs.Prelude.{None}
use Rattle.sorting.proofs.EarlyLeft.{StepsLeft, CarsLeft}
use Rattle.sorting.proofs.early.first_early.Given as goal

abbrev pub invariant-loop-i : goal.invariant-loop-i
invariant-loop-i l = (l.found ≡ None) × CarsLeft l.tracks l.steps l.codes l.step l.i

abbrev pub invariant-search : goal.invariant-search
invariant-search l = (l.found ≡ None) × StepsLeft l.tracks l.steps l.codes l.step
