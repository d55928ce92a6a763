-- The proof of `fewest_steps`: what is left of the search finds what the whole search finds.
use mathlib.Core.Path.{◌≡◌}
use Prim.Native.Nat.{◌-◌, ◌≤◌}
use Rattle.yard.specs.Words.{first}
use Rattle.yard.specs.Codes.{fewest_steps}
use Rattle.codes.proofs.Steps.{enough}
use Rattle.codes.proofs.fewest_steps.Given as goal

abbrev pub invariant-loop-usable : goal.invariant-loop-usable
invariant-loop-usable l =
    (l.usable.steps ≤ l.breaks)
    × (l.usable.tracks ≡ l.tracks)
    × (first (enough l.tracks l.breaks) (l.breaks - l.usable.steps) l.usable.steps ≡ fewest_steps l.tracks l.breaks)

abbrev pub decreases-loop-usable : goal.decreases-loop-usable
decreases-loop-usable l = l.breaks - l.usable.steps
