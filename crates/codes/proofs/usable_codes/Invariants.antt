-- The proof of `usable_codes`: the usable codes of the steps passed stand at the front.
use mathlib.Core.Path.{◌≡◌}
use Rattle.yard.specs.Codes.{usable_codes}
use Rattle.scan.specs.Front.{Front}
use Rattle.codes.proofs.usable_codes.Given as goal

abbrev pub invariant-loop-step : goal.invariant-loop-step
invariant-loop-step l =
    (l.usable.tracks ≡ l.tracks)
    × (l.usable.steps ≡ l.step)
    × Front (usable_codes l.tracks l.step) l.initial.into l.usable.codes l.into
