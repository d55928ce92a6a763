-- A refusal is told with a number of its own, and 0 is none of them.
use mathlib.Core.Path.{◌≡◌}
use native.Mathlib.Nat.{suc-ne-zero}
use Rattle.yard.specs.declared.refusal.Refusal.{Refusal}
use Rattle.yard.specs.declared.refusal.Refusal.TheVariants as refusal
use Rattle.yard.specs.Refusals.{refused}

pub refused-not_done : (e : Refusal) → (refused e).number ≡ 0 → ⊥
refused-not_done (refusal.CountOutOfRange name) = suc-ne-zero 0
refused-not_done (refusal.EmptyTrain train) = suc-ne-zero 1
refused-not_done refusal.LengthsNotAdding = suc-ne-zero 1
refused-not_done (refusal.InboundWrong place listed) = suc-ne-zero 2
refused-not_done (refusal.ListOrBufferWrong name) = suc-ne-zero 3
refused-not_done (refusal.LimitTooLow steps) = suc-ne-zero 4
refused-not_done (refusal.TrackOverfilled step cars) = suc-ne-zero 5
refused-not_done (refusal.CodeTooLarge car) = suc-ne-zero 6
refused-not_done (refusal.CarPulledEarly car step) = suc-ne-zero 7
refused-not_done (refusal.TrainsOutOfOrder car) = suc-ne-zero 8
refused-not_done (refusal.CardTooShort bytes) = suc-ne-zero 9
refused-not_done (refusal.CardEdition edition) = suc-ne-zero 10
refused-not_done (refusal.CardEndWrong bytes) = suc-ne-zero 11
refused-not_done (refusal.TimingNotAllowed name) = suc-ne-zero 12
refused-not_done (refusal.ZeroCode car) = suc-ne-zero 13
refused-not_done refusal.WrongEdition = suc-ne-zero 16
