-- The proof of `train`: the cars passed stand behind the label.
use Prim.Native.Nat.{◌-◌}
use Rattle.yard.specs.Words.{up_from}
use Rattle.lines.specs.Text.{Grows}
use Rattle.lines.specs.Lines.{car_list}
use Rattle.lines.proofs.train.Given as goal

abbrev pub invariant-loop-car : goal.invariant-loop-car
invariant-loop-car l = Grows (car_list (up_from l.first (l.car - l.first))) l.initial.text l.text
