-- The proof of `trains`: the lines of the trains passed stand behind the text.
use Prim.Native.Nat.{suc}
use mathlib.Core.Path.{◌≡◌}
use lib.ListN.{take}
use Rattle.yard.specs.Night.{sum, cars_of}
use Rattle.lines.specs.Text.{Grows}
use Rattle.lines.specs.Lines.{train_line, each_to}
use Rattle.lines.proofs.trains.Given as goal

abbrev pub invariant-loop-i : goal.invariant-loop-i
invariant-loop-i l =
    (l.first ≡ suc (sum (take l.i l.lengths))) × Grows (each_to (λ t. train_line t (cars_of l.lengths t)) l.i) l.initial.text l.text
