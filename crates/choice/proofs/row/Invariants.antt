-- The proof of `row`: the row is written from the choice at hand on, and what stands before it is as it was.
use Prim.Native.Nat.{◌*◌}
use Rattle.choice.specs.Rows.{together}
use Rattle.choice.proofs.Table.{Rowed}
use Rattle.choice.proofs.row.Given as goal

abbrev pub invariant-loop-d : goal.invariant-loop-d
invariant-loop-d l =
    Rowed (together l.weights l.costs l.b l.initial.behind) l.width l.d (l.b * l.width) l.initial.behind l.initial.picks l.least l.pick l.behind l.picks

abbrev pub decreases-loop-d : goal.decreases-loop-d
decreases-loop-d l = l.d
