-- The proof of `rows`: the table is filled from the block at hand on.
use mathlib.Core.Path.{◌≡◌}
use Prim.Native.Nat.{◌^◌}
use lib.ListN.{length}
use Rattle.yard.specs.Limits.{first_limits}
use Rattle.choice.proofs.Table.{Filled}
use Rattle.choice.proofs.rows.Given as goal

abbrev pub invariant-loop-b : goal.invariant-loop-b
invariant-loop-b l =
    (length l.picks ≡ length l.initial.picks) × (length l.behind ≡ 2 ^ first_limits.steps) × Filled l.weights l.costs l.b l.behind l.picks

abbrev pub decreases-loop-b : goal.decreases-loop-b
decreases-loop-b l = l.b
