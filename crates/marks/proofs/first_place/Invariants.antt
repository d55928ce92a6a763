-- The proof of `first_place`: none of the places looked at so far is bad, and each look says that of one more.
use Prim.Native.Nat.{◌-◌, ◌≤◌}
use lib.ListN.{length}
use Rattle.marks.specs.Marks.{Sought}
use Rattle.marks.proofs.first_place.Given as goal

abbrev pub invariant-loop-i : goal.invariant-loop-i
invariant-loop-i g l = record { within : l.i ≤ length l.inbound; sought : Sought l.inbound l.marks l.i }

abbrev pub decreases-loop-i : goal.decreases-loop-i
decreases-loop-i g l = length l.inbound - l.i
