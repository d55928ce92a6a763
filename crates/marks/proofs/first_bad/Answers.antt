-- The proof of `first_bad`: there are marks enough.
use Prim.Native.Nat.{◌/◌}
use Rattle.yard.specs.Limits.{limits}
use Rattle.marks.proofs.Marks.{nothing-sought}
use Rattle.marks.proofs.first_bad.Goals as goal

pub first_place-requires-clause-sought : goal.first_place-requires-clause-sought
first_place-requires-clause-sought c = nothing-sought c.args.inbound.now 1 c.if-inbound-le64.true

pub first_place-requires-then-all_inside-clause-sought : goal.first_place-requires-then-all_inside-clause-sought
first_place-requires-then-all_inside-clause-sought c = nothing-sought c.args.inbound.now (limits.cars / 64) c.requires

pub first_place-requires-2-clause-sought : goal.first_place-requires-2-clause-sought
first_place-requires-2-clause-sought c = nothing-sought c.args.inbound.now (limits.cars / 64) c.requires
