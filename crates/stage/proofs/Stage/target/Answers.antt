-- The proof of `Stage::target`: the destination, or the track of the next step.
use native.Mathlib.Omega.{arith}
use Rattle.yard.proofs.yards.Replay.{next_step-le}
use Rattle.stage.proofs.Stage.target.Goals as goal

pub offset_bounds-self-next : goal.offset_bounds-self-next
offset_bounds-self-next c =
    let at = c.args.self in
    omega (arith, next_step-le at.steps c.args.code at.stage at.within, at.few)

pub bounds-self-next : goal.bounds-self-next
bounds-self-next c =
    let at = c.args.self in
    omega (arith, next_step-le at.steps c.args.code at.stage at.within, at.room)
