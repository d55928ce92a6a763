-- The proof of `give`: the usable codes of a few steps are no more than all codes of so many.
use Prim.Native.Nat.{◌≤◌}
use native.Mathlib.Nat.{le_trans}
use native.Mathlib.Omega.{arith}
use lib.Pow.{pow_mono}
use Rattle.yard.specs.Limits.{first_limits}
use Rattle.codes.proofs.Steps.{F-le}
use Rattle.derive.proofs.give.Goals as goal

pub give_by-requires : goal.give_by-requires
give_by-requires c =
    let pre = c.requires in
    let few : c.args.steps ≤ first_limits.steps = omega arith in
    let fits : 256 ≤ 8192 = omega arith in (
      record {
        tracks = pre.tracks;
        steps = pre.steps;
        room = le_trans (F-le c.args.night.tracks c.args.steps) (pow_mono few);
        below = pre.below;
      },
      fits,
    )
