-- The proof of `find`: the table that is handed on has the allowed codes.
use mathlib.Core.Path.{subst, sym}
use mathlib.Core.List.{List}
use Prim.Native.Nat.{ℕ, ◌^◌, ◌≤◌}
use native.Mathlib.Omega.{arith}
use lib.Pow.{pow_mono}
use lib.ListN.{length}
use Rattle.yard.specs.Limits.{first_limits}
use Rattle.yard.proofs.calls.Larger.{within_more}
use Rattle.scan.specs.Front.{Under}
use Rattle.codes.proofs.Steps.{F-le}
use Rattle.blocks.specs.Trains.{AllBlocked}
use Rattle.blocks.proofs.Coding.{allowed-few, allowed-under}
use Rattle.blocks.proofs.find.Goals as goal

pub lend_allowed-allowed-requires : goal.lend_allowed-allowed-requires
lend_allowed-allowed-requires c =
    let pre = c.requires in (
      within_more (omega arith) pre.0,
      omega (arith, pre.1),
      omega (arith, F-le c.args.night.tracks c.args.steps, pow_mono pre.1),
    )

pub give-requires : goal.give-requires
give-requires c =
    let n = c.args.night in
    let pre = c.requires in
    subst
    (λ (l : List ℕ). (length l ≤ 2 ^ first_limits.steps) × Under (2 ^ first_limits.steps) l × AllBlocked n.lengths.now (length l) c.args.numbers.now)
    (sym c.lend_allowed-allowed.ensures) (
      allowed-few n.closed n.tracks c.args.steps pre.0.0 pre.1,
      allowed-under n.closed n.tracks c.args.steps pre.1,
      pre.2,
    )
