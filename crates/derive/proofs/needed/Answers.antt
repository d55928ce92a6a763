-- The proof of `needed`: there are fewer breaks than cars, so one more is still within the limits.
use Prim.Native.Nat.{◌+◌, ◌≤◌}
use native.Mathlib.Omega.{arith}
use mathlib.Core.Path.{◌∙◌}
use Rattle.yard.specs.Limits.{limits}
use Rattle.scan.proofs.Running.{byte-tally}
use Rattle.yard.proofs.general.Lists.{tally-small}
use Rattle.derive.proofs.Coded.{needs-all}
use Rattle.derive.proofs.needed.Goals as goal

pub returns : goal.returns
returns c =
    let night = c.args.night in
    let within : c.numbers-most.result + c.from.result ≤ limits.cars = omega (
      arith,
      c.numbers-most.ensures.few,
      c.from.ensures,
      tally-small night.closed,
      c.requires.cars.0,
      c.requires.cars.1,
    ) in
    needs-all night.lengths.now night.inbound.now night.closed night.tracks c.numbers-most.ensures (c.from.ensures ∙ byte-tally night.closed) within c.fewest_steps.ensures
