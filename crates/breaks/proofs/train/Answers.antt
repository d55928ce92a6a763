-- The proof of `train`: the cars passed have the breaks before them.
use mathlib.Core.Path.{ap, ◌∙◌}
use Prim.Native.Nat.{ℕ, ◌+◌}
use native.Mathlib.Omega.{arith}
use lib.ListN.{set, length-set}
use Rattle.yard.specs.Words.{tally}
use Rattle.scan.proofs.Running.{byte-tally}
use Rattle.breaks.proofs.ByCar.{train-next}
use Rattle.breaks.proofs.train.Goals as goal

pub loop-car-preserved : goal.loop-car-preserved
loop-car-preserved c =
    let args = c.args in
    let more = ap (λ (x : ℕ). c.loop-car.breaks + x) (c.from-breaks.ensures ∙ (byte-tally c.turned.result ∙ ap tally c.turned.ensures)) in
    train-next args.places.now args.cars.start (set args.into.now args.cars.start 0) more (omega (arith, c.loop-car.auto.into, length-set args.into.now args.cars.start 0)) c.loop-car.invariant
