-- The proof of `train`: the cars passed stand behind the label.
use mathlib.Core.Path.{◌≡◌, ap}
use Prim.Native.Nat.{◌-◌}
use native.Mathlib.Omega.{arith}
use Rattle.yard.specs.Words.{up_from}
use Rattle.lines.specs.Lines.{car_list, train_line}
use Rattle.lines.proofs.Adding.{grows_none, grows_then, grows_same}
use Rattle.lines.proofs.Listing.{grows-car}
use Rattle.lines.proofs.train.Goals as goal

pub loop-car-init : goal.loop-car-init
loop-car-init c =
    let first = c.args.first in
    let none : 0 ≡ first - first = omega arith in
    grows_same (ap (λ n. car_list (up_from first n)) none) (grows_none c.bytes.new.self)

pub loop-car-preserved : goal.loop-car-preserved
loop-car-preserved c = grows-car c.args.first c.loop-car.car (omega arith) c.loop-car.invariant c.labelled-in-loop-car.ensures

pub returns : goal.returns
unfolding train_line
returns c =
    let first = c.args.first in
    let all : c.loop-car.car - first ≡ c.args.count = omega arith in
    let cars = grows_same (ap (λ n. car_list (up_from first n)) all) c.loop-car.invariant in
    grows_then c.labelled.ensures (grows_then c.bytes.ensures (grows_then cars c.bytes-2.ensures))
