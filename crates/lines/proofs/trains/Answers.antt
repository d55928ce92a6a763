-- The proof of `trains`: the lines of the trains passed stand behind the text.
use mathlib.Core.Path.{◌≡◌, ap}
use native.Mathlib.Omega.{arith}
use lib.ListN.{length}
use Rattle.yard.specs.Night.{cars_of}
use Rattle.yard.proofs.yards.Trains.{train-end}
use Rattle.lines.specs.Lines.{train_line, each_to}
use Rattle.lines.proofs.Adding.{grows_none, grows_same}
use Rattle.lines.proofs.Listing.{grows-train, next-first}
use Rattle.lines.proofs.trains.Goals as goal

pub loop-i-init : goal.loop-i-init
loop-i-init c = (omega arith, grows_none c.args.text.now)

pub train-requires : goal.train-requires
train-requires c =
    omega (arith, c.requires, c.from-count.ensures, c.loop-i.invariant.0, train-end c.args.lengths.now c.loop-i.i (omega arith))

pub overflow_add-first : goal.overflow_add-first
overflow_add-first c =
    omega (arith, c.requires, c.from-count.ensures, c.loop-i.invariant.0, train-end c.args.lengths.now c.loop-i.i (omega arith))

pub loop-i-preserved : goal.loop-i-preserved
loop-i-preserved c =
    let lengths = c.args.lengths.now in
    let i = c.loop-i.i in
    let inv = c.loop-i.invariant in (
      omega (arith, inv.0, c.from-count.ensures, next-first lengths i (omega arith)),
      grows-train lengths i c.loop-i.first c.from-count.result inv.0 c.from-count.ensures inv.1 c.train.ensures,
    )

pub returns : goal.returns
returns c =
    let lengths = c.args.lengths.now in
    let all : c.loop-i.i ≡ length lengths = omega arith in
    grows_same (ap (each_to (λ t. train_line t (cars_of lengths t))) all) c.loop-i.invariant.1
