-- The proof of `CardPen::puts`: the numbers passed have been drawn.
use mathlib.Core.Path.{◌≡◌}
use native.Mathlib.Nat.{suc-mul, mul-le-mul_right}
use native.Mathlib.Numerals.{add-one}
use native.Mathlib.Omega.{arith}
use lib.ListN.{length}
use lib.Seq.{take-length}
use Rattle.bits.proofs.Drawing.{run-next, draws-none, draws-then}
use Rattle.bits.proofs.pens.CardPen.puts.Goals as goal

pub loop-x-init : goal.loop-x-init
loop-x-init c = record { drawn = draws-none c.args.self.now; reached = omega arith }

pub put-requires : goal.put-requires
put-requires c =
    (c.requires.0, omega (arith, c.loop-x.invariant.reached, suc-mul c.loop-x.x-index c.args.width, mul-le-mul_right c.args.width c.loop-x-test.true))

pub loop-x-preserved : goal.loop-x-preserved
loop-x-preserved c =
    let i = c.loop-x.x-index in
    record {
      drawn = rw (add-one, run-next c.args.xs.now c.args.width i c.loop-x-test.true)
          (draws-then c.loop-x.invariant.drawn (rw c.from.ensures at c.put.ensures.drawn));
      reached = rw add-one (omega (arith, c.loop-x.invariant.reached, c.put.ensures.reached, suc-mul i c.args.width));
    }

pub returns-clause-drawn : goal.returns-clause-drawn
returns-clause-drawn c =
    let whole : c.loop-x.x-index ≡ length c.args.xs.now = omega arith in
    rw (whole, take-length) at c.loop-x.invariant.drawn
