-- The proof of `row`: the row is written from the choice at hand on, and what stands before it is as it was.
use mathlib.Core.Path.{◌≡◌}
use Prim.Native.Nat.{ℕ, suc, ◌-◌, ◌*◌, ◌≤◌, ◌<◌}
use native.Mathlib.Omega.{arith}
use Rattle.choice.specs.Rows.{together}
use Rattle.choice.proofs.FirstLeast.{held-here, held-later}
use Rattle.choice.proofs.Table.{Rowed, rowed-next}
use Rattle.choice.proofs.row.Goals as goal
use Rattle.choice.proofs.row.Goals.{then-cost-least, else-cost-least}

pub loop-d-preserved : goal.loop-d-preserved
loop-d-preserved c =
    let cost : ℕ → ℕ = together c.args.weights.now c.args.costs.now c.args.b c.args.behind.now in
    let fits : cost (c.loop-d.d - 1) ≤ 65535 = c.requires.5 (c.loop-d.d - 1) (omega (arith, c.loop-d.invariant.upto)) in
    let at = c.loop-d in
    let d = at.d - 1 in
    let one : at.d ≡ suc d = omega arith in
    let so_far : Rowed cost c.args.width (suc d) (c.args.b * c.args.width) c.args.behind.now c.args.picks.now at.least at.pick
    at.behind at.picks = rw one at at.invariant in
    let near : d < c.args.width = omega (arith, so_far.upto) in
    let here = so_far.ahead d (omega arith) in
    rowed-next near (omega arith) (omega arith)
    (elim c.if-cost-least.branch [
      | then-cost-least w ↦ rw (w.least-is, w.pick-is, here) (held-here cost c.args.width d near so_far.held (omega (arith, w.if-cost-least.true)))
      | else-cost-least w ↦ rw (w.least-is, w.pick-is) (held-later cost c.args.width d near so_far.held fits (omega (arith, w.if-cost-least.false)))
    ])
    so_far
