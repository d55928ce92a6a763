-- The proof of `rows`: the table is filled from the block at hand on.
use mathlib.Core.Path.{◌≡◌, refl, ap, ◌∙◌}
use Prim.Native.Nat.{ℕ, suc, ◌-◌, ◌*◌, ◌^◌, ◌≤◌}
use native.Mathlib.Omega.{arith}
use lib.ListN.{get_or-replicate}
use Rattle.yard.specs.Limits.{first_limits}
use Rattle.choice.proofs.Table.{Filled, filled_none, filled_next, together-small, table-room}
use Rattle.choice.proofs.rows.Goals as goal

pub loop-b-init : goal.loop-b-init
loop-b-init c =
    let ch = c.requires.0 in
    (refl, refl, filled_none ch (λ d l. get_or-replicate (2 ^ first_limits.steps) d 0 0 (omega (arith, ch.numbers, ch.some, ch.enough))))

pub row-requires : goal.row-requires
row-requires c =
    let filled : Filled c.args.weights.now c.args.costs.now (suc (c.loop-b.b - 1)) c.loop-b.behind c.loop-b.picks = let one : c.loop-b.b ≡ suc (c.loop-b.b - 1) = omega arith in
    rw one at c.loop-b.invariant.2 in
    let ch = c.requires.0 in
    let here = filled in
    let b = c.loop-b.b - 1 in
    let near = here.upto in
    let wide = c.requires.1 in
    let few : c.args.width ≤ 2 ^ first_limits.steps = omega (arith, ch.some, ch.enough, ch.numbers) in (
      near,
      omega (arith, ch.enough),
      few,
      omega arith,
      omega (arith, table-room ch b near, ap (λ (n : ℕ). b * n) wide),
      λ d l. together-small ch b near here d (omega arith),
    )

pub loop-b-preserved : goal.loop-b-preserved
loop-b-preserved c =
    let filled : Filled c.args.weights.now c.args.costs.now (suc (c.loop-b.b - 1)) c.loop-b.behind c.loop-b.picks = let one : c.loop-b.b ≡ suc (c.loop-b.b - 1) = omega arith in
    rw one at c.loop-b.invariant.2 in
    let here = filled in (
      c.row.auto.picks ∙ c.loop-b.invariant.0,
      c.row.auto.behind ∙ c.loop-b.invariant.1,
      filled_next c.requires.0 (c.loop-b.b - 1) here.upto here c.requires.1 c.row.ensures,
    )
