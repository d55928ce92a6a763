-- The proof of `fewest_steps`: the codes are F of the steps taken, and what is left of the search finds what the whole search finds.
use mathlib.Core.Path.{sym, ap, ◌∙◌}
use Prim.Native.Nat.{ℕ, suc, ◌<◌}
use native.Mathlib.Nat.{sub-zero}
use native.Mathlib.Omega.{arith}
use borrow.Author.Tests.{lt-leb}
use Rattle.yard.specs.Words.{first}
use Rattle.yard.specs.Codes.{F, fewest_steps}
use Rattle.yard.proofs.general.First.{first_goes}
use Rattle.yard.proofs.yards.Counting.{F-above}
use Rattle.codes.proofs.Steps.{enough, fewest-found}
use Rattle.codes.proofs.fewest_steps.Goals as goal

pub loop-usable-init : goal.loop-usable-init
unfolding fewest_steps
loop-usable-init c = (
  omega (arith, c.new-usable.ensures.1),
  c.new-usable.ensures.0,
  rw c.new-usable.ensures.1 (ap (λ (n : ℕ). first (enough c.args.tracks c.args.breaks) n 0) (sub-zero c.args.breaks)),
)

pub loop-usable-smaller : goal.loop-usable-smaller
loop-usable-smaller c =
    let u = c.loop-usable.usable in
    omega (arith, c.step.ensures.2, u.counted, F-above u.tracks u.steps u.some)

pub loop-usable-preserved : goal.loop-usable-preserved
loop-usable-preserved c =
    let u = c.loop-usable.usable in
    let held = c.loop-usable.invariant in
    let before : u.steps < c.args.breaks = omega (arith, u.counted, F-above u.tracks u.steps u.some) in
    let counted = ap (λ (W : ℕ). F W u.steps) held.1 in (
      omega (arith, c.step.ensures.2),
      c.step.ensures.1 ∙ held.1,
      rw c.step.ensures.2
          (sym (first_goes (enough c.args.tracks c.args.breaks) c.args.breaks u.steps u.steps before
          (lt-leb (suc c.args.breaks) (F c.args.tracks u.steps) (omega (arith, counted, u.counted)))) ∙ held.2),
    )

pub returns : goal.returns
returns c =
    let u = c.loop-usable.usable in
    let counted = ap (λ (W : ℕ). F W u.steps) c.loop-usable.invariant.1 in
    fewest-found c.args.tracks c.args.breaks u.steps c.loop-usable.invariant.0 (omega (arith, counted, u.counted)) c.loop-usable.invariant.2
