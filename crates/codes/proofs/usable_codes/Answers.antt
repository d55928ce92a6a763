-- The proof of `usable_codes`: the usable codes of the steps passed stand at the front.
use mathlib.Core.Path.{◌≡◌, sym, ap, ap₂, ◌∙◌}
use Prim.Native.Nat.{ℕ, suc, ◌+◌, ◌-◌, ◌*◌, ◌%◌, ◌^◌, ◌≤◌, ◌<◌}
use native.Mathlib.Nat.{two-pow-succ}
use native.Mathlib.Omega.{arith}
use lib.ListN.{length-set}
use lib.Pow.{pow_mono}
use Rattle.yard.specs.Limits.{limits}
use Rattle.yard.specs.Codes.{F}
use Rattle.yard.proofs.yards.Counting.{F-above, F-more}
use Rattle.codes.specs.Ring.{lost}
use Rattle.codes.proofs.Steps.{F-next, F-le}
use Rattle.codes.proofs.Doubling.{written_none, written_all, written-number, written_small, written_next}
use Rattle.codes.proofs.usable_codes.Goals as goal

-- the bit of a step fits, and so do two of it
bit-fits : (h : ℕ) → h < limits.steps → (1 * 2 ^ h % 2 ^ 16 ≡ 2 ^ h) × (2 ^ h + 2 ^ h ≤ 2 ^ 16)
bit-fits h few = (omega (arith, two-pow-succ h, pow_mono few), omega (arith, two-pow-succ h, pow_mono few))

pub bounds-into-0 : goal.bounds-into-0
bounds-into-0 c = omega (arith, F-above c.args.tracks c.args.steps c.requires.0.0)

pub loop-step-init : goal.loop-step-init
loop-step-init c =
    let new = c.new-usable in
    let one : new.result.codes ≡ 1 = new.result.counted ∙ ap (F new.result.tracks) new.ensures.1 in (
      new.ensures.0,
      new.ensures.1,
      rw one
          (written_none c.args.tracks c.requires.0.0 c.args.into.now (omega (arith, F-above c.args.tracks c.args.steps c.requires.0.0))),
    )

pub step-but-requires : goal.step-but-requires
step-but-requires c =
    let W = c.args.tracks in
    let h = c.loop-step.step in
    let few : h ≤ limits.steps = omega arith in
    omega (arith, written-number W h c.requires.0.0 c.loop-step.invariant.2, F-le W h, pow_mono few)

pub with_bit-requires : goal.with_bit-requires
with_bit-requires c =
    let h = c.loop-step.step in
    let W = c.args.tracks in
    let f = c.loop-step.invariant.2 in
    let number = written-number W h c.requires.0.0 f in
    let but : c.step-but.result ≡ lost W h = c.step-but.ensures.0 ∙ ap₂ lost c.loop-step.invariant.0 c.loop-step.invariant.1 in
    let bit = bit-fits h (omega arith) in
    let room : suc h + (c.args.steps - suc h) ≡ c.args.steps = omega arith in (
      omega (arith, number, but, F-next W h),
      omega (arith, number, but, F-next W h, F-more W (suc h) (c.args.steps - suc h) c.requires.0.0, ap (F W) room, length-set c.args.into.now 0 0),
      rw bit.0 (written_small W h c.requires.0.0 f),
      omega (arith, bit),
    )

pub loop-step-preserved : goal.loop-step-preserved
loop-step-preserved c =
    let W = c.args.tracks in
    let held = c.loop-step.invariant in
    let next = c.step-but.ensures in
    let after = c.step-but.new.self in
    let tracks : after.tracks ≡ W = next.1 ∙ held.0 in
    let steps : after.steps ≡ c.loop-step.step + 1 = omega (arith, next.2, held.1) in
    let f = written_next W c.loop-step.step c.requires.0.0 held.2 (bit-fits c.loop-step.step (omega arith)).0 (next.0 ∙ ap₂ lost held.0 held.1) c.with_bit.ensures in
    let number : after.codes ≡ F W (c.loop-step.step + 1) = after.counted ∙ ap₂ F tracks steps in
    (tracks, steps, rw (number ∙ sym (written-number W (c.loop-step.step + 1) c.requires.0.0 f)) f)

pub returns : goal.returns
returns c =
    let W = c.args.tracks in
    let h = c.loop-step.step in
    let end : h ≡ c.args.steps = omega arith in
    written_all c.args.into.now (omega (arith, written-number W h c.requires.0.0 c.loop-step.invariant.2, F-above W h c.requires.0.0))
    (rw end at c.loop-step.invariant.2)
