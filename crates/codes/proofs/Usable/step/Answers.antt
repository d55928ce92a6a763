-- The proof of `step`: the slot at hand holds what this step loses, and then what the step loses that uses it next.
use mathlib.Core.Path.{◌≡◌, sym, subst}
use Prim.Native.Nat.{ℕ, ◌+◌, ◌%◌}
use native.Mathlib.Nat.{le_refl}
use native.Mathlib.Numerals.{add-one}
use native.Mathlib.Omega.{arith}
use lib.ListN.{set, get_or, length-set}
use Rattle.yard.proofs.yards.Counting.{F-above}
use Rattle.codes.specs.Ring.{lost, Ring}
use Rattle.codes.proofs.Steps.{F-next, ring-next}
use Rattle.codes.specs.declared.Usable.{Usable}
use Rattle.codes.proofs.Usable.step.Goals as goal

-- the slot at hand holds what this step loses
slot : (u : Usable) → get_or u.ring (u.steps % u.tracks) 0 ≡ lost u.tracks u.steps
slot u = u.held u.steps (le_refl u.steps) (omega (arith, u.some))

pub overflow_sub-self : goal.overflow_sub-self
overflow_sub-self c = let u = c.args.self.now in omega (arith, slot u, u.counted, F-next u.tracks u.steps)

pub overflow_add-self : goal.overflow_add-self
overflow_add-self c = let u = c.args.self.now in omega (arith, u.counted, F-above u.tracks u.steps u.some)

pub invariant_of-self-clause-counted : goal.invariant_of-self-clause-counted
invariant_of-self-clause-counted c =
    let u = c.args.self.now in
    rw add-one (omega (arith, slot u, u.counted, F-next u.tracks u.steps))

pub invariant_of-self-clause-held : goal.invariant_of-self-clause-held
invariant_of-self-clause-held c =
    let u = c.args.self.now in
    subst (λ (v : ℕ). Ring u.tracks (set u.ring (u.steps % u.tracks) v) (u.steps + 1)) (sym u.counted)
    (ring-next u.tracks u.some u.ring u.steps u.room u.held)

pub invariant_of-self-clause-room : goal.invariant_of-self-clause-room
invariant_of-self-clause-room c =
    let u = c.args.self.now in
    omega (arith, u.room, length-set u.ring (u.steps % u.tracks) u.codes)
