-- The proof of `Eye::take`: an eye that holds enough shows the number first, and else four bytes come behind its bits.
use mathlib.Core.Path.{refl}
use Prim.Native.Nat.{◌*◌}
use native.Mathlib.Omega.{arith}
use Rattle.bits.specs.Fields.{field_at}
use Rattle.bits.specs.Sights.{sight, place, sight_of}
use Rattle.bits.proofs.Words.{joined-fits}
use Rattle.bits.proofs.Places.{field_below}
use Rattle.bits.proofs.Seeing.{Near, sees-further, sees-past, near-number, near-past}
use Rattle.bits.proofs.fields.Eye.take.Goals as goal
use Rattle.bits.proofs.fields.Eye.take.Goals.{Joined-self-width, then-self-width, else-self-width}

pub overflow_add-self : goal.overflow_add-self
overflow_add-self c =
    let eye = c.args.self.now in
    let at = eye.next * 8 in
    rw c.window.ensures
    (record { fits = joined-fits 32 eye.word (field_at eye.bytes.now at 32) (omega arith) (field_below eye.bytes.now at 32) })

near : (c : Joined-self-width) → let eye = c.args.self.now in let p = c.if-self-width.self.1.1 in
    Near (sight eye.bytes.now (place eye)) c.args.width eye.bytes.now p.0 p.1.0 p.1.1.0
near c =
    let eye = c.args.self.now in
    elim c.if-self-width.branch [
      | then-self-width w ↦
          rw (w.self-is, w.window.ensures)
          (record { sees = sees-further eye.sees (omega arith); same = refl; here = omega (arith, eye.sees.behind); enough = omega arith })
      | else-self-width w ↦
          rw w.self-is (record { sees = eye.sees; same = refl; here = refl; enough = omega arith })
    ]

pub invariant_of-self : goal.invariant_of-self
invariant_of-self c =
    let n = near (goal.at.invariant_of-self c).Joined-self-width in
    record { sees = sees-past n.sees c.args.width n.enough }

pub returns-clause-number : goal.returns-clause-number
unfolding sight_of
returns-clause-number c = rw c.power.ensures (near-number (near (goal.at.returns-clause-number c).Joined-self-width))

pub returns-clause-onward : goal.returns-clause-onward
unfolding sight_of
returns-clause-onward c = near-past (near (goal.at.returns-clause-onward c).Joined-self-width)
