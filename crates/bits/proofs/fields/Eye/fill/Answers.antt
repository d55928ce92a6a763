-- The proof of `Eye::fill`: the buffer holds the fields passed and behind them its old items, and the eye is at the next field.
use mathlib.Core.Path.{◌≡◌, refl, ap}
use Prim.Native.Nat.{◌*◌, ◌≤◌}
use native.Mathlib.Nat.{suc-mul, mul-le-mul_right, lt_of_lt_of_le}
use native.Mathlib.Numerals.{add-one}
use native.Mathlib.Omega.{arith}
use lib.ListN.{length}
use lib.Seq.{drop-length}
use mathlib.Core.List.{append-nil}
use lib.Pow.{pow_mono}
use Rattle.bits.specs.Fields.{fields_at}
use Rattle.bits.specs.Sights.{Sight, sight, sight_of}
use Rattle.bits.proofs.Places.{field_below, fields-stored}
use Rattle.bits.proofs.fields.Eye.fill.Goals as goal
use Rattle.bits.proofs.fields.Eye.fill.Goals.{After-take}

pub loop-item-init : goal.loop-item-init
unfolding fields_at
loop-item-init c =
    let s = sight_of c.args.self in
    record { stored = refl; here = ap (sight s.bytes) (omega arith) }

pub take-requires : goal.take-requires
take-requires c =
    let inside : c.loop-item.item-index * c.args.width ≤ length c.args.out.now * c.args.width = mul-le-mul_right c.args.width (omega arith) in
    let here = ap (λ (s : Sight). s.at) c.loop-item.invariant.here in
    (c.requires.0, omega (arith, inside, here))

pub overflow_cast-item : goal.overflow_cast-item
overflow_cast-item c =
    let s = sight_of c.loop-item.self in
    record { fits = rw c.take.ensures.number (lt_of_lt_of_le (field_below s.bytes s.at c.args.width) (pow_mono c.requires.0)) }

pub loop-item-preserved : goal.loop-item-preserved
loop-item-preserved c =
    let s = sight_of c.args.self in
    let i = c.loop-item.item-index in
    record {
      stored = rw (add-one, c.take.ensures.number, c.loop-item.invariant.here, c.loop-item.invariant.stored)
          (fields-stored s.bytes c.args.out.now s.at c.args.width i (omega arith));
      here = rw (add-one, c.take.ensures.onward, c.loop-item.invariant.here)
          (ap (sight s.bytes) (omega (arith, suc-mul i c.args.width)));
    }

pub returns : goal.returns
returns c =
    let whole : c.loop-item.item-index ≡ length c.args.out.now = omega arith in
    rw (whole, drop-length, append-nil) at c.loop-item.invariant.stored
