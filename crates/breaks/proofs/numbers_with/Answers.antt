-- The proof of `numbers_with`: the trains passed are counted.
use Prim.Native.Nat.{ℕ}
use native.Mathlib.Omega.{arith}
use lib.ListN.{length, length-replicate}
use Rattle.trains.proofs.Walk.{before_it, behind_it, train_turn, trains_end}
use Rattle.breaks.proofs.ByCar.{Counted, places-by-car, counted_next, counted-all, train-within}
use Rattle.breaks.proofs.numbers_with.Goals as goal

pub train-requires : goal.train-requires
train-requires g c =
    let lengths = c.args.lengths.now in
    let inbound = c.args.inbound.now in
    let pre = c.requires.0 in
    let it = c.loop-cars in
    let stands = train_turn lengths c.new-cars-items.ensures c.into_iter-cars-iterator.ensures.into_iter_gives it.yielded it.cars-iterator it.yielded_by c.next.new.self c.next.ensures.steps c.in-Some.is in
    let held = before_it stands (λ b. Counted lengths inbound (length it.yielded) it.most b it.into) it.invariant.2 in
    let here = train-within lengths inbound pre.lists stands.more held stands.ends in (
      here.0,
      omega (arith, here.1, pre.cars),
      omega (arith, here.1, pre.placed, length-replicate {A = ℕ} g.row.PLACES 0, c.places.auto.into),
      omega (arith, here.1, pre.room, it.auto.into),
    )

pub loop-cars-preserved : goal.loop-cars-preserved
loop-cars-preserved g c =
    let lengths = c.args.lengths.now in
    let inbound = c.args.inbound.now in
    let it = c.loop-cars in
    let stands = train_turn lengths c.new-cars-items.ensures c.into_iter-cars-iterator.ensures.into_iter_gives it.yielded it.cars-iterator it.yielded_by c.next.new.self c.next.ensures.steps c.in-Some.is in
    let held = before_it stands (λ b. Counted lengths inbound (length it.yielded) it.most b it.into) it.invariant.2 in (
      tt,
      tt,
      behind_it stands c.in-Some.cars (λ t b. Counted lengths inbound t c.max-most.result b c.train.new.into)
          (rw c.max-most.ensures (counted_next lengths inbound c.requires.0.lists stands.more held stands.ends (places-by-car inbound c.places.ensures) c.train.ensures)),
    )

pub returns : goal.returns
returns g c =
    let lengths = c.args.lengths.now in
    let it = c.loop-cars in
    let end = trains_end lengths c.new-cars-items.ensures c.into_iter-cars-iterator.ensures.into_iter_gives it.yielded it.cars-iterator it.yielded_by c.next.new.self c.next.ensures.steps c.in-None.is in
    counted-all lengths c.args.inbound.now c.requires.0.lists end.0 (omega (arith, c.requires.0.room, it.auto.into)) it.invariant.2
