-- The proof of `trains`: the trains passed have their numbers, and the rest stays.
use mathlib.Core.Path.{refl, ◌∙◌}
use native.Mathlib.Omega.{arith}
use Rattle.trains.proofs.Walk.{train_turn, trains_end}
use Rattle.blocks.proofs.ByTrain.{chosen_none, part-within, part-blocked, part-chosen, chosen-all}
use Rattle.blocks.proofs.trains.Goals as goal

pub loop-cars-init : goal.loop-cars-init
loop-cars-init c = (tt, tt, refl, chosen_none c.args.lengths.now c.args.costs.now c.args.numbers.now)

pub offset_bounds-numbers-cars : goal.offset_bounds-numbers-cars
offset_bounds-numbers-cars c =
    let lengths = c.args.lengths.now in
    let it = c.loop-cars in
    let stands = train_turn lengths c.new-cars-items.ensures c.into_iter-cars-iterator.ensures.into_iter_gives it.yielded it.cars-iterator it.yielded_by
    c.next.new.self c.next.ensures.steps c.in-Some.is in
    let within = part-within lengths c.args.costs.now c.args.numbers.now c.requires.1 stands it.invariant.3 in
    omega (arith, within)

pub slice_bounds-train-count : goal.slice_bounds-train-count
slice_bounds-train-count c =
    let lengths = c.args.lengths.now in
    let it = c.loop-cars in
    let stands = train_turn lengths c.new-cars-items.ensures c.into_iter-cars-iterator.ensures.into_iter_gives it.yielded it.cars-iterator it.yielded_by
    c.next.new.self c.next.ensures.steps c.in-Some.is in
    let within = part-within lengths c.args.costs.now c.args.numbers.now c.requires.1 stands it.invariant.3 in
    within.0

pub slice_bounds-train-start : goal.slice_bounds-train-start
slice_bounds-train-start c =
    let lengths = c.args.lengths.now in
    let it = c.loop-cars in
    let stands = train_turn lengths c.new-cars-items.ensures c.into_iter-cars-iterator.ensures.into_iter_gives it.yielded it.cars-iterator it.yielded_by
    c.next.new.self c.next.ensures.steps c.in-Some.is in
    let within = part-within lengths c.args.costs.now c.args.numbers.now c.requires.1 stands it.invariant.3 in
    within.0

pub slice_bounds-train-end-in-loop-cars : goal.slice_bounds-train-end-in-loop-cars
slice_bounds-train-end-in-loop-cars c =
    let lengths = c.args.lengths.now in
    let it = c.loop-cars in
    let stands = train_turn lengths c.new-cars-items.ensures c.into_iter-cars-iterator.ensures.into_iter_gives it.yielded it.cars-iterator it.yielded_by
    c.next.new.self c.next.ensures.steps c.in-Some.is in
    let within = part-within lengths c.args.costs.now c.args.numbers.now c.requires.1 stands it.invariant.3 in
    within.1

pub train-requires : goal.train-requires
train-requires c =
    let lengths = c.args.lengths.now in
    let it = c.loop-cars in
    let stands = train_turn lengths c.new-cars-items.ensures c.into_iter-cars-iterator.ensures.into_iter_gives it.yielded it.cars-iterator it.yielded_by
    c.next.new.self c.next.ensures.steps c.in-Some.is in (
      c.requires.0,
      omega (arith, it.invariant.2),
      part-blocked lengths c.args.costs.now c.args.numbers.now c.requires.1 stands it.invariant.3,
    )

pub loop-cars-preserved : goal.loop-cars-preserved
loop-cars-preserved c =
    let lengths = c.args.lengths.now in
    let it = c.loop-cars in
    let stands = train_turn lengths c.new-cars-items.ensures c.into_iter-cars-iterator.ensures.into_iter_gives it.yielded it.cars-iterator it.yielded_by
    c.next.new.self c.next.ensures.steps c.in-Some.is in (
      tt,
      tt,
      c.train.auto.picks ∙ it.invariant.2,
      part-chosen lengths c.args.costs.now c.args.numbers.now c.requires.1 stands it.invariant.3 c.train.ensures,
    )

pub returns : goal.returns
returns c =
    let lengths = c.args.lengths.now in
    let it = c.loop-cars in
    let end = trains_end lengths c.new-cars-items.ensures c.into_iter-cars-iterator.ensures.into_iter_gives it.yielded it.cars-iterator it.yielded_by
    c.next.new.self c.next.ensures.steps c.in-None.is in
    chosen-all lengths c.args.costs.now c.args.numbers.now end.0 it.invariant.3
