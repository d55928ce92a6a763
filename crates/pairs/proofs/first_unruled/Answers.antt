-- The proof of `first_unruled`: of the trains passed no pair breaks the rule.
use mathlib.Core.Path.{◌∙◌}
use native.Mathlib.Omega.{arith}
use Rattle.trains.proofs.Walk.{train_turn, trains_end}
use Rattle.pairs.proofs.Pairs.{train-part, stands-passed, stands-found, all-passed}
use Rattle.pairs.proofs.first_unruled.Goals as goal

pub unruled_pairs-requires : goal.unruled_pairs-requires
unruled_pairs-requires c =
    let it = c.loop-train in
    let stands = train_turn c.args.lengths.now c.new-train-items.ensures c.into_iter-train-iterator.ensures.into_iter_gives it.yielded it.train-iterator it.yielded_by c.next.new.self c.next.ensures.steps c.in-Some.is in
    let part = train-part c.args.lengths.now c.args.places.now c.args.codes.now c.requires stands.more stands.walked stands.ends in
    (omega (arith, part), omega (arith, part))

pub unruled_in-requires : goal.unruled_in-requires
unruled_in-requires c =
    let it = c.loop-train in
    let stands = train_turn c.args.lengths.now c.new-train-items.ensures c.into_iter-train-iterator.ensures.into_iter_gives it.yielded it.train-iterator it.yielded_by c.next.new.self c.next.ensures.steps c.in-Some.is in
    train-part c.args.lengths.now c.args.places.now c.args.codes.now c.requires stands.more stands.walked stands.ends

pub returns-then-unruled_pairs-gt0 : goal.returns-then-unruled_pairs-gt0
returns-then-unruled_pairs-gt0 c =
    let it = c.loop-train in
    let stands = train_turn c.args.lengths.now c.new-train-items.ensures c.into_iter-train-iterator.ensures.into_iter_gives it.yielded it.train-iterator it.yielded_by c.next.new.self c.next.ensures.steps c.in-Some.is in
    c.unruled_in.ensures ∙
    stands-found c.args.lengths.now c.args.places.now c.args.codes.now c.requires stands it.invariant.2
    (omega (arith, c.if-unruled_pairs-gt0.true, c.unruled_pairs.ensures))

pub loop-train-preserved : goal.loop-train-preserved
loop-train-preserved c =
    let it = c.loop-train in
    let stands = train_turn c.args.lengths.now c.new-train-items.ensures c.into_iter-train-iterator.ensures.into_iter_gives it.yielded it.train-iterator it.yielded_by c.next.new.self c.next.ensures.steps c.in-Some.is in
    let passed = stands-passed c.args.lengths.now c.args.places.now c.args.codes.now c.requires stands it.invariant.2
    (omega (arith, c.if-unruled_pairs-gt0.false, c.unruled_pairs.ensures)) in
    (tt, tt, passed)

pub returns : goal.returns
returns c =
    let it = c.loop-train in
    let end = trains_end c.args.lengths.now c.new-train-items.ensures c.into_iter-train-iterator.ensures.into_iter_gives it.yielded it.train-iterator it.yielded_by c.next.new.self c.next.ensures.steps c.in-None.is in
    all-passed c.args.lengths.now c.args.places.now c.args.codes.now c.requires end.1 it.invariant.2
