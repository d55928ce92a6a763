-- The proof of `tracks`: the cars of the trains passed have their tracks, and the rest stays.
use mathlib.Core.Logic.{inl}
use native.Mathlib.Omega.{arith}
use Rattle.trains.proofs.Walk.{numbers_fit, numbered_end}
use Rattle.stage.proofs.ByTrain.{turn-within, turn-next, tracks-all}
use Rattle.stage.proofs.tracks.Goals as goal

pub loop-t-init-derived : goal.loop-t-init-derived
loop-t-init-derived c =
    let fit = numbers_fit c.args.plan.night.lengths.now c.new.ensures c.enumerate-t-items.ensures.source c.enumerate-t-items.ensures.count c.into_iter-t-iterator.ensures.into_iter_gives (omega (arith, c.requires.trains)) in
    ((tt, tt, inl fit), tt)

pub offset_bounds-plan-cars : goal.offset_bounds-plan-cars
offset_bounds-plan-cars c =
    let plan = c.args.plan in
    let it = c.loop-t in
    omega (arith, turn-within plan.night.lengths.now plan.codes.now plan.night.tracks plan.steps c.args.stage c.args.on.now c.requires c.new.ensures c.enumerate-t-items.ensures.source c.enumerate-t-items.ensures.count c.into_iter-t-iterator.ensures.into_iter_gives it.yielded it.t-iterator it.yielded_by c.next.new.self c.next.ensures.steps c.in-Some.is it.invariant, c.requires)

pub slice_bounds-train_tracks-count : goal.slice_bounds-train_tracks-count
slice_bounds-train_tracks-count c =
    let plan = c.args.plan in
    let it = c.loop-t in
    omega (arith, turn-within plan.night.lengths.now plan.codes.now plan.night.tracks plan.steps c.args.stage c.args.on.now c.requires c.new.ensures c.enumerate-t-items.ensures.source c.enumerate-t-items.ensures.count c.into_iter-t-iterator.ensures.into_iter_gives it.yielded it.t-iterator it.yielded_by c.next.new.self c.next.ensures.steps c.in-Some.is it.invariant, c.requires)

pub slice_bounds-train_tracks-start : goal.slice_bounds-train_tracks-start
slice_bounds-train_tracks-start c =
    let plan = c.args.plan in
    let it = c.loop-t in
    omega (arith, turn-within plan.night.lengths.now plan.codes.now plan.night.tracks plan.steps c.args.stage c.args.on.now c.requires c.new.ensures c.enumerate-t-items.ensures.source c.enumerate-t-items.ensures.count c.into_iter-t-iterator.ensures.into_iter_gives it.yielded it.t-iterator it.yielded_by c.next.new.self c.next.ensures.steps c.in-Some.is it.invariant, c.requires)

pub slice_bounds-train_tracks-end : goal.slice_bounds-train_tracks-end
slice_bounds-train_tracks-end c =
    let plan = c.args.plan in
    let it = c.loop-t in
    omega (arith, turn-within plan.night.lengths.now plan.codes.now plan.night.tracks plan.steps c.args.stage c.args.on.now c.requires c.new.ensures c.enumerate-t-items.ensures.source c.enumerate-t-items.ensures.count c.into_iter-t-iterator.ensures.into_iter_gives it.yielded it.t-iterator it.yielded_by c.next.new.self c.next.ensures.steps c.in-Some.is it.invariant, c.requires)

pub offset_bounds-on-cars : goal.offset_bounds-on-cars
offset_bounds-on-cars c =
    let plan = c.args.plan in
    let it = c.loop-t in
    omega (arith, turn-within plan.night.lengths.now plan.codes.now plan.night.tracks plan.steps c.args.stage c.args.on.now c.requires c.new.ensures c.enumerate-t-items.ensures.source c.enumerate-t-items.ensures.count c.into_iter-t-iterator.ensures.into_iter_gives it.yielded it.t-iterator it.yielded_by c.next.new.self c.next.ensures.steps c.in-Some.is it.invariant, c.requires)

pub slice_bounds-train_tracks-count-in-loop-t : goal.slice_bounds-train_tracks-count-in-loop-t
slice_bounds-train_tracks-count-in-loop-t c =
    let plan = c.args.plan in
    let it = c.loop-t in
    omega (arith, turn-within plan.night.lengths.now plan.codes.now plan.night.tracks plan.steps c.args.stage c.args.on.now c.requires c.new.ensures c.enumerate-t-items.ensures.source c.enumerate-t-items.ensures.count c.into_iter-t-iterator.ensures.into_iter_gives it.yielded it.t-iterator it.yielded_by c.next.new.self c.next.ensures.steps c.in-Some.is it.invariant, c.requires)

pub slice_bounds-train_tracks-start-in-loop-t : goal.slice_bounds-train_tracks-start-in-loop-t
slice_bounds-train_tracks-start-in-loop-t c =
    let plan = c.args.plan in
    let it = c.loop-t in
    omega (arith, turn-within plan.night.lengths.now plan.codes.now plan.night.tracks plan.steps c.args.stage c.args.on.now c.requires c.new.ensures c.enumerate-t-items.ensures.source c.enumerate-t-items.ensures.count c.into_iter-t-iterator.ensures.into_iter_gives it.yielded it.t-iterator it.yielded_by c.next.new.self c.next.ensures.steps c.in-Some.is it.invariant, c.requires)

pub slice_bounds-train_tracks-end-in-loop-t : goal.slice_bounds-train_tracks-end-in-loop-t
slice_bounds-train_tracks-end-in-loop-t c =
    let plan = c.args.plan in
    let it = c.loop-t in
    omega (arith, turn-within plan.night.lengths.now plan.codes.now plan.night.tracks plan.steps c.args.stage c.args.on.now c.requires c.new.ensures c.enumerate-t-items.ensures.source c.enumerate-t-items.ensures.count c.into_iter-t-iterator.ensures.into_iter_gives it.yielded it.t-iterator it.yielded_by c.next.new.self c.next.ensures.steps c.in-Some.is it.invariant, c.requires)

pub loop-t-preserved : goal.loop-t-preserved
loop-t-preserved c =
    let plan = c.args.plan in
    let it = c.loop-t in
    turn-next plan.night.lengths.now plan.codes.now plan.night.tracks plan.steps c.args.stage c.args.on.now c.requires c.new.ensures c.enumerate-t-items.ensures.source c.enumerate-t-items.ensures.count c.into_iter-t-iterator.ensures.into_iter_gives it.yielded it.t-iterator it.yielded_by c.next.new.self c.next.ensures.steps c.in-Some.is it.invariant c.train_tracks.ensures

pub returns : goal.returns
returns c =
    let plan = c.args.plan in
    let it = c.loop-t in
    let end = numbered_end plan.night.lengths.now c.new.ensures c.enumerate-t-items.ensures.source c.enumerate-t-items.ensures.count c.into_iter-t-iterator.ensures.into_iter_gives it.yielded it.t-iterator it.yielded_by c.next.new.self c.next.ensures.steps c.in-None.is in
    tracks-all plan.night.lengths.now plan.codes.now plan.night.tracks plan.steps c.args.stage c.args.on.now c.requires end.1 it.invariant
