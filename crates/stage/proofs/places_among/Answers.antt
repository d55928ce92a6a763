-- The proof of `places_among`: the cars passed have their place, and the counts are those of the cars passed.
use mathlib.Core.Path.{refl}
use native.Mathlib.Omega.{arith}
use Rattle.stage.proofs.Standing.{car-within, track-below, count_fits, stood-next, stood-all}
use Rattle.stage.proofs.places_among.Goals as goal

pub overflow_sub-i : goal.overflow_sub-i
overflow_sub-i g c =
    let a = c.args in
    omega (arith, car-within a.order.now a.on.now g.row.N a.at.now c.requires c.loop-car-test.true c.from-i.ensures refl)

pub bounds-on-i : goal.bounds-on-i
bounds-on-i g c =
    let a = c.args in
    omega (arith, car-within a.order.now a.on.now g.row.N a.at.now c.requires c.loop-car-test.true c.from-i.ensures refl, c.requires.given)

pub bounds-standing-track : goal.bounds-standing-track
bounds-standing-track g c =
    let a = c.args in
    track-below a.order.now a.on.now g.row.N a.at.now c.requires c.loop-car-test.true c.from-i.ensures c.from-track.ensures

pub bounds-at-i : goal.bounds-at-i
bounds-at-i g c =
    let a = c.args in
    let within = car-within a.order.now a.on.now g.row.N a.at.now c.requires c.loop-car-test.true c.from-i.ensures c.from-track.ensures in
    omega (arith, within, c.loop-car.invariant.places.size, c.requires.room)

pub bounds-standing-track-in-loop-car : goal.bounds-standing-track-in-loop-car
bounds-standing-track-in-loop-car g c =
    let a = c.args in
    track-below a.order.now a.on.now g.row.N a.at.now c.requires c.loop-car-test.true c.from-i.ensures c.from-track.ensures

pub overflow_add-standing : goal.overflow_add-standing
overflow_add-standing g c =
    let a = c.args in
    omega (
      arith,
      count_fits a.order.now a.on.now g.row.N a.at.now c.requires c.loop-car-test.true c.from-i.ensures c.from-track.ensures
          c.loop-car.invariant,
    )

pub bounds-standing-track-in-loop-car-2 : goal.bounds-standing-track-in-loop-car-2
bounds-standing-track-in-loop-car-2 g c =
    let a = c.args in
    track-below a.order.now a.on.now g.row.N a.at.now c.requires c.loop-car-test.true c.from-i.ensures c.from-track.ensures

pub loop-car-preserved : goal.loop-car-preserved
loop-car-preserved g c =
    let a = c.args in
    stood-next a.order.now a.on.now g.row.N a.at.now c.requires c.loop-car-test.true c.from-i.ensures c.from-track.ensures
    c.loop-car.invariant

pub returns : goal.returns
returns g c =
    let a = c.args in
    stood-all a.order.now a.on.now g.row.N a.at.now c.requires c.loop-car-test.false c.loop-car.invariant
