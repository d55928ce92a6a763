-- The proof of `head`: each number stands behind the one before it.
use Rattle.card_reader.proofs.Reading.{head-places}
use Rattle.card_reader.proofs.head.Goals as goal

pub returns : goal.returns
returns c =
    let start = c.new-eye.ensures in
    let edition = rw start at c.take-edition.ensures.number in
    let first = rw start at c.take-edition.ensures.onward in
    let mark = rw first at c.take.ensures.number in
    let second = rw first at c.take.ensures.onward in
    let steps = rw second at c.take-2.ensures.number in
    let third = rw second at c.take-2.ensures.onward in
    let tracks = rw third at c.take-3.ensures.number in
    let fourth = rw third at c.take-3.ensures.onward in
    let room = rw fourth at c.take-4.ensures.number in
    let fifth = rw fourth at c.take-4.ensures.onward in
    let cars = rw fifth at c.take-5.ensures.number in
    let sixth = rw fifth at c.take-5.ensures.onward in
    let trains = rw sixth at c.take-6.ensures.number in
    rw (trains, cars, room, tracks, steps, mark, c.layout_of-l.ensures.is, edition, head-places c.args.bytes.now)
