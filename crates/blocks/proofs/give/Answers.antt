-- The proof of `give`: the costs are those of the allowed codes, and each number chosen is looked up among them.
use Rattle.scan.proofs.Front.{front_items}
use Rattle.blocks.proofs.Coding.{costs-given, numbers-under, numbers-coded}
use Rattle.blocks.proofs.give.Goals as goal

pub trains-requires : goal.trains-requires
trains-requires c =
    let pre = c.requires in
    costs-given c.args.lengths.now c.args.allowed.now c.args.numbers.now pre.2 (front_items c.set_bits.ensures) pre.0 pre.1

pub look_up-requires : goal.look_up-requires
look_up-requires c =
    numbers-under c.args.lengths.now c.args.allowed.now c.args.numbers.now c.requires.2 (front_items c.set_bits.ensures)
    _ c.trains.ensures c.trains.auto.numbers

pub returns : goal.returns
returns c =
    numbers-coded c.args.lengths.now c.args.allowed.now c.args.numbers.now c.requires.2 (front_items c.set_bits.ensures)
    _ c.trains.ensures c.trains.auto.numbers c.look_up.ensures
