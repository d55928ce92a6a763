-- The proof of `mark`: the bit of the car is set in its word.
use native.Mathlib.Omega.{arith}
use Prim.Native.Nat.{◌/◌}
use lib.ListN.{length}
use Rattle.marks.proofs.Word.{one_bit}
use Rattle.marks.proofs.Marks.{in_words, marks-one, was-marked}
use Rattle.marks.proofs.mark.Goals as goal

pub nonzero_rem-at : goal.nonzero_rem-at
nonzero_rem-at c = omega (arith, in_words c.args.marks.now c.args.car c.requires.0 c.requires.1)

pub returns : goal.returns
returns c =
    let words = c.args.marks.now in
    let car = c.args.car in
    let given = c.requires in
    rw (one_bit (car / length words)) (was-marked words car given.0 given.1, marks-one words car given.0 given.1)
