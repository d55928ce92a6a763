-- The proof of `choose`: the table is followed, into the front of the lent numbers.
use mathlib.Core.Path.{◌∙◌}
use native.Mathlib.Omega.{arith}
use lib.ListN.{length, get_or-append}
use lib.Seq.{length-take-le}
use Rattle.choice.proofs.Chosen.{place-within, chosen-cheapest}
use Rattle.choice.proofs.choose.Goals as goal

pub follow-requires : goal.follow-requires
follow-requires c =
    let pre = c.requires in
    let front = length-take-le (length c.args.weights.now) c.args.chosen.now pre.2 in (
      omega (arith, pre.0.enough, pre.0.numbers, front),
      λ b l. omega (arith, place-within pre.0 c.rows.ensures b (omega (arith, front)), c.rows.auto.picks),
    )

pub returns : goal.returns
returns c =
    let front = length-take-le (length c.args.weights.now) c.args.chosen.now c.requires.2 in
    chosen-cheapest c.requires.0 c.rows.ensures
    (λ b l. get_or-append c.follow.new.chosen _ 0 b (omega (arith, c.follow.auto.chosen, front)) ∙ c.follow.ensures b (omega (arith, front)))
