-- The proof of `draw_head`: seven numbers are drawn one behind the other.
use Rattle.bits.proofs.Drawing.{draws-none, draws-then}
use Rattle.card_writer.proofs.draw_head.Goals as goal

pub returns-clause-drawn : goal.returns-clause-drawn
returns-clause-drawn c =
    let last = draws-then c.put-6.ensures.drawn (draws-then c.put-7.ensures.drawn (draws-none c.put-7.new.self)) in
    draws-then c.put.ensures.drawn
    (draws-then c.put-2.ensures.drawn (draws-then c.put-3.ensures.drawn (draws-then c.put-4.ensures.drawn (draws-then c.put-5.ensures.drawn last))))
