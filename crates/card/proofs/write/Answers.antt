-- The proof of `write`: a plan that is accepted can be drawn, and the buffer after it is the card before the old rest, or as it was.
use Rattle.card_writer.proofs.Writing.{accepted-drawable}
use Rattle.card.proofs.write.Goals as goal

pub draw-requires : goal.draw-requires
draw-requires c = accepted-drawable _ _ c.in_ok-bytes.ensures
