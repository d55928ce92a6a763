-- The proof of `Card::last_tests`: within the limits the card ends where an eye can reach.
use native.Mathlib.Omega.{arith}
use Rattle.format.proofs.Widths.{end-bounded}
use Rattle.card_reader.proofs.Card.last_tests.Goals as goal

pub ends-ended-requires : goal.ends-ended-requires
ends-ended-requires c = rw c.places_of-at.ensures (omega (arith, end-bounded c.requires))
