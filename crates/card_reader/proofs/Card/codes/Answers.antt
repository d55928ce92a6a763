-- The proof of `Card::codes`: within the limits the codes end where an eye can reach.
use native.Mathlib.Omega.{arith}
use Rattle.format.proofs.Widths.{end-bounded}
use Rattle.card_reader.proofs.Card.codes.Goals as goal

pub new-requires : goal.new-requires
new-requires c = rw c.places_of-at.ensures (omega (arith, end-bounded c.requires.0))

pub fill-requires : goal.fill-requires
fill-requires c = rw (c.new.ensures, c.places_of-at.ensures, c.requires.1) (omega (arith, c.requires.0.steps), omega (arith, end-bounded c.requires.0))
