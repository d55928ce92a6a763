-- The proof of `CardPen::close`: the whole bytes written so far are drawn bits, and fewer than eight bits stay pending.
use mathlib.Core.Path.{◌≡◌}
use mathlib.Core.List.{[]}
use Rattle.bits.specs.Pens.{reach, Draws}
use Rattle.bits.proofs.pens.CardPen.close.Given as goal

abbrev pub invariant-loop-self : goal.invariant-loop-self
invariant-loop-self l = record { drawn : Draws [] l.initial.self l.self; reached : reach l.self ≡ reach l.initial.self }

abbrev pub decreases-loop-self : goal.decreases-loop-self
decreases-loop-self l = l.self.pen.count
