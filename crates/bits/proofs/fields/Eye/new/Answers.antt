-- The proof of `Eye::new`: the window from the place's byte on, less the bits before the place.
use native.Mathlib.Omega.{arith}
use mathlib.Core.Path.{ap}
use Rattle.bits.specs.Sights.{sight, sight_of}
use Rattle.bits.proofs.Seeing.{sees-opened}
use Rattle.bits.proofs.fields.Eye.new.Goals as goal

pub invariant_of-result : goal.invariant_of-result
invariant_of-result c = record { sees = rw c.window.ensures (sees-opened c.args.bytes.now c.args.at) }

pub returns : goal.returns
unfolding sight_of
returns c = ap (sight c.args.bytes.now) (omega arith)
