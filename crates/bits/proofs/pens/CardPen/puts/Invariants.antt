-- The proof of `CardPen::puts`: the numbers passed have been drawn.
use mathlib.Core.Path.{◌≡◌}
use Prim.Native.Nat.{◌+◌, ◌*◌}
use lib.ListN.{take, replicate}
use Rattle.yard.specs.Bits.{packed}
use Rattle.bits.specs.Pens.{reach, Draws}
use Rattle.bits.proofs.pens.CardPen.puts.Given as goal

abbrev pub invariant-loop-x : goal.invariant-loop-x
invariant-loop-x l = record {
  drawn : Draws (packed (replicate l.x-index l.width) (take l.x-index l.xs)) l.initial.self l.self;
  reached : reach l.self ≡ reach l.initial.self + l.x-index * l.width;
}
