-- The proof of `weigh`: the cars passed are counted.
use mathlib.Core.Path.{◌≡◌}
use lib.ListN.{length, take}
use Rattle.blocks.specs.Trains.{Weighed}
use Rattle.blocks.proofs.weigh.Given as goal

abbrev pub invariant-loop-block : goal.invariant-loop-block
invariant-loop-block l =
    (length l.weights ≡ length l.fn.weights) × Weighed (length l.fn.weights) (take l.block-index l.numbers) l.weights
