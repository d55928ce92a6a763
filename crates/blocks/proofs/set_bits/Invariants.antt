-- The proof of `set_bits`: the codes passed have their bits counted.
use mathlib.Core.List.{map}
use mathlib.Core.Path.{◌≡◌}
use lib.Count.{ones}
use lib.ListN.{length, take}
use Rattle.scan.specs.Front.{Front}
use Rattle.blocks.proofs.set_bits.Given as goal

abbrev pub invariant-loop-i : goal.invariant-loop-i
invariant-loop-i l =
    (length l.into ≡ length l.fn.into) × Front (map (λ x. ones x) (take l.i l.codes)) l.fn.into l.i l.into
