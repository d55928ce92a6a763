-- The proof of `with_bit`: behind the codes stand those passed, with the bit.
use mathlib.Core.Path.{◌≡◌}
use mathlib.Core.List.{map}
use Prim.Native.Nat.{◌+◌}
use lib.ListN.{length, take}
use Rattle.scan.specs.Front.{Front}
use Rattle.codes.proofs.with_bit.Given as goal

abbrev pub invariant-loop-k : goal.invariant-loop-k
invariant-loop-k l =
    (length l.behind ≡ length l.initial.behind)
    × Front (map (λ x. l.bit + x) (take l.k l.code-items)) l.initial.behind l.k l.behind
