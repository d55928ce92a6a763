-- The proof of `with_bit`: behind the codes stand those passed, with the bit.
use mathlib.Core.List.{[]}
use Prim.Native.Nat.{ℕ, ◌+◌, ◌<◌}
use native.Mathlib.Omega.{arith}
use lib.ListN.{length, length-set, length-drop}
use Rattle.std.proofs.Common.{length-take}
use Rattle.scan.proofs.Front.{front-through}
use Rattle.codes.proofs.with_bit.Goals as goal

pub loop-k-preserved : goal.loop-k-preserved
loop-k-preserved c =
    let held = c.loop-k.invariant in
    let split = c.split_at_mut-front in
    let room : c.loop-k.k < length split.result.1.now =
    omega (arith, split.ensures.back_len, split.ensures.front_len, length-take {A = ℕ}, length-drop {A = ℕ}) in
    (simp length-set held.0, front-through [] (λ x. c.args.bit + x) _ c.loop-k-test.true room held.1)
