-- The proof of `set_bits`: the codes passed have their bits counted.
use mathlib.Core.List.{[]}
use mathlib.Core.Path.{◌∙◌}
use native.Mathlib.Omega.{arith}
use lib.Count.{ones}
use lib.ListN.{length-set}
use Rattle.scan.proofs.Front.{front-through}
use Rattle.blocks.proofs.set_bits.Goals as goal

pub loop-i-preserved : goal.loop-i-preserved
loop-i-preserved c =
    let args = c.args in
    let held = c.loop-i.invariant in
    let i = c.loop-i.i in (
      length-set c.loop-i.into i c.ones.result ∙ held.0,
      rw c.ones.ensures.0 (front-through [] (λ x. ones x) args.codes.now (omega arith) (omega arith) held.1),
    )
