-- The proof of `Stage::train_tracks`: the cars passed have their tracks, and the rest stays.
use mathlib.Core.List.{[]}
use Prim.Native.Nat.{ℕ, ◌%◌}
use native.Mathlib.Omega.{arith}
use Rattle.scan.proofs.Front.{front-through}
use Rattle.stage.specs.Stages.{target_of}
use Rattle.stage.proofs.Stage.train_tracks.Goals as goal

pub loop-i-preserved : goal.loop-i-preserved
loop-i-preserved c =
    let a = c.args in
    let track : ℕ → ℕ = λ code. target_of (λ step. step % a.self.tracks) a.self.steps a.self.stage code a.destination in
    rw c.target.ensures (front-through [] track a.codes.now (omega arith) (omega (arith, c.requires)) c.loop-i.invariant)
