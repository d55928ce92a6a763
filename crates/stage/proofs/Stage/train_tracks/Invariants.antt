-- The proof of `Stage::train_tracks`: the cars passed have their tracks, and the rest stays.
use mathlib.Core.List.{map}
use Prim.Native.Nat.{ℕ, ◌%◌}
use lib.ListN.{take}
use Rattle.scan.specs.Front.{Front}
use Rattle.stage.specs.Stages.{target_of}
use Rattle.stage.proofs.Stage.train_tracks.Given as goal

abbrev pub invariant-loop-i : goal.invariant-loop-i
invariant-loop-i l =
    let track : ℕ → ℕ = λ code. target_of (λ step. step % l.self.tracks) l.self.steps l.self.stage code l.destination in
    Front (map track (take l.i l.codes)) l.initial.on l.i l.on
