-- The proof of `tracks`: the cars of the trains passed have their tracks, and the rest stays.
use lib.ListN.{length}
use Rattle.trains.proofs.Walk.{reached}
use Rattle.stage.proofs.ByTrain.{TracksTo}
use Rattle.stage.proofs.tracks.Given as goal

abbrev pub invariant-loop-t : goal.invariant-loop-t
invariant-loop-t l =
    let lengths = l.plan.night.lengths.now in
    TracksTo lengths l.plan.codes.now l.plan.night.tracks l.plan.steps l.stage l.initial.on (length l.yielded) (reached lengths l.yielded) l.on
