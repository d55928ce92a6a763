-- The proof of `turns`: the steps passed have their tracks.
use Rattle.stage.specs.Stages.{InTurn}
use Rattle.stage.proofs.turns.Given as goal

abbrev pub invariant-loop-step : goal.invariant-loop-step
invariant-loop-step l = InTurn l.tracks l.step l.turns
