-- The proof of `Pulls::of`: the largest so far is the largest of the steps passed.
use native.Mathlib.Omega.{arith}
use Rattle.scan.proofs.Running.{most-next}
use Rattle.sorting.specs.Sums.{pull_of}
use Rattle.sorting.proofs.Pulls.of.Goals as goal

pub loop-step-preserved : goal.loop-step-preserved
loop-step-preserved c = omega (arith, most-next (pull_of c.args.codes.now) c.loop-step.step)
