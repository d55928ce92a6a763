-- The proof of `waits`: the next step is another, is to come, and uses the same track.
use Rattle.sorting.proofs.NextStep.{waits-named, waits-last, waits-later}
use Rattle.sorting.proofs.early.waits.Goals as goal
use Rattle.sorting.proofs.early.waits.Goals.{then-next-step-via-then-next-step, then-next-step-via-else-next-step+then-steps-next}

pub returns-then-next-step : goal.returns-then-next-step
returns-then-next-step c =
    let args = c.args in
    let next = c.next_step-next in
    elim c.then-next-step.branch [
      | then-next-step-via-then-next-step w ↦
          waits-named args.tracks args.steps args.code args.step next.result c.requires.1 next.ensures w.if-next-step.true
      | then-next-step-via-else-next-step+then-steps-next w ↦
          waits-last args.tracks args.steps args.code args.step next.result c.requires.1 next.ensures w.if-steps-next.true
    ]

pub returns : goal.returns
returns c =
    waits-later c.args.tracks c.args.steps c.args.code c.args.step c.next_step-next.result c.requires.1
    c.next_step-next.ensures c.if-next-step.false c.if-steps-next.false
