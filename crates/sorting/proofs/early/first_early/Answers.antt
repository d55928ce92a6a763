-- The proof of `first_early`: what is left of the search over steps, then cars, finds what the whole finds.
use mathlib.Core.Path.{refl, sym, ◌∙◌}
use Rattle.sorting.proofs.EarlyLeft.{steps-start, cars-start, cars-goes, steps-goes, steps-ends, found}
use Rattle.sorting.proofs.early.first_early.Goals as goal

pub search-init : goal.search-init
search-init c = (refl, steps-start c.args.tracks c.args.steps c.args.codes.now)

pub loop-i-init : goal.loop-i-init
loop-i-init c = (c.search.invariant.0, cars-start c.args.tracks c.args.steps c.args.codes.now c.search.step)

pub loop-i-preserved : goal.loop-i-preserved
loop-i-preserved c =
    let args = c.args in (
      c.loop-i.invariant.0,
      cars-goes args.tracks args.steps args.codes.now c.search.step c.loop-i.i
          c.loop-i-test.true c.loop-i.invariant.1 (sym c.waits.ensures ∙ c.if-waits.false),
    )

pub search-preserved : goal.search-preserved
search-preserved c =
    let args = c.args in (
      c.loop-i.invariant.0,
      steps-goes args.tracks args.steps args.codes.now c.search.step c.loop-i.i
          c.search-test.true c.loop-i-test.false c.loop-i.auto.i-end c.search.invariant.1 c.loop-i.invariant.1,
    )

pub returns-after-search : goal.returns-after-search
returns-after-search c =
    let args = c.args in
    c.search.invariant.0 ∙ steps-ends args.tracks args.steps args.codes.now c.search.step c.search-test.false c.search.invariant.1

pub returns-then-waits : goal.returns-then-waits
returns-then-waits c =
    let args = c.args in
    found args.tracks args.steps args.codes.now c.search.step c.loop-i.i c.search-test.true
    c.loop-i-test.true c.search.invariant.1 c.loop-i.invariant.1 (sym c.waits.ensures ∙ c.if-waits.true)
