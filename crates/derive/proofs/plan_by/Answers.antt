-- The proof of `plan_by`: the steps are those that the night needs, and the codes given are those of the derived plan.
use mathlib.Core.Path.{◌≡◌, ap, ◌∙◌}
use native.Mathlib.Omega.{arith}
use Rattle.yard.specs.Derived.{derived_plan}
use Rattle.yard.specs.Lent.{the_night}
use Rattle.yard.proofs.yards.DerivedPlan.{derived-sorts}
use Rattle.derive.proofs.Coded.{given-needy, numbers-below, coded}
use Rattle.derive.proofs.Answered.{plan-refused, plan-settled}
use Rattle.derive.proofs.plan_by.Goals as goal

pub give-requires : goal.give-requires
give-requires g c =
    let night = the_night c.args.night in
    let given = c.requires.0.given in
    record {
      tracks = given.counts.tracks;
      steps = omega (arith, given.counts.steps.1, c.if-limit-steps.false);
      room = c.needed-steps.ensures.few;
      below = numbers-below night given.lists given.counts.tracks.0 c.needed-steps.ensures;
    }

pub returns : goal.returns
unfolding derived_plan
returns g c =
    let night = the_night c.args.night in
    let given = c.requires.0.given in
    let pos = given.counts.tracks.0 in
    let steps = c.needed-steps.ensures.steps night.room in
    plan-settled (derived_plan night) given.lists (derived-sorts night given.lists pos) steps
    (c.give.ensures ∙ coded night given.lists pos c.needed-steps.ensures)
    (omega (arith, c.if-limit-steps.false, steps)) c.settle.ensures
