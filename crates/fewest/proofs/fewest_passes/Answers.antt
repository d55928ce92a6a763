-- The proof of `fewest_passes`: the tests before are those with which derive begins, and the plan found answers the rest.
use mathlib.Core.Path.{◌≡◌, refl, sym, subst}
use Rattle.std.specs.Prelude.{Result, Err}
use Rattle.std.proofs.Common.{rules}
use Rattle.yard.specs.declared.told.Derived.{Derived}
use Rattle.yard.specs.declared.refusal.Refusal.{Refusal}
use Rattle.yard.specs.Lent.{the_night}
use Rattle.yard.specs.Refusals.{plan_told}
use Rattle.yard.proofs.calls.Told.{refused-not_done}
use Rattle.fewest.specs.Fewest.{FindsFewest}
use Rattle.fewest.proofs.Answered.{fewest-refused, fewest-given, fewest-found}
use Rattle.fewest.proofs.fewest_passes.Goals as goal

pub returns-in_err-given : goal.returns-in_err-given
returns-in_err-given c =
    let args = c.args in
    let night = the_night args.night in
    let e = c.in_err-given.field-0.0 in
    let is : c.from_residual.result ≡ Err e = search rules in
    subst (λ (r : Result Derived Refusal). FindsFewest night args.steps args.codes.now (plan_told r) args.codes.now) (sym is)
    (fewest-refused night args.steps args.codes.now c.in_err-given.ensures (refused-not_done e))

pub plan-requires : goal.plan-requires
plan-requires c = fewest-given (the_night c.args.night) c.args.steps c.args.codes.now c.in_ok-given.ensures refl

pub returns : goal.returns
returns c = fewest-found (the_night c.args.night) c.args.steps c.args.codes.now c.in_ok-given.ensures refl c.plan.ensures
