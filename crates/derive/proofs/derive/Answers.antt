-- The proof of `derive`: the tests 1 to 4 refuse, or else the plan answers.
use mathlib.Core.Path.{◌≡◌, refl, sym, subst}
use Rattle.std.specs.Prelude.{Result, Err}
use Rattle.std.proofs.Common.{rules}
use Rattle.yard.specs.declared.told.Derived.{Derived}
use Rattle.yard.specs.declared.refusal.Refusal.{Refusal}
use Rattle.yard.specs.Limits.{limits}
use Rattle.yard.specs.Calls.{Derives}
use Rattle.yard.specs.Lent.{the_night}
use Rattle.yard.specs.Refusals.{plan_told}
use Rattle.yard.proofs.calls.Told.{refused-not_done}
use Rattle.derive.proofs.Answered.{given-passed, derive-refused, derive-planned}
use Rattle.derive.proofs.derive.Goals as goal

pub returns-in_err-given : goal.returns-in_err-given
returns-in_err-given c =
    let args = c.args in
    let night = the_night args.night in
    let e = c.in_err-given.field-0.0 in
    let is : c.from_residual.result ≡ Err e = search rules in
    subst (λ (r : Result Derived Refusal). Derives night args.limit args.codes.now (plan_told r) args.codes.now) (sym is)
    (derive-refused night args.limit args.codes.now c.in_err-given.ensures (refused-not_done e))

pub plan-requires : goal.plan-requires
plan-requires c = given-passed limits (the_night c.args.night) c.args.limit c.args.codes.now c.in_ok-given.ensures refl

pub returns : goal.returns
returns c = derive-planned (the_night c.args.night) c.args.limit c.args.codes.now c.in_ok-given.ensures refl c.plan.ensures
