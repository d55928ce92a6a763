-- `price::price` meets its contract: each way out is one of the reasons for which the yard is told its answer.
use Rattle.std.proofs.Common.{rules, ◌≡◌}
use Rattle.std.specs.Prelude.{Err}
use Rattle.yard.specs.declared.refusal.TimingName.TheVariants.{Pull, Push}
use Rattle.price.proofs.Told.{not_allowed, allowed, passed, steps-refused, passes-refused, pull-refused, push-refused, priceable, small, done-price}
use Rattle.price.proofs.price.Goals as goal

pub returns-in_err-in_range : goal.returns-in_err-in_range
returns-in_err-in_range c =
    let is : c.from_residual.result ≡ Err c.in_err-in_range.field-0.0 = search rules in
    steps-refused _ _ _ is c.in_err-in_range.ensures

pub returns-in_err-in_range-2 : goal.returns-in_err-in_range-2
returns-in_err-in_range-2 c =
    let is : c.from_residual-in_err-in_range-2.result ≡ Err c.in_err-in_range-2.field-0.0 = search rules in
    passes-refused _ _ _ is c.in_ok-in_range.ensures c.in_err-in_range-2.ensures

pub returns-in_err-pull : goal.returns-in_err-pull
returns-in_err-pull c =
    let is : c.from_residual-in_err-pull.result ≡ Err c.in_err-pull.field-0.0 = search rules in
    pull-refused _ _ _ is c.in_ok-in_range.ensures c.in_ok-in_range-2.ensures (not_allowed Pull c.args.timings.pull c.sixteenths.ensures c.in_err-pull.ensures.value)

pub returns-in_err-push : goal.returns-in_err-push
returns-in_err-push c =
    let is : c.from_residual-in_err-push.result ≡ Err c.in_err-push.field-0.0 = search rules in
    push-refused _ _ _ is c.in_ok-in_range.ensures c.in_ok-in_range-2.ensures
    (passed Pull c.args.timings.pull c.sixteenths.ensures c.in_ok-pull.ensures.value)
    (not_allowed Push c.args.timings.push c.sixteenths-2.ensures c.in_err-push.ensures.value)

pub seconds-requires : goal.seconds-requires
seconds-requires c =
    small _ _ c.args.timings
    (priceable _ _ _ c.in_ok-in_range.ensures c.in_ok-in_range-2.ensures
    (allowed Pull c.args.timings.pull c.sixteenths.ensures c.in_ok-pull.ensures.value)
    (allowed Push c.args.timings.push c.sixteenths-2.ensures c.in_ok-push.ensures.value))

pub returns : goal.returns
returns c =
    done-price _ _ c.args.timings c.seconds.ensures
    (priceable _ _ _ c.in_ok-in_range.ensures c.in_ok-in_range-2.ensures
    (allowed Pull c.args.timings.pull c.sixteenths.ensures c.in_ok-pull.ensures.value)
    (allowed Push c.args.timings.push c.sixteenths-2.ensures c.in_ok-push.ensures.value))
