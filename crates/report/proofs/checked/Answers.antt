-- The proof of `checked`: what the reader or check refuses is told, and what check accepts is put out.
use mathlib.Core.Path.{refl, sym, ◌∙◌}
use native.Mathlib.Omega.{arith}
use Rattle.std.proofs.Common.{rules}
use Rattle.std.proofs.lemmas.Result.{err_from_is_err_and}
use Rattle.yard.specs.Lent.{the_plan}
use Rattle.lines.proofs.Adding.{grows_then, grows_same}
use Rattle.report.specs.Programs.{checked_lines, nightcard_text}
use Rattle.report.proofs.Programs.{card-refused, card-done, plan-refused, plan-good, plan-done}
use Rattle.report.proofs.checked.Goals as goal

pub returns-in_err-plan : goal.returns-in_err-plan
unfolding nightcard_text
returns-in_err-plan c =
    let p = err_from_is_err_and c.from_residual.result c.from_residual.ensures.1 in
    rw (p.1, p.2) (card-refused checked_lines c.args.card.now c.in_err-plan.field-0.0 c.in_err-plan.ensures, refl)

pub returns-in_err-passes : goal.returns-in_err-passes
unfolding nightcard_text
returns-in_err-passes c =
    let p = err_from_is_err_and c.from_residual-in_err-passes.result c.from_residual-in_err-passes.ensures.1 in
    let read = c.in_ok-plan.ensures in
    let refused = plan-refused (the_plan c.in_ok-plan.plan) c.in_err-passes.field-0.0 c.in_err-passes.ensures in
    rw (p.1, p.2) (card-done checked_lines c.args.card.now read.0 read.1 ∙ refused, refl)

pub trains-requires : goal.trains-requires
trains-requires c =
    let good = plan-good (the_plan c.in_ok-plan.plan) c.in_ok-passes.ensures in
    omega (arith, good.listed.adds, good.cars)

pub returns : goal.returns
unfolding nightcard_text
returns c =
    let read = c.in_ok-plan.ensures in
    let p = the_plan c.in_ok-plan.plan in
    let text = plan-done p c.in_ok-passes.ensures ∙ sym (card-done checked_lines c.args.card.now read.0 read.1) in
    let all = grows_same text (grows_then c.counts.ensures c.trains.ensures) in
    search rules
