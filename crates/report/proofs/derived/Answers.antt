-- The proof of `derived`: what the reader or derive refuses is told, and the plan that derive finds is drawn.
use mathlib.Core.Path.{refl, sym, ◌∙◌}
use lib.ListN.{length}
use lib.Seq.{length-take-le}
use Rattle.std.proofs.lemmas.Result.{err_from_is_err_and}
use Rattle.yard.specs.Night.{Plan}
use Rattle.yard.specs.Lent.{the_night}
use Rattle.report.specs.Programs.{nightplan_in, of_derived, card_in}
use Rattle.report.proofs.Programs.{card-refused, card-done, derive-refused, derived-within, plan-derived, drawn, puts_same}
use Rattle.report.proofs.derived.Goals as goal

pub returns-in_err-night : goal.returns-in_err-night
unfolding nightplan_in
returns-in_err-night c =
    let out : Plan → _ = λ p. of_derived (card_in (length c.args.out.now)) p.night in
    let p = err_from_is_err_and c.from_residual.result c.from_residual.ensures.1 in
    rw (p.1, p.2) (card-refused out c.args.card.now c.in_err-night.field-0.0 c.in_err-night.ensures, refl)

pub returns-in_err-steps : goal.returns-in_err-steps
unfolding nightplan_in
returns-in_err-steps c =
    let put = card_in (length c.args.out.now) in
    let p = err_from_is_err_and c.from_residual-in_err-steps.result c.from_residual-in_err-steps.ensures.1 in
    let read = c.in_ok-night.ensures in
    let night = the_night c.in_ok-night.field-0.night in
    let refused = derive-refused night c.in_err-steps.field-0.0 put c.in_err-steps.ensures in
    rw (p.1, p.2) (card-done (λ p. of_derived put p.night) c.args.card.now read.0 read.1 ∙ refused, refl)

pub slice_bounds-codes-end : goal.slice_bounds-codes-end
slice_bounds-codes-end c = derived-within (the_night c.in_ok-night.field-0.night) c.in_ok-steps.ensures

pub slice_bounds-codes-end-2 : goal.slice_bounds-codes-end-2
slice_bounds-codes-end-2 c =
    let within = derived-within (the_night c.in_ok-night.field-0.night) c.in_ok-steps.ensures in
    sym (length-take-le (length c.in_ok-night.field-0.night.inbound.now) c.derive.new.codes within)

pub returns : goal.returns
unfolding nightplan_in
returns c =
    let put = card_in (length c.args.out.now) in
    let read = c.in_ok-night.ensures in
    let night = the_night c.in_ok-night.field-0.night in
    puts_same c.args.out.now c.write.new.card c.write.result
    (sym (card-done (λ p. of_derived put p.night) c.args.card.now read.0 read.1))
    (drawn night c.in_ok-steps.ensures c.args.out.now c.write.result (plan-derived night c.in_ok-steps.ensures) c.write.ensures)
