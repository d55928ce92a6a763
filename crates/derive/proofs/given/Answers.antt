-- The proof of `given`: each refusal is that of the tests before those that come later.
use mathlib.Core.Path.{◌≡◌, ap, sym, refl, ◌∙◌}
use mathlib.Core.List.{[]}
use native.Mathlib.Nat.{le_trans}
use lib.Dec.{leb}
use lib.ListN.{length}
use Rattle.std.specs.Prelude.{Result, Err}
use Rattle.std.proofs.Common.{rules}
use Rattle.yard.specs.declared.Answer.{Answer}
use Rattle.yard.specs.Lent.{the_night}
use Rattle.yard.specs.Refusals.{refused, test_told}
use Rattle.yard.specs.Answers.{says, verdict, list_test}
use Rattle.yard.specs.Calls.{night_tests}
use Rattle.yard.proofs.calls.Verdict.{stops, goes_on}
use Rattle.yard.proofs.calls.Told.{refused-not_done}
use Rattle.intake.proofs.Passed.{counts-within}
use Rattle.derive.proofs.Answered.{given-counts, given-lists}
use Rattle.derive.proofs.given.Goals as goal

pub returns-in_err-night_counts : goal.returns-in_err-night_counts
returns-in_err-night_counts c =
    let args = c.args in
    let e = c.in_err-night_counts.field-0.0 in
    let is : c.from_residual.result ≡ Err e = search rules in
    ap test_told is ∙ given-counts args.most (the_night args.night) args.limit args.size c.in_err-night_counts.ensures (refused-not_done e)

pub lists-requires : goal.lists-requires
lists-requires c =
    let args = c.args in
    let night = the_night args.night in
    let within = (counts-within args.most (length night.inbound) (length night.lengths) night.tracks night.room args.limit).0
    (ap (λ (a : Answer). a.number) (sym c.in_ok-night_counts.ensures)) in
    (le_trans within.trains.1 c.requires.0, le_trans within.cars.1 c.requires.1)

pub returns-in_err-lists : goal.returns-in_err-lists
returns-in_err-lists c =
    let args = c.args in
    let night = the_night args.night in
    let e = c.in_err-lists.field-0.0 in
    let is : c.from_residual-in_err-lists.result ≡ Err e = search rules in
    let buffer = list_test 3 (leb (length night.inbound) args.size) in
    ap test_told is ∙
    given-lists args.most night args.limit args.size c.in_ok-night_counts.ensures refl
    (stops (verdict (night_tests night) (says 0 0 0)) [] buffer (refused e) c.in_err-lists.ensures (refused-not_done e))

pub returns : goal.returns
returns c =
    let args = c.args in
    let night = the_night args.night in
    let buffer = list_test 3 (leb (length night.inbound) args.size) in
    given-lists args.most night args.limit args.size c.in_ok-night_counts.ensures refl
    (goes_on (verdict (night_tests night) (says 0 0 0)) [] buffer (says 0 0 0) c.in_ok-lists.ensures (test_told c.list.result) refl c.list.ensures)
