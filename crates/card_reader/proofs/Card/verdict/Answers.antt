-- The proof of `Card::verdict`: the tests are made in parts, and a part that refuses is the verdict.
use mathlib.Core.Path.{◌≡◌, sym, ap, ◌∙◌}
use borrow.Author.Rules.{rules}
use lib.ListN.{length}
use lib.Seq.{length-take-le, take_at}
use Rattle.std.specs.Prelude.{Err}
use Rattle.yard.specs.declared.Answer.{Answer}
use Rattle.bits.proofs.Places.{length-fields_at}
use Rattle.card_reader.proofs.Reading.{head_bounded, at-head, at-sizes, at-lists, at-last}
use Rattle.card_reader.proofs.Card.verdict.Goals as goal

pub returns-in_err-head_tests-clause-verdict : goal.returns-in_err-head_tests-clause-verdict
returns-in_err-head_tests-clause-verdict c =
    let args = c.args in
    let e = c.in_err-head_tests.field-0.0 in
    let is : c.from_residual.result ≡ Err e = search rules in
    rw is (at-head args.self.now.bytes.now args.room.lengths args.room.inbound args.room.codes args.self.now.head_is e c.in_err-head_tests.ensures)

pub returns-in_err-size_tests-clause-verdict : goal.returns-in_err-size_tests-clause-verdict
returns-in_err-size_tests-clause-verdict c =
    let args = c.args in
    let e = c.in_err-size_tests.field-0.0 in
    let is : c.from_residual-in_err-size_tests.result ≡ Err e = search rules in
    rw is
    (at-sizes args.self.now.bytes.now args.room.lengths args.room.inbound args.room.codes args.self.now.head_is c.in_ok-head_tests.ensures e
    c.in_err-size_tests.ensures)

pub slice_bounds-lists-end-2 : goal.slice_bounds-lists-end-2
slice_bounds-lists-end-2 c =
    let args = c.args in
    let head = args.self.now.head in
    let bounded = head_bounded (length args.self.now.bytes.now) head (sym (ap (λ (r : Answer). r.number) c.in_ok-head_tests.ensures)) in
    sym (length-take-le head.trains args.trains.now (c.requires bounded).0)

pub slice_bounds-lists-end-4 : goal.slice_bounds-lists-end-4
slice_bounds-lists-end-4 c =
    let args = c.args in
    let head = args.self.now.head in
    let bounded = head_bounded (length args.self.now.bytes.now) head (sym (ap (λ (r : Answer). r.number) c.in_ok-head_tests.ensures)) in
    sym (length-take-le head.cars args.order.now (c.requires bounded).1)

pub lists-night-requires : goal.lists-night-requires
lists-night-requires c =
    let args = c.args in
    let head = args.self.now.head in
    let bounded = head_bounded (length args.self.now.bytes.now) head (sym (ap (λ (r : Answer). r.number) c.in_ok-head_tests.ensures)) in
    let held = c.requires bounded in
    (bounded, length-take-le head.trains args.trains.now held.0, length-take-le head.cars args.order.now held.1)

pub returns-in_err-night-clause-verdict : goal.returns-in_err-night-clause-verdict
returns-in_err-night-clause-verdict c =
    let args = c.args in
    let e = c.in_err-night.field-0.0 in
    let is : c.from_residual-in_err-night.result ≡ Err e = search rules in
    rw is
    (at-lists args.self.now.bytes.now args.room.lengths args.room.inbound args.room.codes args.self.now.head_is c.in_ok-head_tests.ensures
    c.in_ok-size_tests.ensures e (rw c.in_err-night.was at c.lists-night.ensures.tests))

pub returns-clause-verdict : goal.returns-clause-verdict
returns-clause-verdict c =
    let args = c.args in
    at-last args.self.now.bytes.now args.room.lengths args.room.inbound args.room.codes args.self.now.head_is c.in_ok-head_tests.ensures
    c.in_ok-size_tests.ensures (rw c.in_ok-night.was at c.lists-night.ensures.tests) c.last_tests.ensures

pub returns-clause-held : goal.returns-clause-held
returns-clause-held c =
    let bytes = c.args.self.now.bytes.now in
    let head = c.args.self.now.head in
    let lengths = c.lists-night.ensures.lengths in
    let inbound = c.lists-night.ensures.inbound in
    λ _. record {
      lengths = take_at c.lists-night.new.lengths _ head.trains (ap length lengths ∙ length-fields_at bytes _ _ head.trains) ∙ lengths;
      inbound = take_at c.lists-night.new.inbound _ head.cars (ap length inbound ∙ length-fields_at bytes _ _ head.cars) ∙ inbound;
    }
