-- The proof of `read_with`: nothing is written before the verdict, and behind it the lists are where the buffers have room.
use borrow.Author.Rules.{rules}
use mathlib.Core.Path.{◌≡◌, refl}
use Rattle.std.specs.Prelude.{Err}
use Rattle.card_reader.proofs.Reading.{reads-refused, reads-accepted}
use Rattle.card.proofs.read_with.Goals as goal

pub returns-in_err-verdict : goal.returns-in_err-verdict
returns-in_err-verdict g c =
    let a = c.args in
    let e = c.in_err-verdict.field-0.0 in
    let is : c.from_residual.result ≡ Err e = search rules in
    rw is (reads-refused a.card.now.bytes.now a.lengths.now a.inbound.now a.codes.now a.card.now.given e (rw c.in_err-verdict.was at c.verdict-verdict.ensures.verdict))

pub returns : goal.returns
returns g c =
    let a = c.args in
    let held = (rw c.in_ok-verdict.was at c.verdict-verdict.ensures.held) refl in
    rw (c.copy.ensures, held.lengths, c.copy-2.ensures, held.inbound, c.codes.ensures)
    (reads-accepted a.card.now.bytes.now a.lengths.now a.inbound.now a.codes.now a.card.now.given (rw c.in_ok-verdict.was at c.verdict-verdict.ensures.verdict) a.card.now.head_is)
