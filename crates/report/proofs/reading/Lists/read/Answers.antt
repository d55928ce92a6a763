-- The proof of `read`: the reader refuses the card, or its lists stand at the front of the arrays.
use native.Mathlib.Omega.{arith}
use mathlib.Core.Path.{refl}
use Rattle.std.proofs.lemmas.Result.{err_from_is_err_and}
use Rattle.card.proofs.Calls.{plan-read}
use Rattle.report.proofs.Programs.{read-as, lengths-within, inbound-within}
use Rattle.report.proofs.reading.Lists.read.Goals as goal

pub returns-in_err-head : goal.returns-in_err-head
returns-in_err-head c =
    let p = err_from_is_err_and c.from_residual.result c.from_residual.ensures.1 in
    rw (p.1, p.2) (read-as c.in_err-head.ensures (omega arith) (omega arith) (omega arith))

pub shared_ref_as_front-lengths : goal.shared_ref_as_front-lengths
shared_ref_as_front-lengths c = omega (arith, lengths-within c.in_ok-head.ensures refl)

pub shared_ref_as_front-inbound : goal.shared_ref_as_front-inbound
shared_ref_as_front-inbound c = omega (arith, inbound-within c.in_ok-head.ensures refl)

pub returns : goal.returns
returns c = (read-as c.in_ok-head.ensures (omega arith) (omega arith) (omega arith), plan-read c.in_ok-head.ensures refl)
