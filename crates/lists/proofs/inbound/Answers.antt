-- The proof of `inbound`: a bad place is one of the list.
use Rattle.std.proofs.Common.{length, arith}
use Rattle.yard.specs.Answers.{bad_place}
use Rattle.yard.proofs.general.First.{first-from}
use Rattle.scan.proofs.Found.{some_found}
use Rattle.lists.proofs.inbound.Goals as goal

pub first_listing-requires : goal.first_listing-requires
first_listing-requires c =
    let inbound = c.args.inbound.now in
    let place = some_found c.in-Some.ensures in
    (omega (arith, place.0, first-from (bad_place inbound) (length inbound) 1), omega (arith, place.0, place.1))
