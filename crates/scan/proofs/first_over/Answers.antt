-- The proof of `first_over`: the index that is found, from 1.
use Rattle.std.proofs.Common.{rules}
use Rattle.scan.proofs.Positions.{over_place}
use Rattle.scan.proofs.first_over.Goals as goal

pub returns : goal.returns
returns c = over_place c.args.bound c.args.items.now (search rules)
