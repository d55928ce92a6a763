-- The proof of `give_by`: the list in which the numbers are looked up is that of the allowed codes.
use mathlib.Core.Path.{ap}
use native.Mathlib.Omega.{arith}
use lib.ListN.{length}
use Rattle.yard.specs.Codes.{code_number}
use Rattle.yard.proofs.yards.Allowed.{F-allowed}
use Rattle.derive.proofs.give_by.Goals as goal

pub look_up-requires : goal.look_up-requires
look_up-requires g c =
    let night = c.args.night in
    let pre = c.requires.0 in
    λ i l. omega (arith, ap length c.lend_allowed-allowed.ensures, F-allowed night.closed night.tracks c.args.steps pre.tracks.0, pre.below i l)

pub returns : goal.returns
unfolding code_number
returns g c = rw c.lend_allowed-allowed.ensures at c.look_up.ensures
