-- The proof of `plan`: the steps are enough or not, and the codes found have the fewest passes.
use mathlib.Core.Path.{refl}
use Prim.Native.Nat.{◌≤◌}
use native.Mathlib.Omega.{arith}
use Rattle.yard.specs.Derived.{steps_needed}
use Rattle.yard.specs.Lent.{the_night}
use Rattle.yard.proofs.calls.Larger.{first-at-most, larger-derive}
use Rattle.derive.proofs.Coded.{given-needy}
use Rattle.fewest.proofs.Finding.{numbers-blocked, found-settled, found-refused}
use Rattle.fewest.proofs.plan.Goals as goal

-- what the first limits allow the larger ones of derive allow, too
pub needed-needed-requires : goal.needed-needed-requires
needed-needed-requires c = given-needy (the_night c.args.night) (larger-derive first-at-most c.requires) c.requires.given.counts.cars.1

pub returns-then-steps-needed : goal.returns-then-steps-needed
returns-then-steps-needed c =
    let night = the_night c.args.night in
    let given = c.requires.given in
    found-refused night c.args.steps given.lists given.counts.tracks.0 given.counts.trains.0
    (c.needed-needed.ensures.steps night.room) refl c.if-steps-needed.true

pub find-requires : goal.find-requires
find-requires c =
    let night = the_night c.args.night in
    let enough : steps_needed night ≤ c.args.steps = omega (arith, c.needed-needed.ensures.steps night.room, c.if-steps-needed.false) in
    let given = c.requires.given in (
      given.counts.tracks,
      given.counts.steps.1,
      numbers-blocked night c.args.steps given.lists given.counts.tracks.0 c.needed-needed.ensures
          enough given.counts.cars.1,
    )

pub returns : goal.returns
returns c =
    let night = the_night c.args.night in
    let enough : steps_needed night ≤ c.args.steps = omega (arith, c.needed-needed.ensures.steps night.room, c.if-steps-needed.false) in
    let given = c.requires.given in
    found-settled night c.args.steps given.lists given.counts.tracks.0 c.needed-needed.ensures c.find.ensures enough refl c.settle.ensures
