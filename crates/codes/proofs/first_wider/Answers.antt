-- The proof of `first_wider`: codes of few steps are codes of the table, and what std finds is what the yard's search finds.
use Prim.Native.Nat.{◌<◌, ◌≤◌, ◌^◌}
use mathlib.Core.Path.{◌≡◌, ◌∙◌}
use native.Mathlib.Omega.{arith}
use native.Mathlib.Nat.{lt_of_lt_of_le}
use lib.Pow.{pow_mono}
use lib.ListN.{get_or}
use Rattle.std.proofs.Common.{rules, tests}
use Rattle.std.proofs.lemmas.Iterator.Search.{position_from_yields_List}
use Rattle.scan.proofs.Positions.{position-found}
use Rattle.std.proofs.lemmas.Iterator.{YieldsList-from_slice}
use Rattle.std.proofs.lemmas.Iterator.Adapters.{serves_from_places}
use Rattle.std.proofs.lemmas.List.{get_or_read}
use Rattle.codes.proofs.first_wider.Goals as goal
use lib.Dec.{ltb}
use Rattle.yard.specs.Limits.{limits, first_limits}
use Rattle.yard.specs.Codes.{fewest_tracks}

pub position-requires-clause-callable : goal.position-requires-clause-callable
position-requires-clause-callable c =
    let few : c.args.steps ≤ first_limits.steps = omega arith in
    serves_from_places (YieldsList-from_slice c.args.codes.now cc) (λ x q k. search (rules, tests))
    (λ x k l e.
    let at : x.now ≡ get_or c.args.codes.now k 0 = get_or_read c.args.codes.now k x.now l e 0 in
    let small : x.now < 2 ^ first_limits.steps = rw at (lt_of_lt_of_le (c.requires k l) (pow_mono few)) in search (rules, tests))

pub returns-then-steps-le-FIRST_STEPS : goal.returns-then-steps-le-FIRST_STEPS
returns-then-steps-le-FIRST_STEPS c =
    position_from_yields_List (λ x. ltb c.args.tracks (fewest_tracks limits.steps x)) _ _ _ c.position.ensures.ran (YieldsList-from_slice c.args.codes.now cc) (λ x b q k. search (rules, tests))
    ∙ position-found (λ x. ltb c.args.tracks (fewest_tracks limits.steps x)) c.args.codes.now

pub returns : goal.returns
returns c =
    position_from_yields_List (λ x. ltb c.args.tracks (fewest_tracks limits.steps x)) _ _ _ c.position-2.ensures.ran (YieldsList-from_slice c.args.codes.now cc) (λ x b q k. search (rules, tests))
    ∙ position-found (λ x. ltb c.args.tracks (fewest_tracks limits.steps x)) c.args.codes.now
