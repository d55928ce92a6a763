-- The proof of `Pulls::first_above`: nothing to find where the fullest pull has room, and else what std finds is what the yard's search finds.
use mathlib.Core.Path.{sym, ◌∙◌, refl}
use native.Mathlib.Omega.{arith}
use native.Mathlib.Nat.{zero-add}
use Rattle.std.proofs.Common.{rules, tests}
use Rattle.std.proofs.lemmas.Iterator.{YieldsList-from_range}
use Rattle.std.proofs.lemmas.Iterator.Search.{find_from_yields_List}
use Rattle.scan.proofs.Found.{found_none}
use Rattle.scan.proofs.Positions.{find-found, option_map-same}
use Rattle.sorting.specs.Sums.{above}
use Rattle.sorting.proofs.Sums.{never-above}
use Rattle.sorting.proofs.Pulls.first_above.Goals as goal

pub returns-then-self-room : goal.returns-then-self-room
returns-then-self-room c =
    let pulls = c.args.self in
    found_none (omega (arith, never-above c.args.room pulls.steps pulls.codes.now (omega arith)))

pub returns : goal.returns
returns c =
    let pulls = c.args.self in
    let p = above c.args.room pulls.codes.now in
    sym (option_map-same c.find.result) ∙
    (find_from_yields_List p _ _ _ c.find.ensures.ran (YieldsList-from_range 0 pulls.steps pulls.steps refl (omega arith)) (λ x b q k. search (rules, tests))
    ∙ (find-found p 0 pulls.steps ∙ rw zero-add refl))
