-- The proof of `unruled_in`: what std finds is what the yard's search finds.
use mathlib.Core.Path.{◌≡◌, refl, sym, ap, ◌∙◌}
use Prim.Native.Nat.{ℕ, ◌+◌, ◌-◌}
use native.Mathlib.Omega.{arith}
use Rattle.std.proofs.Common.{rules, tests}
use Rattle.std.proofs.lemmas.Iterator.{YieldsList-from_range}
use Rattle.std.proofs.lemmas.Iterator.Search.{find_from_yields_List}
use Rattle.yard.specs.Words.{first}
use Rattle.scan.specs.Found.{found}
use Rattle.scan.proofs.Positions.{find-found, option_map-same}
use Rattle.pairs.specs.Pairs.{unruled_by}
use Rattle.pairs.proofs.Cars.unruled_in.Goals as goal

pub returns : goal.returns
returns c =
    let from = c.args.train.now.start + 1 in
    let n = c.args.train.now.end - from in
    let p = unruled_by c.args.self.places.now c.args.self.codes.now in
    let whole : from + n ≡ c.args.train.now.end = omega arith in
    sym (option_map-same c.find.result) ∙
    (find_from_yields_List p _ _ c.find.result c.find.ensures.ran (YieldsList-from_range from c.args.train.now.end n refl refl) (λ x b q k. search (rules, tests)) ∙
    (find-found p from n ∙ ap (λ (e : ℕ). found e (first p n from)) whole))
