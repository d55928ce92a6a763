-- The proof of `first_pair_by`: the first items of the list are the places by car.
use mathlib.Core.List.{List}
use mathlib.Core.Path.{ap, ◌∙◌}
use Prim.Native.Nat.{ℕ, ◌-◌}
use lib.ListN.{length}
use Rattle.yard.specs.Words.{place, first}
use Rattle.yard.specs.Lent.{the_plan}
use Rattle.scan.specs.Found.{found}
use Rattle.pairs.specs.Pairs.{unruled_at}
use Rattle.plans.proofs.Worked.{part-front}
use Rattle.plans.proofs.Formed.first_pair_by.Goals as goal

pub returns : goal.returns
returns g c =
    let p = the_plan c.args.self.plan in
    let n = length p.codes in
    c.first_unruled.ensures ∙
    ap (λ (u : List ℕ). found n (first (unruled_at p.night.lengths u p.codes) (n - 1) 1))
    (part-front (λ car. place car p.night.inbound) c.args.self.counted.each c.places.ensures)
