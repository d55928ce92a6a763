-- The proof of `unruled_pairs`: the pairs counted are those of the cars passed.
use mathlib.Core.Path.{◌≡◌}
use Prim.Native.Nat.{◌+◌, ◌-◌, ◌≤◌}
use Rattle.yard.specs.Words.{tally, total, up_from}
use Rattle.pairs.specs.Pairs.{unruled_by}
use Rattle.pairs.proofs.Cars.unruled_pairs.Given as goal

abbrev pub invariant-loop-j : goal.invariant-loop-j
invariant-loop-j l =
    (l.pairs ≤ l.j)
    × (l.pairs ≡ total (λ j. tally (unruled_by l.self.places.now l.self.codes.now j)) (up_from (l.train.start + 1) (l.j - (l.train.start + 1))))
