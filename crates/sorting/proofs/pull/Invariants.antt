-- The proof of `pull`: the cars counted and those still to be counted are all.
use mathlib.Core.Path.{◌≡◌}
use Prim.Native.Nat.{◌+◌, ◌≤◌}
use lib.ListN.{drop}
use Rattle.sorting.specs.Sums.{pull_of}
use Rattle.sorting.proofs.pull.Given as goal

abbrev pub invariant-loop-code : goal.invariant-loop-code
invariant-loop-code l = (l.cars ≤ l.code-index) × (l.cars + pull_of (drop l.code-index l.codes) l.step ≡ pull_of l.codes l.step)
