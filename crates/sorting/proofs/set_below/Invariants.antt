-- The proof of `set_below`: the bits counted and those still to be counted are all.
use mathlib.Core.Path.{◌≡◌}
use Prim.Native.Nat.{◌+◌, ◌*◌, ◌≤◌}
use lib.ListN.{drop}
use Rattle.sorting.specs.Sums.{set_below}
use Rattle.sorting.proofs.set_below.Given as goal

abbrev pub invariant-loop-code : goal.invariant-loop-code
invariant-loop-code l = (l.again ≤ 16 * l.code-index) × (l.again + set_below l.stage (drop l.code-index l.codes) ≡ set_below l.stage l.codes)
