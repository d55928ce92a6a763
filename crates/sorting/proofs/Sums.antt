-- Where the fullest pull has room, each has.
use mathlib.Core.Path.{◌≡◌, ◌∙◌}
use mathlib.Core.List.{List}
use Prim.Native.Nat.{ℕ, ◌≤◌}
use native.Mathlib.Nat.{zero-add}
use native.Mathlib.Omega.{arith}
use borrow.Author.Tests.{le-ltb}
use Rattle.yard.specs.Words.{up_from}
use Rattle.yard.proofs.general.First.{first-fails}
use Rattle.yard.proofs.general.Lists.{count-up_from-in}
use Rattle.yard.proofs.yards.Trains.{most-above}
use Rattle.sorting.specs.Sums.{pull_of, above, first_above, fullest_of}

pub never-above : (C h : ℕ) (codes : List ℕ) → fullest_of codes h ≤ C → first_above C codes h ≡ h
never-above C h codes room =
    first-fails (above C codes) h 0
    (λ s a b.
    let within = most-above (pull_of codes) (up_from 0 h) s (omega (arith, count-up_from-in s 0 h a b)) in
    le-ltb C (pull_of codes s) (omega (arith, within))) ∙
    zero-add h
