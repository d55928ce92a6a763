-- A number between two others, as a test and as a fact.
use mathlib.Core.Path.{◌≡◌}
use mathlib.Core.Bool.{true, ◌&&◌}
use Prim.Native.Nat.{ℕ, ◌≤◌}
use lib.Dec.{leb}
use borrow.Author.Tests.{leb-true}
use Rattle.yard.proofs.general.Bools.{and_left, and_right}

pub between : (low x high : ℕ) → (leb low x && leb x high) ≡ true → (low ≤ x) × (x ≤ high)
between low x high t =
    (leb-true low x (and_left (leb low x) (leb x high) t), leb-true x high (and_right (leb low x) (leb x high) t))
