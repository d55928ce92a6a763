-- Nothing is to be found where no item is the number that is looked for.
use mathlib.Core.Path.{◌≡◌, ap, sym}
use mathlib.Core.Bool.{Bool, true, not}
use mathlib.Core.List.{List}
use Prim.Native.Nat.{ℕ, ◌+◌, ◌-◌}
use native.Mathlib.Omega.{arith}
use lib.Dec.{eqb}
use lib.ListN.{length}
use borrow.Author.Tests.{lt-ltb}
use Rattle.yard.specs.Words.{every}
use Rattle.yard.specs.Night.{item_of}
use Rattle.yard.specs.Answers.{says, test, first_with, zero_test}
use Rattle.yard.proofs.general.Bools.{not-true}
use Rattle.yard.proofs.general.First.{first-fails}
use Rattle.scan.proofs.Running.{each}

pub none-zero : (codes : List ℕ) → every (λ x. not (eqb x 0)) codes ≡ true → says 0 0 0 ≡ zero_test true codes
none-zero codes none = sym (ap (λ (b : Bool). test b (says 14 (first_with 0 codes) 0)) (lt-ltb (length codes) (first_with 0 codes) (omega (arith, past))))
  where
    past : first_with 0 codes ≡ 1 + length codes
    past =
        first-fails (λ car. eqb (item_of codes car) 0) (length codes) 1
        (λ car l m. not-true (eqb (item_of codes car) 0) (each (λ x. not (eqb x 0)) codes none (car - 1) (omega arith)))
