-- The number at a place of a list is found at this place or before it.
use mathlib.Core.Path.{◌≡◌, ◌∙◌, refl}
use mathlib.Core.Logic.{⊎_elim}
use mathlib.Core.List.{List}
use Prim.Native.Nat.{ℕ, ◌+◌, ◌≤◌}
use native.Mathlib.Omega.{arith}
use lib.Dec.{eqb}
use lib.ListN.{length}
use borrow.Author.Tests.{eq-eqb, lt-ltb}
use Rattle.std.specs.Prelude.{Option, unwrap_or}
use Rattle.yard.specs.Night.{item_of}
use Rattle.yard.specs.Answers.{first_with}
use Rattle.yard.proofs.general.First.{first-least}
use Rattle.scan.specs.Found.{found}

pub listed : (l : List ℕ) (place : ℕ) → 1 ≤ place → place ≤ length l →
    unwrap_or (found (1 + length l) (first_with (item_of l place) l)) 0 ≡ first_with (item_of l place) l
listed l place from to = rw (lt-ltb (first_with x l) (1 + length l) (omega (arith, within))) refl
  where
    x : ℕ
    x = item_of l place

    within : first_with x l ≤ length l
    within =
        ⊎_elim (λ m. omega arith) (λ m. absurd (omega arith))
        (first-least (λ k. eqb (item_of l k) x) (length l) 1 place from (eq-eqb x x refl))
