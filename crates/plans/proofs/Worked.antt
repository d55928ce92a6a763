-- The places by car as the array that they fill has them.
use mathlib.Core.Path.{◌≡◌, sym, ap, ◌∙◌}
use mathlib.Core.List.{List, map}
use Prim.Native.Nat.{ℕ}
use lib.ListN.{take}
use Rattle.yard.specs.Night.{cars}
use Rattle.scan.specs.Front.{Front}
use Rattle.scan.proofs.Front.{front_items}

-- the part of an array that a list by car fills
pub part-front : (f : ℕ → ℕ) {n m : ℕ} {before now : List ℕ} → n ≡ m → Front (map f (cars m)) before m now → take (n) now ≡ map f (cars n)
part-front f {n} {m} {before} {now} e front =
    ap (λ (k : ℕ). take k now) e ∙ (front_items front ∙ ap (λ (k : ℕ). map f (cars k)) (sym e))
