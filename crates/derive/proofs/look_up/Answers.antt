-- The proof of `look_up`: the numbers passed have become items.
use mathlib.Core.List.{[], List, map}
use mathlib.Core.Path.{◌≡◌, sym, subst, ◌∙◌}
use Prim.Native.Nat.{ℕ, ◌+◌, ◌<◌}
use native.Mathlib.Omega.{arith}
use lib.ListN.{length, get_or, set, length-set, take}
use Rattle.scan.specs.Front.{Front}
use Rattle.scan.proofs.Front.{front-through, front-behind}
use Rattle.derive.proofs.look_up.Goals as goal

-- one item more, read at whatever index is the number that stood there
looked : (items numbers : List ℕ) {t : List ℕ} {i q : ℕ} → i < length numbers → q ≡ get_or numbers i 0 →
    Front (map (λ k. get_or items k 0) (take i numbers)) numbers i t →
    Front (map (λ k. get_or items k 0) (take (i + 1) numbers)) numbers (i + 1) (set t i (get_or items q 0))
looked items numbers {t} {i} m is front =
    subst (λ (k : ℕ). Front (map (λ k. get_or items k 0) (take (i + 1) numbers)) numbers (i + 1) (set t i (get_or items k 0)))
    (sym is) (front-through [] (λ k. get_or items k 0) numbers m m front)

pub loop-number-preserved : goal.loop-number-preserved
loop-number-preserved c =
    let args = c.args in
    let held = c.loop-number.invariant in (
      length-set c.loop-number.numbers c.loop-number.number-index _ ∙ held.0,
      looked args.items.now args.numbers.now (omega arith) (omega (arith, c.from.ensures, front-behind held.1)) held.1,
    )
