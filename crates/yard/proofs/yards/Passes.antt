-- Roll-ins counted one by one, to any stage, are n plus the set bits to that stage; and the cars a step takes are those whose code names it.
use mathlib.Core.Path.{◌≡◌, refl, ap, ◌∙◌}
use mathlib.Core.Bool.{Bool, true, false, cond}
use mathlib.Core.List.{List, []}
use Prim.Native.Nat.{ℕ, zero, suc, ◌+◌, ◌≤◌, ◌<◌}
use native.Mathlib.Omega.{arith}
use lib.ListN.{length}
use Rattle.yard.specs.Words.{tally, total}
use Rattle.yard.specs.Replay.{bit, stage}
use Rattle.yard.proofs.general.Lists.{total-add, total-none, total-length, total-same, total-keep}
use Rattle.yard.proofs.yards.Codes.{set_bits, set_bits-suc}
use Rattle.yard.proofs.yards.Replay.{sorted, sorted-total, taken, Clean, standing-sorted, taken-kept, roll_in-rolled, rolled-next}

module _ (W h : ℕ) (code dest : ℕ → ℕ) (inbound : List ℕ) where
  -- what step k takes, weighed by any weight
  pub taken-total : (k : ℕ) → k < h → Clean W h code dest inbound (suc k) → (w : ℕ → ℕ)
      → total w (taken W h code dest inbound k) ≡ total (λ c. cond (bit k (code c)) (w c) 0) inbound
  unfolding Clean
  taken-total k l clean w =
      ap (λ (u : List ℕ). total w u)
      (taken-kept W h code dest inbound k l (standing-sorted W h code dest inbound k (omega arith) (λ j m. clean j (omega arith))) (clean k (omega arith))) ∙
      (total-keep w (λ c. bit k (code c)) (sorted code inbound k) ∙ sorted-total code inbound (λ c. cond (bit k (code c)) (w c) 0) k)

  pub rolled-set : (s : ℕ) → s ≤ h → Clean W h code dest inbound s
      → (stage W h code dest inbound s).rolled ≡ length inbound + total (λ c. set_bits s (code c)) inbound
  unfolding Clean
  rolled-set zero l clean = omega (arith, roll_in-rolled W h code dest 0 (record { standing = λ _. []; rolled = 0 }) inbound, total-none inbound)
  rolled-set (suc s) l clean =
      omega (
        arith,
        rolled-next W h code dest inbound s,
        rolled-set s (omega arith) (λ k m. clean k (omega arith)),
        total-length (taken W h code dest inbound s),
        taken-total s l clean (λ c. 1),
        total-same (λ c. set_bits (suc s) (code c)) (λ c. set_bits s (code c) + cond (bit s (code c)) 1 0) inbound
            (λ c m. set_bits-suc s (code c) ∙ ap (λ (k : ℕ). set_bits s (code c) + k) (one (bit s (code c)))),
        total-add (λ c. set_bits s (code c)) (λ c. cond (bit s (code c)) 1 0) inbound,
      )
    where
      one : (b : Bool) → tally b ≡ cond b 1 0
      one true = refl
      one false = refl
