-- A search over n numbers, of which i have passed and k is the next: what is left of it finds what the whole finds.
use mathlib.Core.Path.{◌≡◌, sym, ap, ◌∙◌}
use mathlib.Core.Bool.{Bool, true, false}
use Prim.Native.Nat.{ℕ, suc, ◌+◌, ◌-◌, ◌≤◌, ◌<◌}
use native.Mathlib.Nat.{sub-zero}
use native.Mathlib.Numerals.{add-one}
use native.Mathlib.Omega.{arith}
use Rattle.yard.specs.Words.{first}
use Rattle.yard.proofs.general.First.{first-hits, first_goes, first_ends}

pub left-start : (p : ℕ → Bool) (n a : ℕ) → first p (n - 0) a ≡ first p n a
left-start p n a = ap (λ (k : ℕ). first p k a) (sub-zero n)

module _ (p : ℕ → Bool) (n whole i k : ℕ) (left : first p (n - i) k ≡ whole) where
  pub left-hits : i < n → p k ≡ true → k ≡ whole
  left-hits l e = sym (first-hits p n i k l e) ∙ left

  pub left-goes : i < n → p k ≡ false → first p (n - (i + 1)) (k + 1) ≡ whole
  left-goes l e = sym (first_goes p n i k l e) ∙ left

  pub left-ends : n ≤ i → k ≡ whole
  left-ends l = sym (first_ends p n i k l) ∙ left

-- the same over the places 1 to n of a list, by the index i
module _ (p : ℕ → Bool) (n whole i : ℕ) (left : first p (n - i) (i + 1) ≡ whole) where
  pub place-hits : i < n → p (suc i) ≡ true → i + 1 ≡ whole
  place-hits l e = left-hits p n whole i (i + 1) left l (ap p (add-one i) ∙ e)

  pub place-goes : i < n → p (suc i) ≡ false → first p (n - (i + 1)) (i + 1 + 1) ≡ whole
  place-goes l e = left-goes p n whole i (i + 1) left l (ap p (add-one i) ∙ e)

  pub place-ends : n ≤ i → i ≤ n → n + 1 ≡ whole
  place-ends l h =
      let end : n + 1 ≡ i + 1 = omega arith in
      end ∙ left-ends p n whole i (i + 1) left l
