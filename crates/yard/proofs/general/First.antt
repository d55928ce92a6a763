-- Laws of `first`: the first of the n numbers from a on that passes a test.
use mathlib.Core.Path.{◌≡◌, refl, sym, ap, ap₂, ◌∙◌, subst}
use mathlib.Core.Logic.{◌⊎◌, inl, ⊎_elim}
use mathlib.Core.Bool.{Bool, true, false, cond}
use Prim.Native.Nat.{ℕ, zero, suc, ◌+◌, ◌-◌, ◌≤◌, ◌<◌}
use native.Mathlib.Nat.{le_refl, eq-or-lt_of_le}
use native.Mathlib.Omega.{arith}
use native.Mathlib.Numerals.{add-one}
use Rattle.yard.proofs.general.Numbers.{le-or-lt}
use Rattle.yard.specs.Words.{first}
use Rattle.yard.proofs.general.Bools.{clash}

module _ (p : ℕ → Bool) where
  pub first-from : (n a : ℕ) → a ≤ first p n a
  first-from zero a = le_refl a
  first-from (suc n) a = go (p a) (first-from n (suc a))
    where
      go : (b : Bool) → suc a ≤ first p n (suc a) → a ≤ cond b a (first p n (suc a))
      go true h = le_refl a
      go false h = omega arith

  pub first-le : (n a : ℕ) → first p n a ≤ a + n
  first-le zero a = omega arith
  first-le (suc n) a = go (p a) (first-le n (suc a))
    where
      go : (b : Bool) → first p n (suc a) ≤ suc a + n → cond b a (first p n (suc a)) ≤ a + suc n
      go true h = omega arith
      go false h = omega arith

  -- what lies before the first does not pass
  pub first-none : (n a k : ℕ) → a ≤ k → k < first p n a → p k ≡ false
  first-none zero a k l h = absurd (omega arith)
  first-none (suc n) a k l h = go (p a) refl (first-none n (suc a) k) h
    where
      go : (b : Bool) → p a ≡ b → (suc a ≤ k → k < first p n (suc a) → p k ≡ false) → k < cond b a (first p n (suc a)) → p k ≡ false
      go true e later h = absurd (omega arith)
      go false e later h = ⊎_elim (λ q. subst (λ (j : ℕ). p j ≡ false) q e) (λ m. later m h) (eq-or-lt_of_le l)

  -- the first passes, unless none does
  pub first-hit : (n a : ℕ) → first p n a < a + n → p (first p n a) ≡ true
  first-hit zero a h = absurd (omega arith)
  first-hit (suc n) a h = go (p a) refl (first-hit n (suc a)) h
    where
      go : (b : Bool) → p a ≡ b → (first p n (suc a) < suc a + n → p (first p n (suc a)) ≡ true)
          → cond b a (first p n (suc a)) < a + suc n → p (cond b a (first p n (suc a))) ≡ true
      go true e later h = e
      go false e later h = later (omega arith)

  -- a number that passes lies at the first or behind it
  pub first-least : (n a k : ℕ) → a ≤ k → p k ≡ true → first p n a ≤ k ⊎ (a + n ≤ k)
  first-least n a k l e = ⊎_elim (λ h. inl h) (λ h. clash e (first-none n a k l h)) (le-or-lt (first p n a) k)

  pub first_found : (n a k : ℕ) → a ≤ k → k < a + n → p k ≡ true → ((j : ℕ) → a ≤ j → j < k → p j ≡ false) → first p n a ≡ k
  first_found n a k l h e none =
      ⊎_elim
      (λ m. ⊎_elim (λ q. q) (λ s. clash (first-hit n a (omega arith)) (none (first p n a) (first-from n a) s)) (eq-or-lt_of_le m))
      (λ m. clash e (first-none n a k l m))
      (le-or-lt (first p n a) k)

  pub first-fails : (n a : ℕ) → ((j : ℕ) → a ≤ j → j < a + n → p j ≡ false) → first p n a ≡ a + n
  first-fails n a none =
      ⊎_elim
      (λ q. q)
      (λ s. clash (first-hit n a s) (none (first p n a) (first-from n a) s))
      (eq-or-lt_of_le (first-le n a))

-- tests that agree on the n numbers find the same
pub first-same : (p q : ℕ → Bool) (n a : ℕ) → ((j : ℕ) → a ≤ j → j < a + n → p j ≡ q j) → first p n a ≡ first q n a
first-same p q zero a e = refl
first-same p q (suc n) a e =
    rw (e a (le_refl a) (omega arith)) (ap (λ (k : ℕ). cond (q a) a k) (first-same p q n (suc a) (λ j l h. e j (omega arith) (omega arith))))

-- a search with n - i numbers left, the next of them a: where a passes, where it does not, and where nothing is left
module _ (p : ℕ → Bool) (n i a : ℕ) where
  pub first_next : i < n → first p (n - i) a ≡ cond (p a) a (first p (n - suc i) (suc a))
  first_next l =
      let e : n - i ≡ suc (n - suc i) = omega arith in
      ap (λ (k : ℕ). first p k a) e

  pub first-hits : i < n → p a ≡ true → first p (n - i) a ≡ a
  first-hits l e = first_next l ∙ ap (λ (b : Bool). cond b a (first p (n - suc i) (suc a))) e

  pub first_goes : i < n → p a ≡ false → first p (n - i) a ≡ first p (n - (i + 1)) (a + 1)
  first_goes l e = first_next l
      ∙ (ap (λ (b : Bool). cond b a (first p (n - suc i) (suc a))) e ∙ ap₂ (λ (j b : ℕ). first p (n - j) b) (sym (add-one i)) (sym (add-one a)))

  pub first_ends : n ≤ i → first p (n - i) a ≡ a
  first_ends l =
      let e : n - i ≡ 0 = omega arith in
      ap (λ (k : ℕ). first p k a) e
