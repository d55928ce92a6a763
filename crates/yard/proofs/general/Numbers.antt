-- Laws of numbers that the library lacks.
use mathlib.Core.Path.{◌≡◌, sym, subst}
use mathlib.Core.Logic.{◌⊎◌, inl, inr, ⊎_elim}
use Prim.Native.Nat.{ℕ, suc, ◌≤◌, ◌<◌}
use native.Mathlib.Nat.{lt_of_not-le, eq-or-lt_of_le, le_of_suc-le-suc}
use native.Mathlib.Decide.{dec_le}

pub le-or-lt : (a b : ℕ) → (a ≤ b) ⊎ (b < a)
le-or-lt a b = go (dec_le a b)
  where
    go : Dec (a ≤ b) → (a ≤ b) ⊎ (b < a)
    go (yes h) = inl h
    go (no h) = inr (lt_of_not-le h)

pub below_suc : {k s : ℕ} → k < suc s → (k ≡ s) ⊎ (k < s)
below_suc m = eq-or-lt_of_le (le_of_suc-le-suc m)

-- what holds below s, and at s, holds below s + 1
pub below_more : (P : ℕ → Type 0) (s : ℕ) → ((k : ℕ) → k < s → P k) → P s → (k : ℕ) → k < suc s → P k
below_more P s all here k m = ⊎_elim (λ e. subst P (sym e) here) (λ l. all k l) (below_suc m)

-- two numbers compare in one of three ways
pub compared : (A : Type 0) (a b : ℕ) → (a < b → A) → (a ≡ b → A) → (b < a → A) → A
compared A a b lt eq gt = ⊎_elim (λ le. ⊎_elim eq lt (eq-or-lt_of_le le)) gt (le-or-lt a b)
