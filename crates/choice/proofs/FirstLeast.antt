-- Laws of the search for the first number at which a cost is least.
use mathlib.Core.Path.{◌≡◌, refl, sym, ap, ap₂, ◌∙◌}
use mathlib.Core.Bool.{Bool, true, false, cond}
use mathlib.Core.Logic.{⊎_elim}
use Prim.Native.Nat.{ℕ, zero, suc, ◌+◌, ◌-◌, ◌≤◌, ◌<◌}
use native.Mathlib.Nat.{le_refl, eq-or-lt_of_le}
use native.Mathlib.Omega.{arith}
use lib.Dec.{leb}
use borrow.Author.Tests.{leb-true, leb-false, le-leb, lt-leb}
use Rattle.choice.specs.Rows.{first_least}

-- what holds of a where x is at most y, and of l where it is more, holds of the one that the test takes
either : (P : ℕ → Type 0) (x y a l : ℕ) → (x ≤ y → P a) → (y < x → P l) → P (cond (leb x y) a l)
either P x y a l small large = go (leb x y) refl
  where
    go : (b : Bool) → leb x y ≡ b → P (cond b a l)
    go true e = small (leb-true x y e)
    go false e = large (leb-false x y e)

module _ (g : ℕ → ℕ) where
  pub first_least-from : (n a : ℕ) → a ≤ first_least g n a
  first_least-from zero a = le_refl a
  first_least-from (suc n) a = either (λ r. a ≤ r) (g a) (g later) a later (λ t. le_refl a) (λ t. omega (arith, first_least-from n (suc a)))
    where
      later : ℕ
      later = first_least g n (suc a)

  pub first_least-to : (n a : ℕ) → first_least g n a ≤ a + n
  first_least-to zero a = omega arith
  first_least-to (suc n) a = either (λ r. r ≤ a + suc n) (g a) (g later) a later (λ t. omega arith) (λ t. omega (arith, first_least-to n (suc a)))
    where
      later : ℕ
      later = first_least g n (suc a)

  -- none of the numbers costs less
  pub first_least-least : (n a e : ℕ) → a ≤ e → e ≤ a + n → g (first_least g n a) ≤ g e
  first_least-least zero a e l m =
      let here : a ≡ e = omega arith in
      omega (arith, ap g here)
  first_least-least (suc n) a e l m =
      ⊎_elim (λ here. omega (arith, both.0, ap g here)) (λ far. omega (arith, both.1, first_least-least n (suc a) e far (omega arith))) (eq-or-lt_of_le l)
    where
      later : ℕ
      later = first_least g n (suc a)

      both : (g (first_least g (suc n) a) ≤ g a) × (g (first_least g (suc n) a) ≤ g later)
      both = either (λ r. (g r ≤ g a) × (g r ≤ g later)) (g a) (g later) a later (λ t. (omega arith, t)) (λ t. (omega arith, omega arith))

  -- and each before it costs more
  pub first_least-first : (n a e : ℕ) → a ≤ e → e < first_least g n a → g (first_least g n a) < g e
  first_least-first zero a e l m = absurd (omega arith)
  first_least-first (suc n) a e l m =
      either (λ r. e < r → g r < g e) (g a) (g later) a later
      (λ t near. absurd (omega arith))
      (λ t near. ⊎_elim (λ here. omega (arith, ap g here)) (λ far. first_least-first n (suc a) e far near) (eq-or-lt_of_le l))
      m
    where
      later : ℕ
      later = first_least g n (suc a)

-- costs that agree on the numbers have the same first least
pub first_least-same : (g h : ℕ → ℕ) (n a : ℕ) → ((e : ℕ) → a ≤ e → e ≤ a + n → g e ≡ h e) → first_least g n a ≡ first_least h n a
first_least-same g h zero a same = refl
first_least-same g h (suc n) a same =
    let last = first_least h n (suc a) in
    ap₂ (λ (x l : ℕ). cond (leb x (g l)) a l) (same a (le_refl a) (omega arith))
    (first_least-same g h n (suc a) (λ e l m. same e (omega arith) (omega arith))) ∙
    ap (λ (y : ℕ). cond (leb (h a) y) a last) (same last (omega (arith, first_least-from h n (suc a))) (omega (arith, first_least-to h n (suc a))))

-- ---- the search from the last number on

-- of the numbers from d on below the width the first least, and what it costs; where there is none, a cost beyond all
abbrev pub Held : (ℕ → ℕ) → ℕ → ℕ → ℕ → ℕ → Type 0
Held g width d least pick = (width ≤ d → least ≡ 65535) × (d < width → (pick ≡ first_least g (width - suc d) d) × (least ≡ g pick))

module _ (g : ℕ → ℕ) (width d : ℕ) {least pick : ℕ} (l : d < width) (h : Held g width (suc d) least pick) where
  next : suc d < width → first_least g (width - suc d) d ≡ cond (leb (g d) least) d pick
  next more =
      let one : width - suc d ≡ suc (width - suc (suc d)) = omega arith in
      let later = h.1 more in
      ap (λ (n : ℕ). first_least g n d) one ∙ ap₂ (λ (x p : ℕ). cond (leb (g d) x) d p) (ap g (sym later.0) ∙ sym later.1) (sym later.0)

  pub held-here : g d ≤ least → Held g width d (g d) d
  held-here t = (
    λ far. absurd (omega arith),
    λ m. (
      ⊎_elim
          (λ last.
          let none : width - suc d ≡ 0 = omega arith in
          rw none refl)
          (λ more. sym (next more ∙ rw (le-leb (g d) least t) refl))
          (eq-or-lt_of_le l),
      refl,
    ),
  )

  pub held-later : g d ≤ 65535 → least < g d → Held g width d least pick
  held-later small t = (
    λ far. absurd (omega arith),
    λ m. ⊎_elim
        (λ last. absurd (omega (arith, h.0 (omega arith))))
        (λ more. (sym (next more ∙ rw (lt-leb (g d) least t) refl), (h.1 more).1))
        (eq-or-lt_of_le l),
  )
