-- Laws of the fewest steps: F one step on, and the values that a ring of one slot for each track still holds.
use mathlib.Core.Path.{◌≡◌, refl, sym, ◌∙◌}
use mathlib.Core.Logic.{◌⊎◌, inl, inr, ⊎_elim}
use mathlib.Core.Bool.{Bool}
use mathlib.Core.List.{List}
use Prim.Native.Nat.{ℕ, zero, suc, ◌+◌, ◌*◌, ◌-◌, ◌/◌, ◌%◌, ◌^◌, ◌≤◌, ◌<◌}
use native.Mathlib.Nat.{mod-lt, div-add-mod', lt_of_mul-lt-mul_right, mul-le-mul_right, add-mod_right, eq-or-lt_of_le, two-pow-succ}
use native.Mathlib.Omega.{arith}
use lib.Dec.{leb}
use lib.ListN.{length, get_or, set}
use lib.Seq.{get_or-set_same, get_or-set_other}
use borrow.Author.Tests.{le-leb, lt-leb, leb-false}
use Rattle.yard.specs.Words.{first}
use Rattle.yard.specs.Codes.{F, fewest_steps}
use Rattle.yard.proofs.general.Numbers.{le-or-lt}
use Rattle.yard.proofs.general.First.{first-none, first-hits, first_ends}
use Rattle.yard.proofs.yards.Counting.{take-F, take-F-all}
use Rattle.codes.specs.Ring.{lost, Ring}

pub F-next : (W h : ℕ) → F W (suc h) + lost W h ≡ 2 * F W h
F-next W h = go (le-or-lt W h)
  where
    go : (W ≤ h) ⊎ (h < W) → F W (suc h) + lost W h ≡ 2 * F W h
    go (inl far) = rw (le-leb W h far) (omega (arith, take-F W W h far))
    go (inr near) = rw (lt-leb W h near) (omega (arith, take-F-all W W h near))

pub F-le : (W h : ℕ) → F W h ≤ 2 ^ h
F-le W zero = omega arith
F-le W (suc h) = omega (arith, F-le W h, F-next W h, two-pow-succ h)

-- ---- the ring

module _ (W : ℕ) (pos : 0 < W) where
  apart : (s l : ℕ) → s < l → l < s + W → l % W ≡ s % W → ⊥
  apart s l m n e =
      let q : s / W < l / W = lt_of_mul-lt-mul_right W (omega (arith, div-add-mod' s W, div-add-mod' l W)) in
      omega (arith, div-add-mod' s W, div-add-mod' l W, mul-le-mul_right W q)

  pub ring-next : (ring : List ℕ) (h : ℕ) → W ≤ length ring → Ring W ring h → Ring W (set ring (h % W) (F W h)) (h + 1)
  ring-next ring h room held j l m = ⊎_elim here there (le-or-lt (h + W) j)
    where
      here : h + W ≤ j → get_or (set ring (h % W) (F W h)) (j % W) 0 ≡ lost W j
      here far =
          let e : j ≡ h + W = omega arith in
          let back : h + W - W ≡ h = omega arith in
          rw (e, add-mod_right h W, get_or-set_same ring (h % W) (F W h) 0 (omega (arith, mod-lt h pos)), le-leb W (h + W) (omega arith), back) refl

      there : j < h + W → get_or (set ring (h % W) (F W h)) (j % W) 0 ≡ lost W j
      there near = get_or-set_other ring (h % W) (j % W) (F W h) 0 (apart h j (omega arith) near) ∙ held j (omega arith) near

-- ---- the search

abbrev pub enough : ℕ → ℕ → ℕ → Bool
enough W c h = leb (suc c) (F W h)

pub fewest-found : (W c h : ℕ) → h ≤ c → c < F W h → first (enough W c) (c - h) h ≡ fewest_steps W c → h ≡ fewest_steps W c
fewest-found W c h l m e =
    sym
    (⊎_elim
    (λ q. first_ends (enough W c) c h h (omega arith))
    (λ s. first-hits (enough W c) c h h s (le-leb (suc c) (F W h) m))
    (eq-or-lt_of_le l)) ∙
    e

-- the steps before the last have no code for the most breaks, and the last at most doubles how many there are
pub fewest-few : (W c most : ℕ) → 0 < most → c ≤ most → F W (fewest_steps W c) ≤ 2 * most
unfolding fewest_steps
fewest-few W c most some l = go (fewest_steps W c) (λ h m. leb-false (suc c) (F W h) (first-none (enough W c) c 0 h (omega arith) m))
  where
    go : (h : ℕ) → ((k : ℕ) → k < h → F W k < suc c) → F W h ≤ 2 * most
    go zero short = omega arith
    go (suc h) short = omega (arith, F-next W h, short h (omega arith))
