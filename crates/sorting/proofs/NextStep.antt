-- Laws of the next step of a code, and of the search over steps, then cars.
use mathlib.Core.Path.{◌≡◌, refl, sym, ap, ap₂, ◌∙◌}
use mathlib.Core.Logic.{⊎_elim}
use mathlib.Core.Bool.{Bool, true, false, cond, not, ◌&&◌, and-false}
use Prim.Native.Nat.{ℕ, zero, suc, ◌+◌, ◌/◌, ◌%◌, ◌^◌, min, ◌≤◌, ◌<◌}
use native.Mathlib.Nat.{mod-lt, pow-suc, div-div-eq-div-mul, eq-or-lt_of_le}
use native.Mathlib.Omega.{arith}
use lib.Count.{count_trailing_zeros, under}
use lib.Dec.{ltb, eqb, lit<}
use borrow.Author.Tests.{eq-eqb, ne_eqb, lt-ltb, le-ltb}
use Rattle.yard.specs.Replay.{bit, next_step}
use Rattle.yard.specs.Waiting.{waits}
use Rattle.yard.proofs.general.First.{first_ends}
use Rattle.yard.proofs.yards.Replay.{next_step-step, next_step-from}

-- the next step of a code is as far as the zeros below its lowest set bit from there on, and no further than h
pub next-zeros : (k h x s : ℕ) → s ≤ h → h ≤ s + k → next_step h x s ≡ min h (s + count_trailing_zeros k (x / 2 ^ s))
unfolding count_trailing_zeros
next-zeros zero h x s l m = first_ends (λ k. bit k x) h s s (omega arith) ∙ omega arith
next-zeros (suc k) h x s l m =
    ⊎_elim
    (λ e. first_ends (λ k. bit k x) h s s (omega arith) ∙ omega arith)
    (λ lt. next_step-step h x s lt ∙ go (x / 2 ^ s % 2) refl (mod-lt (x / 2 ^ s) (lit< tt)) lt (next-zeros k h x (suc s) lt (omega arith)))
    (eq-or-lt_of_le l)
  where
    half : x / 2 ^ suc s ≡ x / 2 ^ s / 2
    half = ap (λ (d : ℕ). x / d) (pow-suc 2 s) ∙ sym (div-div-eq-div-mul x (2 ^ s) 2)

    go :
        (d : ℕ) → x / 2 ^ s % 2 ≡ d → d < 2 → s < h →
        next_step h x (suc s) ≡ min h (suc s + count_trailing_zeros k (x / 2 ^ suc s)) →
        cond (eqb (x / 2 ^ s % 2) 1) s (next_step h x (suc s)) ≡ min h (s + under (x / 2 ^ s % 2) (count_trailing_zeros k (x / 2 ^ s / 2)))
    go zero e b lt later =
        ap₂ (λ (i j : ℕ). cond (eqb i 1) s j) e later ∙
        (omega (arith, ap (λ (j : ℕ). count_trailing_zeros k j) half) ∙ ap (λ (i : ℕ). min h (s + under i (count_trailing_zeros k (x / 2 ^ s / 2)))) (sym e))
    go (suc zero) e b lt later = ap (λ (i : ℕ). cond (eqb i 1) s (next_step h x (suc s))) e ∙
        (omega arith ∙ ap (λ (i : ℕ). min h (s + under i (count_trailing_zeros k (x / 2 ^ s / 2)))) (sym e))
    go (suc (suc d)) e b lt later = absurd (omega arith)

-- a code names a step exactly if its next step from there on is that step
pub next_bit : (h x s : ℕ) → s < h → eqb (next_step h x s) s ≡ bit s x
next_bit h x s l = go (bit s x) refl
  where
    go : (b : Bool) → bit s x ≡ b → eqb (next_step h x s) s ≡ b
    go true e = eq-eqb (next_step h x s) s (next_step-step h x s l ∙ ap (λ (b : Bool). cond b s (next_step h x (suc s))) e)
    go false e =
        ne_eqb (next_step h x s) s
        (λ q. omega (arith, next_step-step h x s l ∙ ap (λ (b : Bool). cond b s (next_step h x (suc s))) e, next_step-from h x (suc s)))

-- a car waits exactly if its next step is another, is to come, and uses the same track
module _ (W h x s next : ℕ) (l : s < h) (is : next ≡ next_step h x s) where
  pub waits-named : next ≡ s → false ≡ waits W h x s
  waits-named e = sym (ap (λ (b : Bool). not b && (ltb (next_step h x s) h && eqb (next_step h x s % W) (s % W)))
      (sym (next_bit h x s l) ∙ eq-eqb (next_step h x s) s (sym is ∙ e)))

  pub waits-last : h ≤ next → false ≡ waits W h x s
  waits-last m = sym (ap (λ (b : Bool). not (bit s x) && (b && eqb (next_step h x s % W) (s % W))) (le-ltb (next_step h x s) h (omega arith)) ∙
      and-false (not (bit s x)))

  pub waits-later : (next ≡ s → ⊥) → next < h → eqb (next % W) (s % W) ≡ waits W h x s
  waits-later n m =
      ap (λ (k : ℕ). eqb (k % W) (s % W)) is ∙
      sym (ap₂ (λ (b c : Bool). not b && (c && eqb (next_step h x s % W) (s % W)))
      (sym (next_bit h x s l) ∙ ne_eqb (next_step h x s) s (λ e. n (is ∙ e))) (lt-ltb (next_step h x s) h (omega arith)))
