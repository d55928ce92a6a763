-- At every stage each car stands on exactly one track, at one place, whether or not a car was pulled early.
use mathlib.Core.Path.{◌≡◌, refl, sym, ap, ap₂, ◌∙◌, subst}
use mathlib.Core.Bool.{Bool, true, false, cond}
use mathlib.Core.List.{List, []}
use Prim.Native.Nat.{ℕ, zero, suc, ◌+◌, ◌%◌, ◌<◌}
use native.Mathlib.Omega.{arith}
use lib.Dec.{eqb}
use borrow.Author.Tests.{eq-eqb, ne_eqb, eqb-true, eqb-false}
use Rattle.yard.specs.Words.{count, keep}
use Rattle.yard.specs.Replay.{target, stage}
use Rattle.yard.proofs.general.Lists.{count-append, count-keep}
use Rattle.yard.proofs.yards.Replay.{roll_in-standing, taken, standing-next}

module _ (W h : ℕ) (code dest : ℕ → ℕ) where
  -- the track on which a car stands at a stage: it moves when that track is pulled
  abbrev pub location : ℕ → ℕ → ℕ
  location zero c = target W h code dest 0 c
  location (suc s) c = cond (eqb (location s c) (s % W)) (target W h code dest (suc s) c) (location s c)

  -- the same once the track of step s, w, has been pulled: t is any track, l and g the car's location and where it rolls
  moved : (t w l g n : ℕ) → cond (eqb t w) 0 (cond (eqb t l) n 0) + cond (eqb t g) (cond (eqb w l) n 0) 0 ≡ cond (eqb t (cond (eqb l w) g l)) n 0
  moved t w l g n = go (eqb l w) (eqb t w) refl refl
    where
      stays : (b : Bool) → cond b zero zero ≡ 0
      stays true = refl
      stays false = refl

      go : (p q : Bool) → eqb l w ≡ p → eqb t w ≡ q → cond q 0 (cond (eqb t l) n 0) + cond (eqb t g) (cond (eqb w l) n 0) 0 ≡ cond (eqb t (cond p g l)) n 0
      go true true e f = ap (λ (b : Bool). 0 + cond (eqb t g) (cond b n 0) 0) (eq-eqb w l (sym (eqb-true l w e))) ∙ omega arith
      go true false e f =
          ap₂ (λ (b c : Bool). cond b n 0 + cond (eqb t g) (cond c n 0) 0)
          (ne_eqb t l (λ d. eqb-false t w f (d ∙ eqb-true l w e))) (eq-eqb w l (sym (eqb-true l w e))) ∙ omega arith
      go false true e f =
          ap (λ (b : Bool). 0 + cond (eqb t g) (cond b n 0) 0) (ne_eqb w l (λ d. eqb-false l w e (sym d))) ∙
          (ap (λ (k : ℕ). 0 + k) (stays (eqb t g)) ∙ sym (ap (λ (b : Bool). cond b n 0) (ne_eqb t l (λ d. eqb-false l w e (sym d ∙ eqb-true t w f)))))
      go false false e f = omega (arith, ap (λ (b : Bool). cond (eqb t g) (cond b n 0) 0) (ne_eqb w l (λ d. eqb-false l w e (sym d))), stays (eqb t g))

  module _ (inbound : List ℕ) where
    pub standing-count : (s c t : ℕ) → count c ((stage W h code dest inbound s).standing t) ≡ cond (eqb t (location s c)) (count c inbound) 0
    standing-count zero c t = ap (λ (u : List ℕ). count c u) (roll_in-standing W h code dest 0 _ inbound t)
        ∙ count-keep c (λ x. eqb t (target W h code dest 0 x)) inbound
    standing-count (suc s) c t =
        ap (λ (u : List ℕ). count c u) (standing-next W h code dest inbound s t) ∙
        (count-append c (cond (eqb t (s % W)) [] ((stage W h code dest inbound s).standing t))
        (keep (λ x. eqb t (target W h code dest (suc s) x)) (taken W h code dest inbound s)) ∙
        (ap₂ (λ (a b : ℕ). a + b) (cleared (eqb t (s % W)) ∙ ap (λ (k : ℕ). cond (eqb t (s % W)) 0 k) (standing-count s c t))
        (count-keep c (λ x. eqb t (target W h code dest (suc s) x)) (taken W h code dest inbound s)
        ∙ ap (λ (k : ℕ). cond (eqb t (target W h code dest (suc s) c)) k 0) (standing-count s c (s % W))) ∙
        moved t (s % W) (location s c) (target W h code dest (suc s) c) (count c inbound)))
      where
        cleared : (b : Bool) → count c (cond b [] ((stage W h code dest inbound s).standing t)) ≡ cond b 0 (count c ((stage W h code dest inbound s).standing t))
        cleared true = refl
        cleared false = refl

    -- a car that stands somewhere came in, and stands where its location says
    pub standing-where : (s c t : ℕ) → 0 < count c ((stage W h code dest inbound s).standing t) → (t ≡ location s c) × (0 < count c inbound)
    standing-where s c t m = go (eqb t (location s c)) refl (subst (λ (k : ℕ). 0 < k) (standing-count s c t) m)
      where
        go : (b : Bool) → eqb t (location s c) ≡ b → 0 < cond b (count c inbound) 0 → (t ≡ location s c) × (0 < count c inbound)
        go true e m = (eqb-true t (location s c) e, m)
        go false e m = absurd (omega arith)

    -- each car stands on exactly one track, as often there as it came in
    pub standing-once : (s c : ℕ) → count c ((stage W h code dest inbound s).standing (location s c)) ≡ count c inbound
    standing-once s c = standing-count s c (location s c) ∙ ap (λ (b : Bool). cond b (count c inbound) 0) (eq-eqb (location s c) (location s c) refl)
