-- Laws of the replay: where no car is pulled early, the yard at stage s is the inbound list sorted stably by the codes' low s
-- bits, each car on the track it is bound for.
use mathlib.Core.Path.{◌≡◌, refl, sym, ap, ap₂, ◌∙◌, subst}
use mathlib.Core.Bool.{Bool, true, false, cond, not, ◌&&◌}
use mathlib.Core.List.{List, [], ◌∷◌, ◌++◌, append-nil, append_assoc}
use Prim.Native.Nat.{ℕ, zero, suc, ◌+◌, ◌-◌, ◌%◌, ◌≤◌, ◌<◌}
use native.Mathlib.Omega.{arith}
use lib.Dec.{ltb, eqb}
use lib.ListN.{length}
use borrow.Author.Tests.{eq-eqb, ne_eqb, eqb-true, eqb-false, lt-ltb, le-ltb}
use Rattle.yard.specs.Words.{tally, total, count, keep}
use Rattle.yard.specs.Replay.{Yard, bit, next_step, target, roll_car, roll_in, emptied, stage}
use Rattle.yard.proofs.general.Bools.{same_test}
use Rattle.yard.proofs.general.First.{first-from, first-le, first_next}
use Rattle.yard.proofs.general.Lists.{total-append, total-keep, total-add, total-same, count-keep}
use Rattle.yard.proofs.general.Lists.{keep_append, keep_same, keep-keep, keep-none}

-- ---- the next step of a code

pub next_step-step : (h x s : ℕ) → s < h → next_step h x s ≡ cond (bit s x) s (next_step h x (suc s))
next_step-step h x s l = first_next (λ k. bit k x) h s s l

pub next_step-from : (h x s : ℕ) → s ≤ next_step h x s
next_step-from h x s = first-from (λ k. bit k x) (h - s) s

pub next_step-le : (h x s : ℕ) → s ≤ h → next_step h x s ≤ h
next_step-le h x s l = omega (arith, first-le (λ k. bit k x) (h - s) s)

-- the inbound list sorted stably by the low s bits of the codes, lowest bit first
abbrev pub sorted : (ℕ → ℕ) → List ℕ → ℕ → List ℕ
sorted code inbound zero = inbound
sorted code inbound (suc s) =
    keep (λ c. not (bit s (code c))) (sorted code inbound s) ++ keep (λ c. bit s (code c)) (sorted code inbound s)

-- sorting keeps every sum, and so how often each car is there
pub total-parts : (f : ℕ → ℕ) (p : ℕ → Bool) (l : List ℕ) → total f (keep (λ c. not (p c)) l ++ keep p l) ≡ total f l
total-parts f p l =
    total-append f (keep (λ c. not (p c)) l) (keep p l) ∙
    (ap₂ (λ (a b : ℕ). a + b) (total-keep f (λ c. not (p c)) l) (total-keep f p l) ∙
    (sym (total-add (λ c. cond (not (p c)) (f c) 0) (λ c. cond (p c) (f c) 0) l) ∙ total-same _ f l (λ c m. one (p c) (f c))))
  where
    one : (b : Bool) (k : ℕ) → cond (not b) k 0 + cond b k 0 ≡ k
    one true k = omega arith
    one false k = omega arith

pub sorted-total : (code : ℕ → ℕ) (inbound : List ℕ) (f : ℕ → ℕ) (s : ℕ) → total f (sorted code inbound s) ≡ total f inbound
sorted-total code inbound f zero = refl
sorted-total code inbound f (suc s) = total-parts f (λ c. bit s (code c)) (sorted code inbound s) ∙ sorted-total code inbound f s

pub sorted-count : (code : ℕ → ℕ) (inbound : List ℕ) (s c : ℕ) → count c (sorted code inbound s) ≡ count c inbound
sorted-count code inbound s c = sorted-total code inbound (λ y. tally (eqb c y)) s

-- ---- rolling in

module _ (W h : ℕ) (code dest : ℕ → ℕ) where
  pub roll_in-standing : (s : ℕ) (yard : Yard) (l : List ℕ) (t : ℕ)
      → (roll_in W h code dest s yard l).standing t ≡ yard.standing t ++ keep (λ c. eqb t (target W h code dest s c)) l
  roll_in-standing s yard [] t = sym (append-nil (yard.standing t))
  roll_in-standing s yard (x ∷ l) t =
      roll_in-standing s (roll_car W h code dest s yard x) l t ∙ go (eqb t (target W h code dest s x))
    where
      go : (b : Bool) → (yard.standing t ++ cond b (x ∷ []) []) ++ keep
          (λ c. eqb t (target W h code dest s c)) l ≡ yard.standing t ++
          cond b (x ∷ keep (λ c. eqb t (target W h code dest s c)) l) (keep (λ c. eqb t (target W h code dest s c)) l)
      go true = append_assoc (yard.standing t) (x ∷ []) _
      go false = ap (λ (u : List ℕ). u ++ keep (λ c. eqb t (target W h code dest s c)) l) (append-nil (yard.standing t))

  pub roll_in-rolled : (s : ℕ) (yard : Yard) (l : List ℕ) → (roll_in W h code dest s yard l).rolled ≡ yard.rolled + length l
  roll_in-rolled s yard [] = omega arith
  roll_in-rolled s yard (x ∷ l) = omega (arith, roll_in-rolled s (roll_car W h code dest s yard x) l)

  -- a car whose code names step s is bound for it; one whose code does not is bound for a later one
  pub target-set : (s c : ℕ) → s < h → bit s (code c) ≡ true → target W h code dest s c ≡ s % W
  target-set s c l e =
      let n : next_step h (code c) s ≡ s = next_step-step h (code c) s l ∙ ap (λ (b : Bool). cond b s (next_step h (code c) (suc s))) e in
      ap (λ (k : ℕ). cond (ltb k h) (k % W) (dest c)) n ∙ ap (λ (b : Bool). cond b (s % W) (dest c)) (lt-ltb s h l)

  pub target-unset : (s c : ℕ) → s < h → bit s (code c) ≡ false → target W h code dest (suc s) c ≡ target W h code dest s c
  target-unset s c l e =
      let n : next_step h (code c) s ≡ next_step h (code c) (suc s) = next_step-step h (code c) s l
      ∙ ap (λ (b : Bool). cond b s (next_step h (code c) (suc s))) e in
      ap (λ (k : ℕ). cond (ltb k h) (k % W) (dest c)) (sym n)

  -- at stage h every car is on its destination
  pub target-last : (c : ℕ) → target W h code dest h c ≡ dest c
  target-last c = ap (λ (b : Bool). cond b (next_step h (code c) h % W) (dest c)) (le-ltb (next_step h (code c) h) h (next_step-from h (code c) h))

  module _ (inbound : List ℕ) where
    -- what step k takes
    abbrev pub taken : ℕ → List ℕ
    taken k = (stage W h code dest inbound k).standing (k % W)

    -- the steps below s take no car early
    unfoldable pub Clean : ℕ → Type 0
    Clean s = (k : ℕ) → k < s → (c : ℕ) → 0 < count c (taken k) → bit k (code c) ≡ true

    pub standing-next : (s t : ℕ)
        → (stage W h code dest inbound (suc s)).standing t ≡ cond (eqb t (s % W)) [] ((stage W h code dest inbound s).standing t) ++
        keep (λ c. eqb t (target W h code dest (suc s) c)) (taken s)
    standing-next s t = roll_in-standing (suc s) (emptied (s % W) (stage W h code dest inbound s)) (taken s) t

    pub rolled-next : (s : ℕ) → (stage W h code dest inbound (suc s)).rolled ≡ (stage W h code dest inbound s).rolled + length (taken s)
    rolled-next s = roll_in-rolled (suc s) (emptied (s % W) (stage W h code dest inbound s)) (taken s)

    -- the law from which the others follow
    module _ (s : ℕ) (l : s < h) (here : (t : ℕ)
        → (stage W h code dest inbound s).standing t ≡ keep (λ c. eqb t (target W h code dest s c)) (sorted code inbound s))
        (clean : (c : ℕ) → 0 < count c (taken s) → bit s (code c) ≡ true) where
      -- a car stands on the track of step s exactly if its code names that step
      bound : (c : ℕ) → 0 < count c (sorted code inbound s) → eqb (s % W) (target W h code dest s c) ≡ bit s (code c)
      bound c m =
          same_test _ _
          (λ e. clean c (subst (λ (u : List ℕ). 0 < count c u) (sym (here (s % W)))
          (subst (λ (k : ℕ). 0 < k) (sym (count-keep c _ (sorted code inbound s) ∙ ap (λ (b : Bool). cond b (count c (sorted code inbound s)) 0) e)) m)))
          (λ e. eq-eqb (s % W) (target W h code dest s c) (sym (target-set s c l e)))

      pub taken-kept : taken s ≡ keep (λ c. bit s (code c)) (sorted code inbound s)
      taken-kept = here (s % W) ∙ keep_same _ _ (sorted code inbound s) bound

      -- the cars that step s leaves where they stand
      left : (t : ℕ) → cond (eqb t (s % W)) [] ((stage W h code dest inbound s).standing t) ≡ keep
          (λ c. eqb t (target W h code dest (suc s) c)) (keep (λ c. not (bit s (code c))) (sorted code inbound s))
      left t = go (eqb t (s % W)) refl ∙ sym (keep-keep (λ c. eqb t (target W h code dest (suc s) c)) (λ c. not (bit s (code c))) (sorted code inbound s))
        where
          stay : (c : ℕ) (b : Bool) → bit s (code c) ≡ b → (t ≡ s % W → ⊥)
              → eqb t (target W h code dest s c) ≡ (not b && eqb t (target W h code dest (suc s) c))
          stay c true e n = ne_eqb t (target W h code dest s c) (λ q. n (q ∙ target-set s c l e))
          stay c false e n = ap (λ (k : ℕ). eqb t k) (sym (target-unset s c l e))

          gone : (c : ℕ) (b : Bool) → bit s (code c) ≡ b → 0 < count c (sorted code inbound s) → t ≡ s % W
              → (not b && eqb t (target W h code dest (suc s) c)) ≡ false
          gone c true e m q = refl
          gone c false e m q = ap₂ (λ (u v : ℕ). eqb u v) q (target-unset s c l e) ∙ (bound c m ∙ e)

          go : (b : Bool) → eqb t (s % W) ≡ b
              → cond b [] ((stage W h code dest inbound s).standing t) ≡ keep
              (λ c. not (bit s (code c)) && eqb t (target W h code dest (suc s) c)) (sorted code inbound s)
          go true e = sym (keep-none _ (sorted code inbound s) (λ c m. gone c (bit s (code c)) refl m (eqb-true t (s % W) e)))
          go false e = here t ∙ keep_same _ _ (sorted code inbound s) (λ c m. stay c (bit s (code c)) refl (eqb-false t (s % W) e))

      standing-step : (t : ℕ)
          → (stage W h code dest inbound (suc s)).standing t ≡ keep (λ c. eqb t (target W h code dest (suc s) c)) (sorted code inbound (suc s))
      standing-step t =
          standing-next s t ∙
          (ap₂ (λ (u v : List ℕ). u ++ v) (left t) (ap (λ (u : List ℕ). keep (λ c. eqb t (target W h code dest (suc s) c)) u) taken-kept) ∙
          sym (keep_append (λ c. eqb t (target W h code dest (suc s) c))
          (keep (λ c. not (bit s (code c))) (sorted code inbound s)) (keep (λ c. bit s (code c)) (sorted code inbound s))))

    pub standing-sorted : (s : ℕ) → s ≤ h → Clean s → (t : ℕ)
        → (stage W h code dest inbound s).standing t ≡ keep (λ c. eqb t (target W h code dest s c)) (sorted code inbound s)
    unfolding Clean
    standing-sorted zero l clean t = roll_in-standing 0 _ inbound t
    standing-sorted (suc s) l clean t =
        standing-step s (omega arith) (standing-sorted s (omega arith) (λ k m. clean k (omega arith))) (clean s (omega arith)) t
