-- No car is pulled early exactly if every code keeps neighbouring set bits at most W apart and its lowest set bit below W.
use mathlib.Core.Path.{◌≡◌, refl, sym, ap, ◌∙◌, subst}
use mathlib.Core.Logic.{◌⊎◌, inl, inr, ⊎_elim, ◌↔◌}
use mathlib.Core.Bool.{Bool, true, false, cond}
use mathlib.Core.List.{List}
use Prim.Native.Nat.{ℕ, zero, suc, ◌+◌, ◌-◌, ◌/◌, ◌%◌, ◌≤◌, ◌<◌}
use native.Mathlib.Nat.{le_refl, mod-lt, eq-or-lt_of_le, le_step, lt_trans, add-mod_right, div-add-mod', lt_of_mul-lt-mul_right, mul-le-mul_right}
use native.Mathlib.Omega.{arith}
use lib.Dec.{eqb}
use borrow.Author.Tests.{eq-eqb, eqb-true, lt-ltb, le-ltb}
use Rattle.yard.specs.Words.{count}
use Rattle.yard.specs.Replay.{bit, next_step, target}
use Rattle.yard.proofs.general.Bools.{split, clash}
use Rattle.yard.proofs.general.Numbers.{le-or-lt, below_suc, below_more}
use Rattle.yard.proofs.general.First.{first-none, first-hit, first_found}
use Rattle.yard.proofs.general.Lists.{count-keep}
use Rattle.yard.proofs.yards.Replay.{next_step-from, sorted, sorted-count, taken, Clean, standing-sorted}

-- a car with this code does not wait at step s on the track of that step without its code naming it; and at no step
abbrev pub KeptAt : ℕ → ℕ → ℕ → ℕ → Type 0
KeptAt W h x s = bit s x ≡ false → next_step h x s < h → next_step h x s % W ≡ s % W → ⊥

abbrev pub Kept : ℕ → ℕ → ℕ → Type 0
Kept W h x = (s : ℕ) → s < h → KeptAt W h x s

module _ (W h : ℕ) (pos : 0 < W) (code dest : ℕ → ℕ) (inbound : List ℕ) (away : (c : ℕ) → 0 < count c inbound → W ≤ dest c) where
  pub among-taken : (s c : ℕ) → s ≤ h → Clean W h code dest inbound s
      → (0 < count c (taken W h code dest inbound s)) ↔ ((target W h code dest s c ≡ s % W) × (0 < count c inbound))
  among-taken s c l clean = (into, outof)
    where
      stands : count c (taken W h code dest inbound s) ≡ cond (eqb (s % W) (target W h code dest s c)) (count c (sorted code inbound s)) 0
      stands = ap (λ (u : List ℕ). count c u) (standing-sorted W h code dest inbound s l clean (s % W)) ∙ count-keep c _ (sorted code inbound s)

      into : 0 < count c (taken W h code dest inbound s) → (target W h code dest s c ≡ s % W) × (0 < count c inbound)
      into m = go (eqb (s % W) (target W h code dest s c)) refl (subst (λ (k : ℕ). 0 < k) stands m)
        where
          go : (b : Bool) → eqb (s % W) (target W h code dest s c) ≡ b → 0 < cond b (count c (sorted code inbound s)) 0
              → (target W h code dest s c ≡ s % W) × (0 < count c inbound)
          go true e m = (sym (eqb-true (s % W) (target W h code dest s c) e), subst (λ (k : ℕ). 0 < k) (sorted-count code inbound s c) m)
          go false e m = absurd (omega arith)

      outof : (target W h code dest s c ≡ s % W) × (0 < count c inbound) → 0 < count c (taken W h code dest inbound s)
      outof p =
          omega (
            arith,
            stands,
            ap (λ (b : Bool). cond b (count c (sorted code inbound s)) 0)
                (eq-eqb (s % W) (target W h code dest s c) (sym p.0)),
            sorted-count code inbound s c,
            p.1,
          )

  -- a car that step s takes, where no car was early before, is early exactly if it waits there
  next-clean : (s : ℕ) → Clean W h code dest inbound s → s ≤ h → (c : ℕ) → KeptAt W h (code c) s
      → 0 < count c (taken W h code dest inbound s) → bit s (code c) ≡ true
  next-clean s clean l c kept m = ⊎_elim (λ e. e) (λ e. absurd (waits e ((among-taken s c l clean).0 m))) (split (bit s (code c)))
    where
      waits : bit s (code c) ≡ false → (target W h code dest s c ≡ s % W) × (0 < count c inbound) → ⊥
      waits e p =
          ⊎_elim
          (λ last. omega (
            arith,
            ap (λ (b : Bool). cond b (next_step h (code c) s % W) (dest c)) (le-ltb (next_step h (code c) s) h last),
            away c p.1,
            mod-lt s pos,
            p.0,
          ))
          (λ n. kept e n (sym (ap (λ (b : Bool). cond b (next_step h (code c) s % W) (dest c)) (lt-ltb (next_step h (code c) s) h n)) ∙ p.0))
          (le-or-lt h (next_step h (code c) s))

  -- steps at which no car waits take none early
  pub clean-to : (s : ℕ) → s ≤ h → ((j : ℕ) → j < s → (c : ℕ) → 0 < count c inbound → KeptAt W h (code c) j) → Clean W h code dest inbound s
  unfolding Clean
  clean-to zero l kept = λ k m. absurd (omega arith)
  clean-to (suc s) l kept =
      let clean : Clean W h code dest inbound s = clean-to s (omega arith) (λ j m. kept j (omega arith)) in
      below_more (λ (k : ℕ). (c : ℕ) → 0 < count c (taken W h code dest inbound k) → bit k (code c) ≡ true) s clean
      (λ c m. next-clean s clean (omega arith) c (kept s (omega arith) c ((among-taken s c (omega arith) clean).0 m).1) m)

  pub clean-of-kept : ((c : ℕ) → 0 < count c inbound → Kept W h (code c)) → Clean W h code dest inbound h
  clean-of-kept kept = clean-to h (le_refl h) (λ j m c among. kept c among j m)

  pub kept-of-clean : Clean W h code dest inbound h → (c : ℕ) → 0 < count c inbound → Kept W h (code c)
  unfolding Clean
  kept-of-clean clean c m s l unset n e =
      clash
      (clean s l c ((among-taken s c (omega arith)
      (λ k j. clean k (omega arith))).1 (ap (λ (b : Bool). cond b (next_step h (code c) s % W) (dest c)) (lt-ltb (next_step h (code c) s) h n) ∙ e, m)))
      unset

-- ---- the gap rule

-- neighbouring set bits are at most W apart, and the lowest set bit is below W
pub record Gaps (W h x : ℕ) : Type 0 where
  pub lowest : (l : ℕ) → l < h → bit l x ≡ true → ((k : ℕ) → k < l → bit k x ≡ false) → l < W
  pub neighbours : (k l : ℕ) → k < l → l < h → bit k x ≡ true → bit l x ≡ true → ((j : ℕ) → k < j → j < l → bit j x ≡ false) → l ≤ k + W

-- the highest set bit below s, or none
pub highest : (x s : ℕ) → ((k : ℕ) → k < s → bit k x ≡ false) ⊎ ((k : ℕ) × (k < s) × (bit k x ≡ true) × ((j : ℕ) → k < j → j < s → bit j x ≡ false))
highest x zero = inl (λ k m. absurd (omega arith))
highest x (suc s) = ⊎_elim (λ e. inr (s, omega arith, e, λ j a b. absurd (omega arith))) (λ e. keeps e (highest x s)) (split (bit s x))
  where
    keeps :
        bit s x ≡ false →
        ((k : ℕ) → k < s → bit k x ≡ false) ⊎ ((k : ℕ) × (k < s) × (bit k x ≡ true) × ((j : ℕ) → k < j → j < s → bit j x ≡ false)) →
        ((k : ℕ) → k < suc s → bit k x ≡ false) ⊎ ((k : ℕ) × (k < suc s) × (bit k x ≡ true) × ((j : ℕ) → k < j → j < suc s → bit j x ≡ false))
    keeps e (inl none) = inl (below_more (λ (k : ℕ). bit k x ≡ false) s none e)
    keeps e (inr r) = inr (r.0, le_step r.1, r.2, λ j a b. ⊎_elim (λ q. ap (λ (i : ℕ). bit i x) q ∙ e) (λ m. r.3 j a m) (below_suc b))

module _ (W h x : ℕ) (pos : 0 < W) where
  -- W steps before a set bit with none set in between, the car waits on that step's track
  waits : (l s : ℕ) → s + W ≡ l → l < h → bit l x ≡ true → ((j : ℕ) → s ≤ j → j < l → bit j x ≡ false) → Kept W h x → ⊥
  waits l s e m set none kept =
      let n : next_step h x s ≡ l = first_found (λ k. bit k x) (h - s) s l (omega arith) (omega arith) set none in
      kept s (omega arith) (none s (omega arith) (omega arith)) (omega arith) (ap (λ (k : ℕ). k % W) (n ∙ sym e) ∙ add-mod_right s W)

  pub gaps-of-kept : Kept W h x → Gaps W h x
  gaps-of-kept kept =
      record {
        lowest = λ l m set none. ⊎_elim (λ far. absurd (waits l (l - W) (omega arith) m set (λ j a b. none j b) kept)) (λ near. near) (le-or-lt W l);
        neighbours =
            λ k l a m first set none.
            ⊎_elim (λ near. near) (λ far. absurd (waits l (l - W) (omega arith) m set (λ j b c. none j (omega arith) c) kept)) (le-or-lt l (k + W));
      }

  -- two numbers of one remainder are a whole number of W apart
  apart : (s l : ℕ) → s < l → l % W ≡ s % W → s + W ≤ l
  apart s l m e =
      let q : s / W < l / W = lt_of_mul-lt-mul_right W (omega (arith, div-add-mod' s W, div-add-mod' l W)) in
      omega (arith, div-add-mod' s W, div-add-mod' l W, mul-le-mul_right W q)

  pub kept-of-gaps : Gaps W h x → Kept W h x
  kept-of-gaps gaps s m unset n e = ⊎_elim (λ none. alone none) (λ r. after r) (highest x s)
    where
      l : ℕ
      l = next_step h x s

      set : bit l x ≡ true
      set = first-hit (λ k. bit k x) (h - s) s (omega arith)

      free : (j : ℕ) → s ≤ j → j < l → bit j x ≡ false
      free j a b = first-none (λ k. bit k x) (h - s) s j a b

      later : s < l
      later = ⊎_elim (λ q. clash set (ap (λ (k : ℕ). bit k x) (sym q) ∙ unset)) (λ r. r) (eq-or-lt_of_le (next_step-from h x s))

      alone : ((k : ℕ) → k < s → bit k x ≡ false) → ⊥
      alone none = omega (arith, apart s l later e, gaps.lowest l n set (λ k b. ⊎_elim (λ a. free k a b) (λ a. none k a) (le-or-lt s k)))

      after : ((k : ℕ) × (k < s) × (bit k x ≡ true) × ((j : ℕ) → k < j → j < s → bit j x ≡ false)) → ⊥
      after r =
          omega (
            arith,
            apart s l later e,
            r.1,
            gaps.neighbours r.0 l (lt_trans r.1 later) n r.2 set (λ j a b. ⊎_elim (λ c. free j c b) (λ c. r.3 j a c) (le-or-lt s j)),
          )
