-- The first early pull, found from the codes alone: the first step at which some car waits on that step's track though its code
-- does not name it, and the lowest such car.
use mathlib.Core.Path.{◌≡◌, sym, ap, ap₂, ◌∙◌}
use mathlib.Core.Logic.{⊎_elim, ◌↔◌}
use mathlib.Core.Bool.{Bool, true, false, cond, not, ◌&&◌}
use mathlib.Core.List.{List}
use Prim.Native.Nat.{ℕ, ◌%◌, ◌≤◌, ◌<◌}
use native.Mathlib.Nat.{le_refl, mod-lt, eq-or-lt_of_le}
use native.Mathlib.Omega.{arith}
use lib.Dec.{leb, ltb, eqb}
use lib.ListN.{length}
use borrow.Author.Tests.{lt-ltb, le-ltb, ltb-true, leb-false, eqb-true, eq-eqb}
use Rattle.yard.specs.Words.{count, listed, first}
use Rattle.yard.specs.Night.{Plan, item_of}
use Rattle.yard.specs.Replay.{bit, next_step, target, code_of, destination, yard_at, pulled, early, lowest_early, first_early}
use Rattle.yard.specs.Answers.{says, test, early_test}
use Rattle.yard.specs.Waiting.{waits, lowest_waiting, some_waits, first_waiting}
use Rattle.yard.specs.Demands.{Within, Listed}
use Rattle.yard.proofs.general.Bools.{clash, same_test, and_left, and_right, and_both, not-true}
use Rattle.yard.proofs.general.Numbers.{le-or-lt}
use Rattle.yard.proofs.general.First.{first-le, first-none, first-hit, first_found, first-fails, first-same}
use Rattle.yard.proofs.yards.Replay.{Clean}
use Rattle.yard.proofs.yards.Early.{KeptAt, among-taken, clean-to}
use Rattle.yard.proofs.yards.Plans.{destination-away}
use Rattle.yard.proofs.yards.Building.{came-once, came-within}

kept_at : (W h x s : ℕ) → waits W h x s ≡ false → KeptAt W h x s
kept_at W h x s e unset n q = clash (and_both (ap not unset) (and_both (lt-ltb (next_step h x s) h n) (eq-eqb (next_step h x s % W) (s % W) q))) e

module _ (p : Plan) (f : Listed p.night.lengths p.night.inbound) (pos : 0 < p.night.tracks)
    (each : length p.codes ≡ length p.night.inbound) where
  W : ℕ
  W = p.night.tracks

  h : ℕ
  h = p.steps

  dest : ℕ → ℕ
  dest = destination p.night

  inbound : List ℕ
  inbound = p.night.inbound

  CleanTo : ℕ → Type 0
  CleanTo s = Clean p.night.tracks p.steps (code_of p) (destination p.night) p.night.inbound s

  away : (car : ℕ) → 0 < count car p.night.inbound → p.night.tracks ≤ destination p.night car
  away car m = destination-away p.night car

  -- where no car was early before, a car is early exactly if it waits
  early-waits : (k car : ℕ) → k ≤ p.steps → CleanTo k → Within 1 (length p.night.inbound) car
      → early p k car ≡ waits p.night.tracks p.steps (code_of p car) k
  unfolding early pulled yard_at CleanTo W h dest inbound
  early-waits k car l clean w =
      same_test (early p k car) (waits W h (code_of p car) k)
      (λ e. held (not-true (bit k (code_of p car)) (and_right (listed car (pulled p k)) (not (bit k (code_of p car))) e))
      (stands.0 (ltb-true 0 (count car (pulled p k)) (and_left (listed car (pulled p k)) (not (bit k (code_of p car))) e))).0)
      (λ e. and_both (lt-ltb 0 (count car (pulled p k))
      (stands.1 (rolls e, omega (arith, came-once p.night.lengths inbound f car w)))) (and_left (not (bit k (code_of p car))) later e))
    where
      l' : ℕ
      l' = next_step h (code_of p car) k

      later : Bool
      later = ltb l' h && eqb (l' % W) (k % W)

      stands : (0 < count car (pulled p k)) ↔ ((target W h (code_of p) dest k car ≡ k % W) × (0 < count car inbound))
      stands = among-taken W h pos (code_of p) dest inbound away k car l clean

      held : bit k (code_of p car) ≡ false → target W h (code_of p) dest k car ≡ k % W → waits W h (code_of p car) k ≡ true
      held unset t =
          ⊎_elim
          (λ last. absurd (omega (arith, ap (λ (b : Bool). cond b (l' % W) (dest car)) (le-ltb l' h last), destination-away p.night car, mod-lt k pos)))
          (λ n. and_both (ap not unset)
          (and_both (lt-ltb l' h n) (eq-eqb (l' % W) (k % W) (sym (ap (λ (b : Bool). cond b (l' % W) (dest car)) (lt-ltb l' h n)) ∙ t))))
          (le-or-lt h l')

      rolls : waits W h (code_of p car) k ≡ true → target W h (code_of p) dest k car ≡ k % W
      rolls e =
          let r = and_right (not (bit k (code_of p car))) later e in
          ap (λ (b : Bool). cond b (l' % W) (dest car)) (and_left (ltb l' h) (eqb (l' % W) (k % W)) r)
          ∙ eqb-true (l' % W) (k % W) (and_right (ltb l' h) (eqb (l' % W) (k % W)) r)

  -- so both searches over the cars find the same
  lowest-waiting : (k : ℕ) → k ≤ p.steps → CleanTo k → lowest_early p k ≡ lowest_waiting p.night.tracks p.steps p.codes k
  unfolding lowest_early
  lowest-waiting k l clean =
      first-same (early p k) (λ car. waits p.night.tracks p.steps (item_of p.codes car) k) (length p.night.inbound) 1
      (λ car a b. early-waits k car l clean (a, omega arith)) ∙
      ap (λ (n : ℕ). first (λ car. waits p.night.tracks p.steps (item_of p.codes car) k) n 1) (sym each)

  -- up to the first step at which a car waits none is early
  clean-until : (s : ℕ) → s ≤ first_waiting p.night.tracks p.steps p.codes → CleanTo s
  unfolding CleanTo W h
  clean-until s l =
      clean-to W h pos (code_of p) (destination p.night) p.night.inbound away s (omega (arith, first-le (some_waits W h p.codes) h 0))
      (λ j m c among.
      let w = came-within p.night.lengths p.night.inbound f c among in
      kept_at W h (code_of p c) j
      (first-none (λ car. waits W h (item_of p.codes car) j) (length p.codes) 1 c w.0
      (omega (
        arith,
        w.1,
        each,
        leb-false (lowest_waiting W h p.codes j) (length p.codes) (first-none (some_waits W h p.codes) h 0 j (omega arith) (omega arith)),
      ))))

  pub first-waiting : first_early p ≡ first_waiting p.night.tracks p.steps p.codes
  unfolding first_early W h
  first-waiting =
      ⊎_elim
      (λ e. first-fails (λ k. leb (lowest_early p k) (length p.night.inbound)) h 0 (λ j a b. quiet j (omega arith)) ∙ (omega (arith, e)))
      (λ m. first_found (λ k. leb (lowest_early p k) (length p.night.inbound)) h 0 a (omega arith) (omega arith)
      (alike a (le_refl a) (omega arith) ∙ first-hit (some_waits W h p.codes) h 0 (omega arith)) (λ j l b. quiet j b))
      (eq-or-lt_of_le bound)
    where
      a : ℕ
      a = first_waiting W h p.codes

      bound : a ≤ h
      bound = omega (arith, first-le (some_waits W h p.codes) h 0)

      alike : (k : ℕ) → k ≤ a → k ≤ h → leb (lowest_early p k) (length p.night.inbound) ≡ some_waits W h p.codes k
      alike k l m = ap₂ (λ (i j : ℕ). leb i j) (lowest-waiting k m (clean-until k l)) (sym each)

      quiet : (k : ℕ) → k < a → leb (lowest_early p k) (length p.night.inbound) ≡ false
      quiet k l = alike k (omega arith) (omega (arith, bound)) ∙ first-none (some_waits W h p.codes) h 0 k (omega arith) l

  -- the test for early pulls looks at the codes alone
  pub early-test : early_test p ≡ test (leb p.steps (first_waiting p.night.tracks p.steps p.codes))
      (says 8 (lowest_waiting p.night.tracks p.steps p.codes (first_waiting p.night.tracks p.steps p.codes))
      (first_waiting p.night.tracks p.steps p.codes))
  early-test =
      ap (λ (k : ℕ). test (leb p.steps k) (says 8 (lowest_early p k) k)) first-waiting ∙
      ap (λ (c : ℕ). test (leb p.steps a) (says 8 c a))
      (lowest-waiting a (omega (arith, first-le (some_waits p.night.tracks p.steps p.codes) p.steps 0)) (clean-until a (le_refl a)))
    where
      a : ℕ
      a = first_waiting p.night.tracks p.steps p.codes
