-- Least steps: a plan that sorts, in a closed night without code 0, has at least the fewest steps.
use mathlib.Core.Path.{◌≡◌, refl, sym, ap}
use mathlib.Core.Bool.{Bool, true, false}
use mathlib.Core.List.{List}
use Prim.Native.Nat.{ℕ, zero, suc, ◌+◌, ◌-◌, ◌^◌, ◌≤◌, ◌<◌}
use native.Mathlib.Nat.{add-suc, zero-add}
use native.Mathlib.Omega.{arith}
use lib.ListN.{length}
use borrow.Author.Tests.{leb-true, ltb-true}
use Rattle.yard.specs.Words.{tally, count, up_from}
use Rattle.yard.specs.Night.{Plan, item_of, train_of, first_car, broken, breaks, breaks_in, most_breaks}
use Rattle.yard.specs.Replay.{code_of}
use Rattle.yard.specs.Codes.{allowed, F, fewest_steps}
use Rattle.yard.specs.Derived.{steps_needed}
use Rattle.yard.specs.Answers.{ruled}
use Rattle.yard.specs.Demands.{Within, Listed, Sorts}
use Rattle.yard.proofs.general.Lists.{total-small, tally-small, up_from-bounds, length-up_from}
use Rattle.yard.proofs.yards.Codes.{total-next}
use Rattle.yard.proofs.yards.Counting.{passing, total-split}
use Rattle.yard.proofs.yards.Trains.{most-reached, breaks-suc}
use Rattle.yard.proofs.yards.Plans.{never-gaps, usable-gaps}
use Rattle.yard.proofs.yards.Allowed.{usable-allowed, allowed-count, fewest-least}
use Rattle.yard.proofs.yards.Building.{cars-train, came-once, ruled-of-builds}
use Rattle.yard.proofs.yards.Clear.{clear-some}

-- ---- counting what passes

pub passing-mono : (p : ℕ → Bool) (m n : ℕ) → m ≤ n → passing p m ≤ passing p n
passing-mono p m n l =
    let e : n ≡ m + (n - m) = omega arith in
    omega (arith, ap (λ (k : ℕ). passing p k) e, total-split (λ x. tally (p x)) 0 m (n - m))

pub passing-suc : (p : ℕ → Bool) (x : ℕ) → p x ≡ true → passing p (suc x) ≡ suc (passing p x)
passing-suc p x e = omega (arith, total-next (λ x. tally (p x)) x, ap tally e)

-- of d numbers more at most d pass, and of n numbers at most n
pub passing-more : (p : ℕ → Bool) (n d : ℕ) → passing p (n + d) ≤ passing p n + d
passing-more p n d =
    let f : ℕ → ℕ = λ x. tally (p x) in
    omega (arith, total-split f 0 n d, total-small f (λ x. tally-small (p x)) (up_from (0 + n) d), length-up_from (0 + n) d)

pub passing-most : (p : ℕ → Bool) (n : ℕ) → passing p n ≤ n
passing-most p n = omega (arith, passing-more p 0 n, ap (λ (k : ℕ). passing p k) (zero-add n))

-- ---- no plan has fewer steps

module _ (p : Plan) (f : Listed p.night.lengths p.night.inbound) (pos : 0 < p.night.tracks) (sorts : Sorts p) where
  abbrev u : ℕ → Bool
  u = allowed p.night.closed p.night.tracks p.steps

  -- each car has an allowed code
  pub car-allowed : (car : ℕ) → Within 1 (length p.night.inbound) car → allowed p.night.closed p.night.tracks p.steps (code_of p car) ≡ true
  car-allowed car w =
      usable-allowed p.night.closed p.night.tracks p.steps (code_of p car)
      (clear-some p f pos sorts.codes sorts.clear car w)
      ((usable-gaps p.night.tracks p.steps (code_of p car) pos).1
      ((never-gaps p pos).0 sorts.never car (omega (arith, came-once p.night.lengths p.night.inbound f car w))))

  -- the breaks before a car are at most the allowed codes below its own
  breaks-below : (i d : ℕ) → i < length p.night.lengths → d < item_of p.night.lengths (suc i)
      → breaks p.night.inbound (first_car p.night.lengths (suc i)) d ≤ passing u (code_of p (first_car p.night.lengths (suc i) + d))
  breaks-below i zero m b = omega arith
  breaks-below i (suc d) m b =
      go (broken inbound j) refl
      (ruled-of-builds p f sorts.codes sorts.never sorts.builds i j m (omega arith) (omega arith)) (breaks-below i d m (omega arith))
    where
      inbound : List ℕ
      inbound = p.night.inbound

      head : ℕ
      head = first_car p.night.lengths (suc i)

      j : ℕ
      j = head + d

      next : passing u (code_of p (suc j)) ≡ passing u (code_of p (head + suc d))
      next = ap (λ (c : ℕ). passing u (code_of p c)) (sym (add-suc head d))

      go : (brk : Bool) → broken inbound j ≡ brk → ruled (code_of p j) (code_of p (suc j)) brk ≡ true
          → breaks inbound head d ≤ passing u (code_of p j) → breaks inbound head (suc d) ≤ passing u (code_of p (head + suc d))
      go true e rule le =
          omega (
            arith,
            next,
            breaks-suc inbound head d,
            ap tally e,
            passing-suc u (code_of p j) (car-allowed j (cars-train p.night.lengths inbound f i j m (omega arith) (omega arith)).1),
            passing-mono u (suc (code_of p j)) (code_of p (suc j)) (ltb-true (code_of p j) (code_of p (suc j)) rule),
          )
      go false e rule le =
          omega (
            arith,
            next,
            breaks-suc inbound head d,
            ap tally e,
            passing-mono u (code_of p j) (code_of p (suc j)) (leb-true (code_of p j) (code_of p (suc j)) rule),
          )

  -- so the breaks of a train, and one more, are at most the allowed codes there are
  train-breaks : (t : ℕ) → Within 1 (length p.night.lengths) t
      → breaks_in p.night.lengths p.night.inbound t + tally p.night.closed < F p.night.tracks p.steps
  train-breaks zero w = absurd (omega (arith, w.0))
  train-breaks (suc i) w =
      omega (
        arith,
        breaks-below i d w.1 (omega (arith, some)),
        passing-suc u (code_of p last) (car-allowed last here.1),
        passing-mono u (suc (code_of p last)) (2 ^ p.steps) (sorts.codes.below last (here.1.0, omega (arith, here.1.1, sorts.codes.each))),
        allowed-count p.night.closed p.night.tracks p.steps pos,
      )
    where
      some : 1 ≤ item_of p.night.lengths (suc i)
      some = f.nonempty (suc i) w

      d : ℕ
      d = item_of p.night.lengths (suc i) - 1

      last : ℕ
      last = first_car p.night.lengths (suc i) + d

      here : (train_of p.night.lengths last ≡ suc i) × Within 1 (length p.night.inbound) last
      here = cars-train p.night.lengths p.night.inbound f i last w.1 (omega arith) (omega (arith, some))

  pub least-steps : 1 ≤ length p.night.lengths → steps_needed p.night ≤ p.steps
  unfolding steps_needed fewest_steps
  least-steps some = reached (most-reached (breaks_in lengths inbound) (up_from 1 (length lengths)) (omega (arith, length-up_from 1 (length lengths))))
    where
      lengths : List ℕ
      lengths = p.night.lengths

      inbound : List ℕ
      inbound = p.night.inbound

      -- a closed night needs a code more
      c : ℕ
      c = most_breaks lengths inbound + tally p.night.closed

      reached : ((t : ℕ) × (0 < count t (up_from 1 (length lengths))) × (breaks_in lengths inbound t ≡ most_breaks lengths inbound))
          → fewest_steps p.night.tracks c ≤ p.steps
      reached r =
          let b = up_from-bounds r.0 1 (length lengths) r.1 in
          (fewest-least p.night.tracks c pos).least p.steps (omega (arith, r.2, train-breaks r.0 (b.0, omega (arith, b.1))))
