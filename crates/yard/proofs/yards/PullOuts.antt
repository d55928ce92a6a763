-- Pull-outs counted without the steps that pull nothing: a plan that sorts still sorts when those steps are left out. So every
-- step of the derived plan pulls a car, and no plan that sorts has fewer pull-outs.
use mathlib.Core.Path.{◌≡◌, refl, sym, ap, ◌∙◌}
use mathlib.Core.Logic.{◌⊎◌, inl, inr, ⊎_elim}
use mathlib.Core.Bool.{Bool, true, false, not}
use Prim.Native.Nat.{ℕ, zero, suc, ◌+◌, ◌-◌, ◌*◌, ◌%◌, ◌^◌, ◌≤◌, ◌<◌}
use native.Mathlib.Nat.{le_trans, le_of_lt, lt_of_lt_of_le, eq-or-lt_of_le, mod-lt, add-zero, two-pow-succ}
use native.Mathlib.Numerals.{add-one}
use native.Mathlib.Omega.{arith}
use lib.Dec.{ltb, eqb}
use lib.ListN.{length}
use lib.Pow.{pow_pos, pow_mono}
use borrow.Author.Tests.{leb-true, le-leb, ltb-true, lt-ltb}
use Rattle.yard.specs.Words.{tally, count}
use Rattle.yard.specs.Night.{Night, Plan, pair, broken}
use Rattle.yard.specs.Replay.{bit, code_of, destination, yard_at, pulled, pull_outs}
use Rattle.yard.specs.Derived.{steps_needed, derived_plan}
use Rattle.yard.specs.Answers.{ruled}
use Rattle.yard.specs.Demands.{Within, Listed, Sorts}
use Rattle.yard.proofs.general.Bools.{split, clash, and_both}
use Rattle.yard.proofs.general.Numbers.{below_suc}
use Rattle.yard.proofs.general.Lists.{total-small, tally-small}
use Rattle.yard.proofs.yards.Codes.{total-next, low-suc, low-all}
use Rattle.yard.proofs.yards.Replay.{Clean, target-set}
use Rattle.yard.proofs.yards.Early.{Gaps, highest, among-taken}
use Rattle.yard.proofs.yards.Counting.{passing, some-bit, gaps-less, gaps-grow, gaps-top}
use Rattle.yard.proofs.yards.Plans.{destination-away, clean-of-never, never-gaps}
use Rattle.yard.proofs.yards.Building.{came-once, builds-ruled}
use Rattle.yard.proofs.yards.Clear.{clear-some}
use Rattle.yard.proofs.yards.Least.{passing-more, passing-most, least-steps}
use Rattle.yard.proofs.yards.DerivedPlan.{coded, coded-sorts, derived-sorts}

-- ---- a code without the steps that a test leaves out

module _ (s : ℕ → Bool) where
  -- the bits of a code of h steps, each moved down over the steps that the test leaves out
  abbrev pub joined : ℕ → ℕ → ℕ
  joined zero x = 0
  joined (suc h) x = tally (bit h x) * 2 ^ passing s h + joined h x

  -- a code of h steps names none that the test leaves out
  abbrev pub Names : ℕ → ℕ → Type 0
  Names h x = (k : ℕ) → k < h → bit k x ≡ true → s k ≡ true

  names-less : (h x : ℕ) → Names (suc h) x → Names h x
  names-less h x names k m = names k (omega arith)

  stays : (h : ℕ) → passing s (suc h) ≡ passing s h + tally (s h)
  stays h = total-next (λ k. tally (s k)) h

  -- a step that stays doubles the codes
  stays-doubled : (h : ℕ) → 2 ^ passing s (suc h) ≡ 2 ^ passing s h + tally (s h) * 2 ^ passing s h
  stays-doubled h = ap (λ (k : ℕ). 2 ^ k) (stays h) ∙ go (s h)
    where
      go : (b : Bool) → 2 ^ (passing s h + tally b) ≡ 2 ^ passing s h + tally b * 2 ^ passing s h
      go true = omega (arith, ap (λ (k : ℕ). 2 ^ k) (add-one (passing s h)), two-pow-succ (passing s h))
      go false = omega (arith, ap (λ (k : ℕ). 2 ^ k) (add-zero (passing s h)))

  pub joined-below : (h x : ℕ) → Names h x → joined h x < 2 ^ passing s h
  joined-below zero x names = omega arith
  joined-below (suc h) x names = go (bit h x) (s h) (names h (omega arith)) (stays-doubled h) (joined-below h x (names-less h x names))
    where
      go :
          (b c : Bool) → (b ≡ true → c ≡ true) → 2 ^ passing s (suc h) ≡ 2 ^ passing s h + tally c * 2 ^ passing s h →
          joined h x < 2 ^ passing s h → tally b * 2 ^ passing s h + joined h x < 2 ^ passing s (suc h)
      go true true names e m = omega arith
      go true false names e m = clash (names refl) refl
      go false true names e m = omega arith
      go false false names e m = omega arith

  -- a set bit is still there, as far down as steps below it are left out
  pub joined-from : (h x k : ℕ) → k < h → bit k x ≡ true → 2 ^ passing s k ≤ joined h x
  joined-from zero x k m e = absurd (omega arith)
  joined-from (suc h) x k m e =
      ⊎_elim
      (λ q. omega (arith, ap (λ (j : ℕ). 2 ^ passing s j) q, ap (λ (b : Bool). tally b * 2 ^ passing s h) (ap (λ (j : ℕ). bit j x) (sym q) ∙ e)))
      (λ l. omega (arith, joined-from h x k l e))
      (below_suc m)

  -- so a code above 0 stays above 0
  pub joined-some : (h x : ℕ) → x < 2 ^ h → 0 < x → 0 < joined h x
  joined-some h x below some =
      let (k, _, m, set) = some-bit 0 h x (omega arith) below (omega (arith, some)) in
      lt_of_lt_of_le (pow_pos (passing s k)) (joined-from h x k m set)

  -- the smaller code stays the smaller
  pub joined-rising : (h x y : ℕ) → Names h x → Names h y → x % 2 ^ h < y % 2 ^ h → joined h x < joined h y
  joined-rising zero x y nx ny l = absurd (omega (arith, mod-lt y (pow_pos 0)))
  joined-rising (suc h) x y nx ny l =
      go (bit h x) (bit h y) (low-suc h x) (low-suc h y) (joined-rising h x y (names-less h x nx) (names-less h y ny))
    where
      go :
          (b c : Bool) → x % 2 ^ suc h ≡ tally b * 2 ^ h + x % 2 ^ h → y % 2 ^ suc h ≡ tally c * 2 ^ h + y % 2 ^ h →
          (x % 2 ^ h < y % 2 ^ h → joined h x < joined h y) →
          tally b * 2 ^ passing s h + joined h x < tally c * 2 ^ passing s h + joined h y
      go true true u v under = omega (arith, under (omega arith))
      go false false u v under = omega (arith, under (omega arith))
      go false true u v under = omega (arith, joined-below h x (names-less h x nx))
      go true false u v under = absurd (omega (arith, mod-lt y (pow_pos h)))

  -- so the rule for a pair stays
  pub joined-ruled : (h x y : ℕ) → (x < 2 ^ h) × Names h x → (y < 2 ^ h) × Names h y
      → (b : Bool) → ruled x y b ≡ true → ruled (joined h x) (joined h y) b ≡ true
  joined-ruled h x y (mx, nx) (my, ny) = go
    where
      rising : x < y → joined h x < joined h y
      rising l = joined-rising h x y nx ny (omega (arith, low-all h x mx, low-all h y my))

      go : (b : Bool) → ruled x y b ≡ true → ruled (joined h x) (joined h y) b ≡ true
      go true e = lt-ltb (joined h x) (joined h y) (rising (ltb-true x y e))
      go false e =
          le-leb (joined h x) (joined h y)
          (⊎_elim (λ q. omega (arith, ap (λ (z : ℕ). joined h z) q)) (λ l. le_of_lt (rising l)) (eq-or-lt_of_le (leb-true x y e)))

  -- the highest bit is as near to the next one below it as it was, or nearer
  joined-near : (W h x : ℕ) → Gaps W (suc h) x → bit h x ≡ true
      → ((k : ℕ) → k < h → bit k x ≡ false) ⊎ ((k : ℕ) × (k < h) × (bit k x ≡ true) × ((j : ℕ) → k < j → j < h → bit j x ≡ false))
      → (passing s h < W) ⊎ (2 ^ (passing s h - W) ≤ joined h x)
  joined-near W h x g e (inl none) = inl (omega (arith, g.lowest h (omega arith) e none, passing-most s h))
  joined-near W h x g e (inr (k, m, b, none)) =
      let whole : h ≡ k + (h - k) = omega arith in
      let near : h ≤ k + W = g.neighbours k h m (omega arith) b e none in
      let close : passing s h - W ≤ passing s k = omega (arith, near, passing-more s k (h - k), ap (λ (j : ℕ). passing s j) whole) in
      inr (le_trans (pow_mono close) (joined-from h x k m b))

  -- so no gap grows wider
  pub joined-gaps : (W h x : ℕ) → 0 < W → Names h x → Gaps W h x → Gaps W (passing s h) (joined h x)
  joined-gaps W zero x pos names g = record { lowest = λ l b. absurd (omega arith); neighbours = λ k l b c. absurd (omega arith) }
  joined-gaps W (suc h) x pos names g =
      go (bit h x) (s h) refl (names h (omega arith)) (stays h) (joined-gaps W h x pos (names-less h x names) (gaps-less W pos h x g))
    where
      n : ℕ
      n = passing s h

      z : ℕ
      z = joined h x

      below : z < 2 ^ n
      below = joined-below h x (names-less h x names)

      at : (b : Bool) (m y : ℕ) → passing s (suc h) ≡ m → tally b * 2 ^ n + z ≡ y → Gaps W m y → Gaps W (passing s (suc h)) (tally b * 2 ^ n + z)
      at b m y e d gaps = rw (e, d) gaps

      go :
          (b c : Bool) → bit h x ≡ b → (b ≡ true → c ≡ true) → passing s (suc h) ≡ n + tally c → Gaps W n z →
          Gaps W (passing s (suc h)) (tally b * 2 ^ n + z)
      go true true e names last under =
          at true (suc n) (2 ^ n + z) (omega arith) (omega arith) ((gaps-top W pos n z below).1 (under, joined-near W h x g e (highest x h)))
      go true false e names last under = clash (names refl) refl
      go false true e names last under = at false (suc n) z (omega arith) (omega arith) ((gaps-grow W pos n z below).1 under)
      go false false e names last under = at false n z (omega arith) (omega arith) under

-- ---- a plan without the steps that pull nothing

module _ (p : Plan) (f : Listed p.night.lengths p.night.inbound) (pos : 0 < p.night.tracks) (sorts : Sorts p) where
  pulls : ℕ → Bool
  pulls k = ltb 0 (length (pulled p k))

  code : ℕ → ℕ
  code car = joined pulls p.steps (code_of p car)

  came : (car : ℕ) → Within 1 (length p.night.inbound) car → 0 < count car p.night.inbound
  came car w = omega (arith, came-once p.night.lengths p.night.inbound f car w)

  -- a step that a car's code names pulls that car
  code-pulled : (car : ℕ) → Within 1 (length p.night.inbound) car → Names pulls p.steps (code_of p car)
  unfolding pulls pulled yard_at Clean
  code-pulled car w k l e =
      lt-ltb 0 (length (pulled p k))
      (lt_of_lt_of_le
      ((among-taken W h pos (code_of p) dest p.night.inbound (λ c m. destination-away p.night c) k car (le_of_lt l) clean).1
      (target-set W h (code_of p) dest k car l e, came car w))
      (total-small (λ c. tally (eqb car c)) (λ c. tally-small (eqb car c)) (pulled p k)))
    where
      W : ℕ
      W = p.night.tracks

      h : ℕ
      h = p.steps

      dest : ℕ → ℕ
      dest = destination p.night

      clean : Clean W h (code_of p) dest p.night.inbound k
      clean = λ j m. clean-of-never p sorts.never j (omega arith)

  fits : (car : ℕ) → Within 1 (length p.night.inbound) car → (code_of p car < 2 ^ p.steps) × Names pulls p.steps (code_of p car)
  fits car w = (sorts.codes.below car (w.0, omega (arith, w.1, sorts.codes.each)), code-pulled car w)

  rule : (j : ℕ) → 1 ≤ j → j < length p.night.inbound → pair p.night.lengths j ≡ true
      → ruled (code_of p j) (code_of p (suc j)) (broken p.night.inbound j) ≡ true
  rule j l m e =
      ⊎_elim
      (λ q. q)
      (λ q. clash (and_both e (ap not q)) ((builds-ruled p f sorts.codes sorts.never).0 sorts.builds j l m))
      (split (ruled (code_of p j) (code_of p (suc j)) (broken p.night.inbound j)))

  -- the plan in as many steps as pull a car: it sorts too
  pub shortened : Plan
  shortened = coded p.night (pull_outs p) code

  pub shortened-sorts : Sorts shortened
  unfolding shortened code pull_outs pulls
  shortened-sorts =
      coded-sorts p.night f pos (pull_outs p) code
      (λ car w. (
        joined-below pulls p.steps (code_of p car) (code-pulled car w),
        joined-gaps pulls p.night.tracks p.steps (code_of p car) pos (code-pulled car w) ((never-gaps p pos).0 sorts.never car (came car w)),
        λ shut. joined-some pulls p.steps (code_of p car) (fits car w).0 (clear-some p f pos sorts.codes sorts.clear car w shut),
      ))
      (λ j l m e.
      joined-ruled pulls p.steps (code_of p j) (code_of p (suc j)) (fits j (l, omega arith)) (fits (suc j) (omega arith, m))
      (broken p.night.inbound j) (rule j l m e))

-- ---- the fewest pull-outs

-- a plan that sorts has at least as many pull-outs as the fewest steps
pub pull-outs-least : (p : Plan) → Listed p.night.lengths p.night.inbound → 0 < p.night.tracks → 1 ≤ length p.night.lengths
    → Sorts p → steps_needed p.night ≤ pull_outs p
unfolding shortened
pull-outs-least p f pos some sorts = least-steps (shortened p f pos sorts) f pos (shortened-sorts p f pos sorts) some

-- every step of the derived plan pulls a car
pub pull-outs-derived : (n : Night) → Listed n.lengths n.inbound → 0 < n.tracks → 1 ≤ length n.lengths
    → pull_outs (derived_plan n) ≡ steps_needed n
unfolding derived_plan pull_outs
pull-outs-derived n f pos some =
    omega (
      arith,
      passing-most (λ k. ltb 0 (length (pulled (derived_plan n) k))) (steps_needed n),
      pull-outs-least (derived_plan n) f pos some (derived-sorts n f pos),
    )

-- so no plan of a night that sorts has fewer pull-outs than the derived plan
pub fewest-pull-outs : (p : Plan) → Listed p.night.lengths p.night.inbound → 0 < p.night.tracks → 1 ≤ length p.night.lengths
    → Sorts p → pull_outs (derived_plan p.night) ≤ pull_outs p
fewest-pull-outs p f pos some sorts = omega (arith, pull-outs-derived p.night f pos some, pull-outs-least p f pos some sorts)
