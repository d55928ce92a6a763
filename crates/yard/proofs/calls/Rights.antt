-- Each ask is right: it is passed exactly if what it asks holds, and A and B are what it says they are.
use Prim.Native.Nat.{ℕ, zero, suc, ◌+◌, ◌-◌, ◌≤◌, ◌<◌, ◌^◌}
use mathlib.Core.Path.{◌≡◌, refl, sym, ap, ◌∙◌, subst}
use mathlib.Core.Logic.Iff
use mathlib.Core.Logic.{◌⊎◌, inl, inr, ⊎_elim, ◌↔◌}
use mathlib.Core.Bool.{Bool, true, false, not, ◌&&◌, ◌||◌}
use mathlib.Core.List.{List}
use native.Mathlib.Nat.{le_refl}
use native.Mathlib.Omega.{arith}
use lib.Dec.{leb, ltb, eqb}
use lib.ListN.{length, get_or, take}
use lib.Seq.{get_or-take, length-take-le}
use borrow.Author.Tests.{leb-true, le-leb, leb-false, lt-leb, ltb-true, lt-ltb, ltb-false, eqb-true, eq-eqb}
use Rattle.yard.specs.Words.{count, listed, place, first}
use Rattle.yard.specs.Night.{Night, Plan, sum, item_of, pair, broken}
use Rattle.yard.specs.Replay.{bit, code_of, pulled, pull_size, early, lowest_early, first_early, first_overfull, in_order}
use Rattle.yard.specs.Derived.{steps_needed, derived_codes, derived_plan}
use Rattle.yard.specs.Demands.{Least, Within, NoneEmpty, EachOnce, CodesBelow, KeepsClear, NeverEarly, HasRoom, BuildsTrains, Listed}
use Rattle.yard.specs.Demands.{CodesFormed, Sortable, EmptyTrain, WideCode, ZeroCode, CarAt, MetAt, BadPlace, ListedAt}
use Rattle.yard.specs.Demands.{TakesEarly, EarlyStep, OverfullStep, Ruled, BreaksRule}
use Rattle.yard.specs.Answers.{plain, count_ask, empty_train, train_ask, sum_ask, length_ask, buffer_ask, limit_ask}
use Rattle.yard.specs.Answers.{first_with, in_range, bad_place, first_bad, first_listing, inbound_ask}
use Rattle.yard.specs.Answers.{room_ask, wide_code, code_ask, code_test, no_zero, zero_ask, early_ask, ruled, unruled, first_unruled, order_ask}
use Rattle.yard.proofs.general.Bools.{split, clash, and_left, and_right, and_both, not-true, not_so}
use Rattle.yard.proofs.general.First.{first-least, first-none, first-fails}
use Rattle.yard.proofs.general.Order.{place-among}
use Rattle.yard.proofs.calls.Tests.{passed-exactly, count-passed, none_passed}
use Rattle.yard.proofs.yards.Formed.{train-passed, inbound-passed, place-holds, count_at}
use Rattle.yard.proofs.yards.Plans.{InRange, pulled-came, early-passed, room-passed}
use Rattle.yard.proofs.yards.Building.{order-builds, order-ruled}
use Rattle.yard.proofs.yards.Clear.{clear-exactly}
use Rattle.yard.proofs.yards.Least.{least-steps}
use Rattle.yard.proofs.yards.DerivedPlan.{derived-sorts}
use Rattle.yard.proofs.calls.Asks.{Right, least-exactly, first-is-least, plain-right, least-with-right, least-right}

-- ---- counts and lengths

pub count-right : (a low high x : ℕ) → Right (count_ask a low high x)
count-right a low high x =
    let passed = leb low x && leb x high in
    plain-right 0 passed a (Within low high x) (passed-exactly passed 0 a 0 (count-passed a low high x))

pub length-right : (a size n : ℕ) → Right (length_ask a size n)
length-right a size n = plain-right 3 (eqb size n) a (size ≡ n) (eqb-true size n, eq-eqb size n)

pub at-most-right : (k a n size : ℕ) → Right (plain (suc k) (leb n size) a (n ≤ size))
at-most-right k a n size = plain-right k (leb n size) a (n ≤ size) (leb-true n size, le-leb n size)

pub buffer-right : (a n size : ℕ) → Right (buffer_ask a n size)
buffer-right a n size = at-most-right 3 a n size

-- ---- the lists of a night

-- a search over 1 to n that ends at n or before has found something
found_within : (p : ℕ → Bool) (n : ℕ) → ltb n (first p n 1) ≡ false → first p n 1 < 1 + n
found_within p n e = omega (arith, ltb-false n (first p n 1) e)

pub train-right : (lengths : List ℕ) → Right (train_ask lengths)
train-right lengths =
    least-right 1 (ltb m (empty_train lengths)) (empty_train lengths) (NoneEmpty lengths) (EmptyTrain lengths)
    (passed-exactly (ltb m (empty_train lengths)) 1 (empty_train lengths) 0 (train-passed lengths))
    (λ e.
    first-is-least empty m 1 (EmptyTrain lengths)
    (λ t low high z. ((low, omega arith), eqb-true (item_of lengths t) 0 z))
    (λ t h. (h.0.0, omega (arith, h.0.1), eq-eqb (item_of lengths t) 0 h.1))
    (found_within empty m e))
  where
    m : ℕ
    m = length lengths

    empty : ℕ → Bool
    empty t = eqb (item_of lengths t) 0

pub sum-right : (lengths : List ℕ) (n : ℕ) → Right (sum_ask lengths n)
sum-right lengths n = plain-right 1 (eqb (sum lengths) n) 0 (sum lengths ≡ n) (eqb-true (sum lengths) n, eq-eqb (sum lengths) n)

either : (b c : Bool) → (b || c) ≡ true → (b ≡ true) ⊎ (c ≡ true)
either true c e = inl refl
either false c e = inr e

left_or : {b : Bool} (c : Bool) → b ≡ true → (b || c) ≡ true
left_or {b} c e = cc

right_or : (b : Bool) {c : Bool} → c ≡ true → (b || c) ≡ true
right_or true e = refl
right_or false e = e

module _ (inbound : List ℕ) where
  -- the number at a place was met before exactly if an earlier place has it
  met : (i : ℕ) → i < length inbound → (listed (get_or inbound i 0) (take i inbound) ≡ true) ↔ ((j : ℕ) × MetAt inbound (suc i) j)
  met i m = (
    λ e.
        let some : 0 < count x front = ltb-true 0 (count x front) e in
        let j : ℕ = place x front in
        let near : j < i = omega (arith, place-among x front some, long) in
        (suc j, (omega arith, omega (arith, near), item j ∙ (sym (get_or-take i inbound j 0 near) ∙ (place-holds front x some ∙ sym (item i))))),
    λ f. earlier f.0 f.1.0 f.1.1 f.1.2,
  )
    where
      x : ℕ
      x = get_or inbound i 0

      front : List ℕ
      front = take i inbound

      long : length front ≡ i
      long = length-take-le i inbound (omega (arith, m))

      item : (k : ℕ) → item_of inbound (suc k) ≡ get_or inbound k 0
      item k =
          let e : suc k - 1 ≡ k = omega arith in
          ap (λ (l : ℕ). get_or inbound l 0) e

      earlier : (j : ℕ) → 1 ≤ j → j < suc i → item_of inbound j ≡ item_of inbound (suc i) → listed x front ≡ true
      earlier zero low high e = absurd (omega arith)
      earlier (suc k) low high e =
          let same : get_or front k 0 ≡ x = get_or-take i inbound k 0 (omega (arith, high)) ∙ (sym (item k) ∙ (e ∙ item i)) in
          let there = count_at front k (omega (arith, long, high)) in
          lt-ltb 0 (count x front) (omega (arith, there, ap (λ (y : ℕ). count y front) same))

  -- what a test of range says
  car-at : (k : ℕ) → (in_range inbound (item_of inbound k) ≡ true) ↔ CarAt inbound k
  car-at k =
      let x = item_of inbound k in
      let n = length inbound in (
        λ r. (leb-true 1 x (and_left (leb 1 x) (leb x n) r), leb-true x n (and_right (leb 1 x) (leb x n) r)),
        λ v. and_both (le-leb 1 x v.0) (le-leb x n v.1),
      )

  bad-exactly : (k : ℕ) → Within 1 (length inbound) k → (bad_place inbound k ≡ true) ↔ BadPlace inbound k
  bad-exactly zero w = absurd (omega (arith, w.0))
  bad-exactly (suc i) w =
      let x = item_of inbound (suc i) in
      let range = in_range inbound x in
      let car = car-at (suc i) in
      let before : suc i - 1 ≡ i = omega arith in
      let again = met i w.1 in
      let seen : listed x (take (suc i - 1) inbound) ≡ listed (get_or inbound i 0) (take i inbound) =
      ap (λ (l : ℕ). listed (get_or inbound l 0) (take l inbound)) before in (
        λ e. (
          w,
          ⊎_elim
              (λ out. inl (λ v. clash (car.1 v) (not-true range out)))
              (λ twice. inr (again.0 (sym seen ∙ twice)))
              (either (not range) (listed x (take (suc i - 1) inbound)) e),
        ),
        λ h.
            ⊎_elim
            (λ out. left_or (listed x (take (suc i - 1) inbound)) (ap not (not_so range (λ r. out (car.0 r)))))
            (λ twice. right_or (not range) (seen ∙ again.1 twice))
            h.1,
      )

  -- a number met before stands first at the first place that has it
  first-met : (k : ℕ) → Within 1 (length inbound) k → (j : ℕ) → MetAt inbound k j → Least (MetAt inbound k) (first_with (item_of inbound k) inbound)
  first-met k w j m =
      let x = item_of inbound k in
      let n = length inbound in
      let has : ℕ → Bool = λ i. eqb (item_of inbound i) x in
      let found = first-least has n 1 j m.0 (eq-eqb (item_of inbound j) x m.2) in
      let near : first has n 1 ≤ j = ⊎_elim (λ le. le) (λ far. omega (arith, far, m.1, w.1)) found in
      let low =
      first-is-least has n 1 (λ i. Within 1 n i × (item_of inbound i ≡ x))
      (λ i l h e. ((l, omega (arith, h)), eqb-true (item_of inbound i) x e))
      (λ i h. (h.0.0, omega (arith, h.0.1), eq-eqb (item_of inbound i) x h.1))
      (omega (arith, near, m.1, w.1)) in
      record {
        holds = (low.holds.0.0, omega (arith, near, m.1), low.holds.1);
        least = λ i h. low.least i ((h.0, omega (arith, h.1, w.1)), h.2);
      }

  listed-exactly : (k : ℕ) → BadPlace inbound k → (j : ℕ) → ListedAt inbound k j ↔ (j ≡ first_listing inbound k)
  listed-exactly k bad j = ⊎_elim inside outside (split (in_range inbound (item_of inbound k)))
    where
      inside : in_range inbound (item_of inbound k) ≡ true → ListedAt inbound k j ↔ (j ≡ first_listing inbound k)
      inside e =
          let car = (car-at k).0 e in
          let own = least-exactly (⊎_elim (λ out. absurd (out car)) (λ met. first-met k bad.0 met.0 met.1) bad.1) j in
          rw e (⊎_elim (λ out. absurd (out.0 car)) (λ at. own.0 at.1), λ z. inr (car, own.1 z))

      outside : in_range inbound (item_of inbound k) ≡ false → ListedAt inbound k j ↔ (j ≡ first_listing inbound k)
      outside e =
          let out : CarAt inbound k → ⊥ = λ car. clash ((car-at k).1 car) e in
          rw e (⊎_elim (λ none. none.1) (λ at. absurd (out at.0)), λ z. inl (out, z))

  -- with a bad place, not each car is listed once
  pub bad-not-once : (k : ℕ) → BadPlace inbound k → EachOnce inbound → ⊥
  bad-not-once k bad once =
      let none = none_passed (bad_place inbound) (length inbound) 2 (first_bad inbound) (first_listing inbound (first_bad inbound)) in
      clash ((bad-exactly k bad.0).1 bad) (none.0 ((inbound-passed inbound).1 once) k bad.0.0 bad.0.1)

pub inbound-right : (inbound : List ℕ) → Right (inbound_ask inbound)
inbound-right inbound =
    least-with-right 2 (ltb n bad) bad (first_listing inbound bad) (EachOnce inbound) (BadPlace inbound) (ListedAt inbound)
    (passed-exactly (ltb n bad) 2 bad (first_listing inbound bad) (inbound-passed inbound)) lowest (λ e. listed-exactly inbound bad (lowest e).holds)
  where
    n : ℕ
    n = length inbound

    bad : ℕ
    bad = first_bad inbound

    lowest : ltb n bad ≡ false → Least (BadPlace inbound) bad
    lowest e =
        first-is-least (bad_place inbound) n 1 (BadPlace inbound)
        (λ k low high b. (bad-exactly inbound k (low, omega arith)).0 b)
        (λ k h. (h.0.0, omega (arith, h.0.1), (bad-exactly inbound k h.0).1 h))
        (found_within (bad_place inbound) n e)

-- ---- codes

pub codes-passed : (h : ℕ) (codes : List ℕ) → ((code_test h codes).number ≡ 0) ↔ CodesBelow h codes
codes-passed h codes =
    let none = none_passed (λ car. leb (2 ^ h) (item_of codes car)) (length codes) 6 (wide_code h codes) 0 in (
      λ e car w. leb-false (2 ^ h) (item_of codes car) (none.0 e car w.0 w.1),
      λ f. none.1 (λ car l m. lt-leb (2 ^ h) (item_of codes car) (f car (l, m))),
    )

pub code-right : (h : ℕ) (codes : List ℕ) → Right (code_ask h codes)
code-right h codes =
    least-right 6 (ltb n (wide_code h codes)) (wide_code h codes) (CodesBelow h codes) (WideCode h codes)
    (passed-exactly (ltb n (wide_code h codes)) 6 (wide_code h codes) 0 (codes-passed h codes))
    (λ e.
    first-is-least wide n 1 (WideCode h codes)
    (λ car low high b. ((low, omega arith), leb-true (2 ^ h) (item_of codes car) b))
    (λ car f. (f.0.0, omega (arith, f.0.1), le-leb (2 ^ h) (item_of codes car) f.1))
    (found_within wide n e))
  where
    n : ℕ
    n = length codes

    wide : ℕ → Bool
    wide car = leb (2 ^ h) (item_of codes car)

-- ---- zero codes in a closed night

module _ (p : Plan) where
  -- a car with code 0 is never pulled
  unmoved : ℕ → Bool
  unmoved car = eqb (code_of p car) 0

  -- the test of a closed night is passed exactly if no car has code 0; where it is not, the search finds the first that has
  pub none-zero : (no_zero p.night.closed p.codes ≡ true) ↔ ((car : ℕ) → ZeroCode p car → ⊥)
  unfolding unmoved
  none-zero = go p.night.closed refl
    where
      n : ℕ
      n = length p.codes

      none : (ltb n (first unmoved n 1) ≡ true) ↔ ((car : ℕ) → Within 1 n car → unmoved car ≡ false)
      none = (
        λ e car w. first-none unmoved n 1 car w.0 (omega (arith, ltb-true n (first unmoved n 1) e, w.1)),
        λ f. lt-ltb n (first unmoved n 1) (omega (arith, first-fails unmoved n 1 (λ car l m. f car (l, omega (arith, m))))),
      )

      go : (b : Bool) → p.night.closed ≡ b → (no_zero b p.codes ≡ true) ↔ ((car : ℕ) → ZeroCode p car → ⊥)
      go false free = (λ _ car z. clash z.0 free, λ _. refl)
      go true shut = (
        λ e car z. clash (eq-eqb (code_of p car) 0 z.2) (none.0 e car z.1),
        λ f. none.1 (λ car w. not_so (unmoved car) (λ e. f car (shut, w, eqb-true (code_of p car) 0 e))),
      )

  first-zero : no_zero p.night.closed p.codes ≡ false → Least (ZeroCode p) (first_with 0 p.codes)
  unfolding unmoved
  first-zero = go p.night.closed refl
    where
      n : ℕ
      n = length p.codes

      go : (b : Bool) → p.night.closed ≡ b → no_zero b p.codes ≡ false → Least (ZeroCode p) (first unmoved n 1)
      go false free e = clash refl e
      go true shut e =
          first-is-least unmoved n 1 (ZeroCode p)
          (λ car low high z. (shut, (low, omega (arith, high)), eqb-true (code_of p car) 0 z))
          (λ car z. (z.1.0, omega (arith, z.1.1), eq-eqb (code_of p car) 0 z.2))
          (found_within unmoved n e)

  pub zero_right : Listed p.night.lengths p.night.inbound → 0 < p.night.tracks → CodesFormed p → Right (zero_ask p)
  zero_right f pos formed =
      least-right 13 (no_zero p.night.closed p.codes) (first_with 0 p.codes) (KeepsClear p) (ZeroCode p)
      (Iff.trans none-zero (clear.1, clear.0)) first-zero
    where
      clear : KeepsClear p ↔ ((car : ℕ) → ZeroCode p car → ⊥)
      clear = clear-exactly p f pos formed

-- ---- the replay: early pulls, and room

module _ (p : Plan) (within : InRange p.night.inbound) where
  -- a car of the night is taken early, as a test and as a statement
  taken : (k car : ℕ) → (early p k car ≡ true) ↔ TakesEarly p k car
  unfolding early TakesEarly
  taken k car =
      let there = listed car (pulled p k) in
      let unset = not (bit k (code_of p car)) in (
        λ e. (ltb-true 0 (count car (pulled p k)) (and_left there unset e), not-true (bit k (code_of p car)) (and_right there unset e)),
        λ t. and_both (lt-ltb 0 (count car (pulled p k)) t.0) (ap not t.1),
      )

  taken-within : (k car : ℕ) → TakesEarly p k car → Within 1 (length p.night.inbound) car
  unfolding TakesEarly
  taken-within k car t = within.range car (pulled-came p k car t.0)

  -- the lowest car that a step takes early, where it takes one
  lowest : (k : ℕ) → leb (lowest_early p k) (length p.night.inbound) ≡ true → Least (TakesEarly p k) (lowest_early p k)
  unfolding lowest_early
  lowest k e =
      first-is-least (early p k) n 1 (TakesEarly p k)
      (λ car low high b. (taken k car).0 b)
      (λ car t. let w = taken-within k car t in (w.0, omega (arith, w.1), (taken k car).1 t))
      (omega (arith, leb-true (first (early p k) n 1) n e))
    where
      n : ℕ
      n = length p.night.inbound

  some-early : (k car : ℕ) → TakesEarly p k car → leb (lowest_early p k) (length p.night.inbound) ≡ true
  unfolding lowest_early
  some-early k car t =
      let n = length p.night.inbound in
      let w = taken-within k car t in
      le-leb (first (early p k) n 1) n
      (⊎_elim (λ le. omega (arith, le, w.1)) (λ far. omega (arith, far, w.1)) (first-least (early p k) n 1 car w.0 ((taken k car).1 t)))

  first-early : leb p.steps (first_early p) ≡ false → Least (EarlyStep p) (first_early p)
  unfolding first_early EarlyStep
  first-early e =
      first-is-least some p.steps 0 (EarlyStep p)
      (λ k low high b. (omega (arith, high), (lowest_early p k, (lowest k b).holds)))
      (λ k f. (omega arith, omega (arith, f.0), some-early k f.1.0 f.1.1))
      (omega (arith, leb-false p.steps (first some p.steps 0) e))
    where
      some : ℕ → Bool
      some k = leb (lowest_early p k) (length p.night.inbound)

  pub early-right : Right (early_ask p)
  unfolding EarlyStep
  early-right =
      record {
        named = omega arith;
        exactly = passed-exactly (leb p.steps (first_early p)) 7 (lowest_early p (first_early p)) (first_early p) (early-passed p within);
        tells = λ e car k. told e car k;
      }
    where
      told : leb p.steps (first_early p) ≡ false → (car k : ℕ)
          → (Least (EarlyStep p) k × Least (TakesEarly p k) car) ↔ ((car ≡ lowest_early p (first_early p)) × (k ≡ first_early p))
      told e car k =
          let step = first-early e in
          let its = lowest (first_early p) (some-early (first_early p) step.holds.1.0 step.holds.1.1) in
          let own = least-exactly step k in (
            λ t. let same = own.0 t.0 in ((least-exactly its car).0 (subst (λ (s : ℕ). Least (TakesEarly p s) car) same t.1), same),
            λ t. (own.1 t.1, subst (λ (s : ℕ). Least (TakesEarly p s) car) (sym t.1) ((least-exactly its car).1 t.0)),
          )

pub room-right : (p : Plan) → Right (room_ask p)
unfolding OverfullStep first_overfull
room-right p =
    least-with-right 5 (leb p.steps (first_overfull p)) (first_overfull p) (pull_size p (first_overfull p)) (HasRoom p) (OverfullStep p)
    (λ k cars. cars ≡ pull_size p k)
    (passed-exactly (leb p.steps (first_overfull p)) 5 (first_overfull p) (pull_size p (first_overfull p)) (room-passed p))
    fullest (λ e cars. (λ z. z, λ z. z))
  where
    full : ℕ → Bool
    full k = ltb p.night.room (pull_size p k)

    fullest : leb p.steps (first full p.steps 0) ≡ false → Least (OverfullStep p) (first full p.steps 0)
    fullest e =
        first-is-least full p.steps 0 (OverfullStep p)
        (λ k low high b. (omega (arith, high), ltb-true p.night.room (pull_size p k) b))
        (λ k f. (omega arith, omega (arith, f.0), lt-ltb p.night.room (pull_size p k) f.1))
        (omega (arith, leb-false p.steps (first full p.steps 0) e))

-- a step that overfills its track, and room for all, do not go together
pub overfull-full : (p : Plan) (k : ℕ) → OverfullStep p k → HasRoom p → ⊥
unfolding OverfullStep HasRoom
overfull-full p k f room = omega (arith, f.1, room k f.0)

-- ---- the order of the trains

ruled-exactly : (low high : ℕ) (brk : Bool) → (ruled low high brk ≡ true) ↔ ((low ≤ high) × (brk ≡ true → low < high))
ruled-exactly low high true = (
  λ e. let l = ltb-true low high e in (omega (arith, l), λ _. l),
  λ f. lt-ltb low high (f.1 refl),
)
ruled-exactly low high false = (λ e. (leb-true low high e, λ b. clash b refl), λ f. le-leb low high f.0)

module _ (p : Plan) where
  abbrev brk : ℕ → Bool
  brk j = broken p.night.inbound j

  rule : ℕ → Bool
  rule j = ruled (code_of p j) (code_of p (suc j)) (brk j)

  rule-exactly : (j : ℕ) → (rule j ≡ true) ↔ Ruled p j
  unfolding rule
  rule-exactly j =
      let own = ruled-exactly (code_of p j) (code_of p (suc j)) (brk j) in
      (λ e. let f = own.0 e in record { at_least = f.0; greater = f.1 }, λ r. own.1 (r.at_least, r.greater))

  unruled-exactly : (j : ℕ) → (unruled p j ≡ true) ↔ ((pair p.night.lengths j ≡ true) × (Ruled p j → ⊥))
  unfolding rule
  unruled-exactly j =
      let paired = pair p.night.lengths j in (
        λ e. (and_left paired (not (rule j)) e, λ r. clash ((rule-exactly j).1 r) (not-true (rule j) (and_right paired (not (rule j)) e))),
        λ f. and_both f.0 (ap not (not_so (rule j) (λ e. f.1 ((rule-exactly j).0 e)))),
      )

  module _ (f : Listed p.night.lengths p.night.inbound) (formed : CodesFormed p) (never : NeverEarly p) (some : 1 ≤ length p.night.inbound) where
    pub order-right : Right (order_ask p)
    unfolding BreaksRule
    order-right = least-right 8 (in_order p) (suc (first_unruled p)) (BuildsTrains p) (BreaksRule p) (order-builds p) lowest-car
      where
        n : ℕ
        n = length p.night.inbound

        lowest-car : in_order p ≡ false → Least (BreaksRule p) (suc (first_unruled p))
        lowest-car e =
            let found : first_unruled p < 1 + (n - 1) = omega (arith, some, leb-false n (first_unruled p) (sym (order-ruled p f formed never some) ∙ e)) in
            let low =
            first-is-least (unruled p) (n - 1) 1 (λ j. Within 1 (n - 1) j × (unruled p j ≡ true))
            (λ j l m u. ((l, omega (arith, m)), u)) (λ j h. (h.0.0, omega (arith, h.0.1), h.1)) found in
            let breaks = (unruled-exactly (first_unruled p)).0 low.holds.1 in
            record {
              holds = (
                first_unruled p,
                refl,
                (low.holds.0.0, omega (arith, low.holds.0.1)),
                (omega arith, omega (arith, low.holds.0.1, some)),
                breaks.0,
                breaks.1,
              );
              least =
                  λ c h.
                  omega (arith, h.1, low.least h.0 ((h.2.0, omega (arith, h.1, h.3.1)), (unruled-exactly h.0).1 (h.4, h.5)));
            }

-- ---- the step limit

pub limit-right : (n : Night) (limit : ℕ) → 1 ≤ length n.lengths → 1 ≤ n.tracks → Listed n.lengths n.inbound → Right (limit_ask n limit)
unfolding derived_plan
limit-right n limit some pos f =
    least-right 4 (leb (steps_needed n) limit) (steps_needed n) (Sortable n limit) (Sortable n)
    (λ e. kept limit (leb-true (steps_needed n) limit e), λ s. le-leb (steps_needed n) limit (needed limit s))
    (λ e. record { holds = kept (steps_needed n) (le_refl (steps_needed n)); least = needed })
  where
    kept : (h : ℕ) → steps_needed n ≤ h → Sortable n h
    kept h w = record { steps = steps_needed n; codes = derived_codes n; within = w; sorts = derived-sorts n f pos }

    needed : (h : ℕ) → Sortable n h → steps_needed n ≤ h
    needed h s = omega (arith, least-steps (record { night = n; steps = s.steps; codes = s.codes }) f pos s.sorts some, s.within)
