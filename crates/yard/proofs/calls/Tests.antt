-- What each test of a call asks for: it is passed exactly if that holds.
use Prim.Native.Nat.{ℕ, zero, suc, ◌-◌, ◌^◌, ◌≤◌, ◌<◌}
use mathlib.Core.Path.{◌≡◌, refl}
use mathlib.Core.Logic.{◌↔◌, ⊎_elim}
use mathlib.Core.Bool.{Bool, true, false, not, ◌&&◌, ◌||◌}
use mathlib.Core.List.{List, [], ◌∷◌}
use native.Mathlib.Nat.{suc-ne-zero}
use native.Mathlib.Omega.{arith}
use lib.Dec.{leb, ltb, eqb}
use lib.ListN.{length, get_or, take, get_or-eq_default}
use lib.Pow.{pow_pos}
use borrow.Author.Tests.{leb-true, leb-false, le-leb, lt-leb, ltb-true, lt-ltb, eqb-true, eq-eqb}
use Rattle.yard.specs.declared.Limits.{Limits}
use Rattle.yard.specs.Words.{first, listed}
use Rattle.yard.specs.Night.{sum, item_of}
use Rattle.yard.specs.Answers.{says, test, count_test, list_test, sum_test, bad_place, first_bad, first_listing, inbound_test, wide_code, code_test}
use Rattle.yard.specs.Demands.{InLimits}
use Rattle.yard.specs.Calls.{count_tests}
use Rattle.yard.proofs.general.Bools.{and_left, and_right, and_both, not-false}
use Rattle.yard.proofs.general.Numbers.{le-or-lt}
use Rattle.yard.proofs.general.First.{first-none, first-fails}
use Rattle.yard.proofs.calls.Verdict.{Passed, test-passed}
use Rattle.yard.proofs.cards.Bits.{Below}

-- a refusal has a number of its own
pub asks : (b : Bool) (k a c : ℕ) → ((test b (says (suc k) a c)).number ≡ 0) ↔ (b ≡ true)
asks b k a c = test-passed b (says (suc k) a c) (suc-ne-zero k)

-- what a passed test asks for, its own Bool tells
pub passed-exactly : {P : Type 0} (b : Bool) (k a c : ℕ) → (((test b (says (suc k) a c)).number ≡ 0) ↔ P) → (b ≡ true) ↔ P
passed-exactly b k a c e = let own = asks b k a c in (λ t. e.0 (own.1 t), λ h. own.0 (e.1 h))

pub count-passed : (a low high x : ℕ) → ((count_test a low high x).number ≡ 0) ↔ ((low ≤ x) × (x ≤ high))
count-passed a low high x =
    let within = asks (leb low x && leb x high) 0 a 0 in (
      λ e. (leb-true low x (and_left (leb low x) (leb x high) (within.0 e)), leb-true x high (and_right (leb low x) (leb x high) (within.0 e))),
      λ e. within.1 (and_both (le-leb low x e.0) (le-leb x high e.1)),
    )

-- the five counts of a call are within the limits exactly if their tests are passed
pub counts-passed : (L : Limits) (n m W C h : ℕ) → Passed (count_tests L n m W C h) ↔ InLimits L n m W C h
counts-passed L n m W C h =
    let cars = count-passed 1 1 L.cars n in
    let trains = count-passed 2 1 L.trains m in
    let tracks = count-passed 3 1 L.tracks W in
    let room = count-passed 4 1 L.room C in
    let steps = count-passed 5 0 L.steps h in (
      λ (n-in, more).
          let (m-in, more) = more in
          let (W-in, more) = more in
          let (C-in, more) = more in
          record { cars = cars.0 n-in; trains = trains.0 m-in; tracks = tracks.0 W-in; room = room.0 C-in; steps = steps.0 more.0 },
      λ r. (cars.1 r.cars, (trains.1 r.trains, (tracks.1 r.tracks, (room.1 r.room, (steps.1 r.steps, tt))))),
    )

pub sum-passed : (lengths : List ℕ) (n : ℕ) → ((sum_test lengths n).number ≡ 0) ↔ (sum lengths ≡ n)
sum-passed lengths n =
    let adds = asks (eqb (sum lengths) n) 1 0 0 in
    (λ e. eqb-true (sum lengths) n (adds.0 e), λ e. adds.1 (eq-eqb (sum lengths) n e))

pub list-passed : (a : ℕ) (ok : Bool) → ((list_test a ok).number ≡ 0) ↔ (ok ≡ true)
list-passed a ok = asks ok 3 a 0

-- a search over the places 1 to n that refuses the first hit is passed exactly if there is none
pub none_passed : (p : ℕ → Bool) (n k a c : ℕ) → ((test (ltb n (first p n 1)) (says (suc k) a c)).number ≡ 0) ↔ ((j : ℕ) → 1 ≤ j → j ≤ n → p j ≡ false)
none_passed p n k a c =
    let past = asks (ltb n (first p n 1)) k a c in (
      λ e j l h. first-none p n 1 j l (omega (arith, ltb-true n (first p n 1) (past.0 e))),
      λ f. past.1 (lt-ltb n (first p n 1) (omega (arith, first-fails p n 1 (λ j l h. f j l (omega arith))))),
    )

-- items by place, from 1, against items by index, from 0
pub item-at : (l : List ℕ) (i : ℕ) → item_of l (suc i) ≡ get_or l i 0
item-at l i =
    let e : suc i - 1 ≡ i = omega arith in
    rw e

pub items-below : {k : ℕ} (l : List ℕ) → 0 < k → ((j : ℕ) → 1 ≤ j → j ≤ length l → item_of l j < k) → Below k l
items-below {k} l pos h i =
    ⊎_elim
    (λ out. rw (get_or-eq_default l 0 {n = i} out) pos)
    (λ inside. rw (item-at l i) at (h (suc i) (omega arith) inside))
    (le-or-lt (length l) i)

pub code-passed : (h : ℕ) (codes : List ℕ) → ((code_test h codes).number ≡ 0) ↔ Below (2 ^ h) codes
code-passed h codes =
    let none = none_passed (λ car. leb (2 ^ h) (item_of codes car)) (length codes) 6 (wide_code h codes) 0 in (
      λ e. items-below codes (pow_pos h) (λ j l m. leb-false (2 ^ h) (item_of codes j) (none.0 e j l m)),
      λ b. none.1 (λ j l m. lt-leb (2 ^ h) (item_of codes j) (b (j - 1))),
    )

neither : (b c : Bool) → (b || c) ≡ false → b ≡ false
neither true c e = e
neither false c e = refl

-- each number of an inbound list that passes is that of a car
pub inbound-within : (inbound : List ℕ) → (inbound_test inbound).number ≡ 0 → Below (suc (length inbound)) inbound
inbound-within inbound e =
    let n = length inbound in
    let none = (none_passed (bad_place inbound) n 2 (first_bad inbound) (first_listing inbound (first_bad inbound))).0 e in
    items-below inbound (omega arith)
    (λ j l m.
    let car = item_of inbound j in
    let range : (leb 1 car && leb car n) ≡ true =
    not-false (leb 1 car && leb car n) (neither (not (leb 1 car && leb car n)) (listed car (take (j - 1) inbound)) (none j l m)) in
    omega (arith, leb-true car n (and_right (leb 1 car) (leb car n) range)))

-- no train is longer than all together
pub item-le-sum : (l : List ℕ) (i : ℕ) → get_or l i 0 ≤ sum l
item-le-sum [] i = omega arith
item-le-sum (x ∷ l) zero = omega arith
item-le-sum (x ∷ l) (suc i) = omega (arith, item-le-sum l i)
