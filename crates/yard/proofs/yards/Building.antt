-- Where no car is pulled early, the trains end in order exactly if the rule on neighbouring pairs holds.
use mathlib.Core.Path.{◌≡◌, refl, sym, ap, ap₂, ◌∙◌, subst, fun_ext}
use mathlib.Core.Logic.{◌⊎◌, inl, inr, ⊎_elim, ◌↔◌}
use mathlib.Core.Bool.{Bool, true, false, cond, not}
use mathlib.Core.List.{List, [], ◌∷◌, head-eq_of_cons-eq, tail-eq_of_cons-eq, cons≢nil, nil≢cons}
use Prim.Native.Nat.{ℕ, zero, suc, ◌+◌, ◌-◌, ◌^◌, ◌≤◌, ◌<◌}
use native.Mathlib.Nat.{le_refl, eq-or-lt_of_le, suc_inj}
use native.Mathlib.Omega.{arith}
use lib.Dec.{leb, eqb}
use lib.ListN.{length}
use borrow.Author.Tests.{leb-true, le-leb, eqb-true, eq-eqb}
use Rattle.yard.specs.Words.{count, keep, every, same, first, up_from}
use Rattle.yard.specs.Night.{Plan, item_of, train_of, first_car, cars_of, pair, broken}
use Rattle.yard.specs.Replay.{code_of, destination, yard_at, built, in_order}
use Rattle.yard.specs.Answers.{ruled, unruled, order_test}
use Rattle.yard.specs.Demands.{Within, Listed, CodesFormed, NeverEarly, BuildsTrains}
use Rattle.yard.proofs.general.Bools.{split, clash, same_test, and_left, and_right, and_both, not_so, not-true}
use Rattle.yard.proofs.general.Numbers.{le-or-lt}
use Rattle.yard.proofs.general.First.{first-none, first-fails}
use Rattle.yard.proofs.general.Lists.{count-keep, count-up_from-in, count-up_from-out, up_from-bounds}
use Rattle.yard.proofs.general.Order.{before, before-keep, before-turned, up_from-before, up_from-when_in_order, Holds}
use Rattle.yard.proofs.yards.Codes.{low-all}
use Rattle.yard.proofs.yards.Replay.{sorted, sorted-count, standing-sorted, target-last}
use Rattle.yard.proofs.yards.Sorting.{ahead, sorted_before, ruled-ahead}
use Rattle.yard.proofs.yards.Trains.{item_of-suc, first_car-suc, train-of, train-in, train-end}
use Rattle.yard.proofs.yards.Plans.{train_of-pos, clean-of-never}
use Rattle.yard.proofs.calls.Tests.{asks}

-- ---- lists as tests

pub same_lists : (l m : List ℕ) → (same l m ≡ true) ↔ (l ≡ m)
same_lists [] [] = (λ e. refl, λ e. refl)
same_lists [] (y ∷ m) = (λ e. clash e refl, λ e. absurd (nil≢cons e))
same_lists (x ∷ l) [] = (λ e. clash e refl, λ e. absurd (cons≢nil e))
same_lists (x ∷ l) (y ∷ m) = (
  λ e. ap₂ (λ (z : ℕ) (u : List ℕ). z ∷ u) (eqb-true x y (and_left (eqb x y) (same l m) e)) ((same_lists l m).0 (and_right (eqb x y) (same l m) e)),
  λ e. and_both (eq-eqb x y (head-eq_of_cons-eq e)) ((same_lists l m).1 (tail-eq_of_cons-eq e)),
)

pub every-up_from : (p : ℕ → Bool) (a n : ℕ) → (every p (up_from a n) ≡ true) ↔ ((x : ℕ) → a ≤ x → x < a + n → p x ≡ true)
every-up_from p a zero = (λ e x l m. absurd (omega arith), λ f. refl)
every-up_from p a (suc n) = (
  λ e x l m.
      ⊎_elim
      (λ q. subst (λ (z : ℕ). p z ≡ true) q (and_left (p a) (every p (up_from (suc a) n)) e))
      (λ s. (every-up_from p (suc a) n).0 (and_right (p a) (every p (up_from (suc a) n)) e) x s (omega arith))
      (eq-or-lt_of_le l),
  λ f. and_both (f a (le_refl a) (omega arith)) ((every-up_from p (suc a) n).1 (λ x l m. f x (omega arith) (omega arith))),
)

-- the trains stand in order, as a test and as a statement
pub order-builds : (p : Plan) → (in_order p ≡ true) ↔ BuildsTrains p
unfolding in_order BuildsTrains
order-builds p =
    let m : ℕ = length p.night.lengths in
    let all = every-up_from (λ t. same (built p t) (cars_of p.night.lengths t)) 1 m in (
      λ e t w. (same_lists (built p t) (cars_of p.night.lengths t)).0 (all.0 e t w.0 (omega (arith, w.1))),
      λ f. all.1 (λ t l n. (same_lists (built p t) (cars_of p.night.lengths t)).1 (f t (l, omega arith))),
    )

pub order-passed : (p : Plan) → ((order_test p).number ≡ 0) ↔ BuildsTrains p
order-passed p =
    let asked = asks (in_order p) 8 (suc (first (unruled p) (length p.night.inbound - 1) 1)) 0 in
    (λ e. (order-builds p).0 (asked.0 e), λ f. asked.1 ((order-builds p).1 f))

-- ---- a train's cars

-- a car of a night's trains stands in the list of its train's cars, and in no other
module _ (lengths inbound : List ℕ) (f : Listed lengths inbound) where
  pub train-cars : (car : ℕ) → Within 1 (length inbound) car
      → (i : ℕ) × (i < length lengths) × (train_of lengths car ≡ suc i) × (first_car lengths (suc i) ≤ car) ×
      (car < first_car lengths (suc i) + item_of lengths (suc i))
  train-cars car w =
      let r = train-in lengths car w.0 (omega (arith, w.1, f.adds)) in
      let i : ℕ = r.0 in (
        i,
        r.1,
        train-of lengths i car r.1 r.2 r.3,
        omega (arith, first_car-suc lengths i, r.2),
        omega (arith, first_car-suc lengths i, item_of-suc lengths i, r.3),
      )

  pub cars-train : (i car : ℕ) → i < length lengths → first_car lengths (suc i) ≤ car
      → car < first_car lengths (suc i) + item_of lengths (suc i) → (train_of lengths car ≡ suc i) × Within 1 (length inbound) car
  cars-train i car m a b = (
    train-of lengths i car m (omega (arith, first_car-suc lengths i)) (omega (arith, first_car-suc lengths i, item_of-suc lengths i)),
    (omega (arith, first_car-suc lengths i), omega (arith, first_car-suc lengths i, item_of-suc lengths i, train-end lengths i m, f.adds)),
  )

  -- a car of 1 to n came in, once, and what came in is one of them
  pub came-once : (car : ℕ) → Within 1 (length inbound) car → count car inbound ≡ 1
  came-once car w = f.once car ∙ count-up_from-in car 1 (length inbound) w.0 (omega (arith, w.1))

  pub came-within : (car : ℕ) → 0 < count car inbound → Within 1 (length inbound) car
  came-within car m =
      let b = up_from-bounds car 1 (length inbound) (subst (λ (k : ℕ). 0 < k) (f.once car) m) in
      (b.0, omega (arith, b.1))

-- ---- the trains as built

module _ (p : Plan) (f : Listed p.night.lengths p.night.inbound) (formed : CodesFormed p) (never : NeverEarly p) where
  -- the cars in the order in which they stand at the end, all trains together
  final : List ℕ
  final = sorted (code_of p) p.night.inbound p.steps

  on_train : ℕ → ℕ → Bool
  on_train t car = eqb (p.night.tracks + t - 1) (destination p.night car)

  built-kept : (t : ℕ) → built p t ≡ keep (on_train t) final
  unfolding built yard_at final on_train
  built-kept t =
      let W = p.night.tracks in
      let h = p.steps in
      let inbound = p.night.inbound in
      let dest = destination p.night in
      standing-sorted W h (code_of p) dest inbound h (le_refl h) (clean-of-never p never) (W + t - 1) ∙
      ap (λ (g : ℕ → ℕ). keep (λ c. eqb (W + t - 1) (g c)) (sorted (code_of p) inbound h)) (fun_ext (target-last W h (code_of p) dest))

  on-train : (i car : ℕ) → train_of p.night.lengths car ≡ suc i → on_train (suc i) car ≡ true
  unfolding on_train
  on-train i car e = eq-eqb (p.night.tracks + suc i - 1) (destination p.night car) (ap (λ (t : ℕ). p.night.tracks + t - 1) (sym e))

  off-train : (i car : ℕ) → on_train (suc i) car ≡ true → train_of p.night.lengths car ≡ suc i
  unfolding on_train
  off-train i car e = omega (arith, eqb-true (p.night.tracks + suc i - 1) (destination p.night car) e, train_of-pos p.night.lengths car)

  among-final : (car : ℕ) → count car final ≡ count car p.night.inbound
  unfolding final
  among-final car = sorted-count (code_of p) p.night.inbound p.steps car

  -- a train's track holds just its cars
  pub built-holds : (i : ℕ) → i < length p.night.lengths
      → Holds (built p (suc i)) (first_car p.night.lengths (suc i)) (item_of p.night.lengths (suc i))
  built-holds i m x =
      ⊎_elim
      (λ low. ⊎_elim (λ high. out (inr high)) (λ high. inside low high (cars-train lengths inbound f i x m low high)) (le-or-lt (head + len) x))
      (λ low. out (inl low))
      (le-or-lt head x)
    where
      lengths : List ℕ
      lengths = p.night.lengths

      inbound : List ℕ
      inbound = p.night.inbound

      head : ℕ
      head = first_car lengths (suc i)

      len : ℕ
      len = item_of lengths (suc i)

      stands : (b : Bool) → on_train (suc i) x ≡ b → count x (built p (suc i)) ≡ cond b (count x inbound) 0
      stands b e =
          ap (λ (u : List ℕ). count x u) (built-kept (suc i)) ∙
          (count-keep x (on_train (suc i)) final ∙ ap₂ (λ (c : Bool) (k : ℕ). cond c k 0) e (among-final x))

      inside : head ≤ x → x < head + len → (train_of lengths x ≡ suc i) × Within 1 (length inbound) x → count x (built p (suc i)) ≡ count x (up_from head len)
      inside low high r =
          stands true (on-train i x r.0) ∙ (came-once lengths inbound f x r.1 ∙ sym (count-up_from-in x head len low high))

      elsewhere : (x < head) ⊎ (head + len ≤ x) → on_train (suc i) x ≡ true → count x inbound ≡ 0
      elsewhere o e = none (count x inbound) refl
        where
          none : (k : ℕ) → count x inbound ≡ k → k ≡ 0
          none zero q = refl
          none (suc k) q = absurd (stray (train-cars lengths inbound f x (came-within lengths inbound f x (omega arith))))
            where
              stray : ((j : ℕ) × (j < length lengths) × (train_of lengths x ≡ suc j) × (first_car lengths (suc j) ≤ x) ×
                  (x < first_car lengths (suc j) + item_of lengths (suc j))) → ⊥
              stray r =
                  let q : r.0 ≡ i = omega (arith, r.2, off-train i x e) in
                  ⊎_elim
                  (λ l. omega (arith, r.3, ap (λ (j : ℕ). first_car lengths (suc j)) q))
                  (λ l. omega (arith, r.4, ap (λ (j : ℕ). first_car lengths (suc j)) q, ap (λ (j : ℕ). item_of lengths (suc j)) q))
                  o

      out : (x < head) ⊎ (head + len ≤ x) → count x (built p (suc i)) ≡ count x (up_from head len)
      out o =
          ⊎_elim
          (λ e. stands true e ∙ elsewhere o e)
          (λ e. stands false e)
          (split (on_train (suc i) x)) ∙
          sym (count-up_from-out x head len o)

  -- of two neighbours in a train the first stands before the second exactly if the rule holds for them
  pub built-before : (i j : ℕ) → i < length p.night.lengths → first_car p.night.lengths (suc i) ≤ j
      → suc j < first_car p.night.lengths (suc i) + item_of p.night.lengths (suc i)
      → before j (suc j) (built p (suc i)) ≡ ruled (code_of p j) (code_of p (suc j)) (broken p.night.inbound j)
  unfolding final
  built-before i j m a b =
      ap (λ (u : List ℕ). before j (suc j) u) (built-kept (suc i)) ∙
      (before-keep (on_train (suc i)) j (suc j) final (on-train i j here.0) (on-train i (suc j) next.0) ∙
      (sorted_before (code_of p) inbound j (suc j) differ among-j among_next p.steps ∙
      (ap₂ (λ (x y : ℕ). ahead x y (before j (suc j) inbound)) (low-all p.steps (code_of p j) (below j here.1))
      (low-all p.steps (code_of p (suc j)) (below (suc j) next.1)) ∙
      (ruled-ahead (code_of p j) (code_of p (suc j)) (before j (suc j) inbound) ∙
      ap (λ (c : Bool). ruled (code_of p j) (code_of p (suc j)) c) (sym (before-turned j (suc j) inbound differ among-j))))))
    where
      inbound : List ℕ
      inbound = p.night.inbound

      here : (train_of p.night.lengths j ≡ suc i) × Within 1 (length inbound) j
      here = cars-train p.night.lengths inbound f i j m a (omega arith)

      next : (train_of p.night.lengths (suc j) ≡ suc i) × Within 1 (length inbound) (suc j)
      next = cars-train p.night.lengths inbound f i (suc j) m (omega arith) b

      differ : j ≡ suc j → ⊥
      differ e = omega arith

      among-j : 0 < count j inbound
      among-j = omega (arith, came-once p.night.lengths inbound f j here.1)

      among_next : 0 < count (suc j) inbound
      among_next = omega (arith, came-once p.night.lengths inbound f (suc j) next.1)

      below : (car : ℕ) → Within 1 (length inbound) car → code_of p car < 2 ^ p.steps
      below car w = formed.below car (w.0, omega (arith, w.1, formed.each))

  -- the trains are built in order exactly if no pair breaks the rule
  pub ruled-of-builds : BuildsTrains p → (i j : ℕ) → i < length p.night.lengths → first_car p.night.lengths (suc i) ≤ j
      → suc j < first_car p.night.lengths (suc i) + item_of p.night.lengths (suc i)
      → ruled (code_of p j) (code_of p (suc j)) (broken p.night.inbound j) ≡ true
  unfolding BuildsTrains
  ruled-of-builds builds i j m a b =
      sym (built-before i j m a b) ∙
      (ap (λ (u : List ℕ). before j (suc j) u) (builds (suc i) (omega arith, m))
      ∙ up_from-before (first_car p.night.lengths (suc i)) (item_of p.night.lengths (suc i)) j a b)

  rule-of-builds : BuildsTrains p → (j : ℕ) → 1 ≤ j → j < length p.night.inbound → unruled p j ≡ false
  unfolding BuildsTrains
  rule-of-builds builds j l m =
      not_so (unruled p j) (λ e. breaks e (train-cars lengths inbound f j (l, omega arith)) (train-cars lengths inbound f (suc j) (omega arith, m)))
    where
      lengths : List ℕ
      lengths = p.night.lengths

      inbound : List ℕ
      inbound = p.night.inbound

      rule : Bool
      rule = ruled (code_of p j) (code_of p (suc j)) (broken inbound j)

      At : ℕ → Type 0
      At car =
          (i : ℕ) × (i < length lengths) × (train_of lengths car ≡ suc i) × (first_car lengths (suc i) ≤ car) ×
          (car < first_car lengths (suc i) + item_of lengths (suc i))

      breaks : unruled p j ≡ true → At j → At (suc j) → ⊥
      breaks e r s =
          let q : s.0 ≡ r.0 =
          suc_inj (sym s.2 ∙ (sym (eqb-true (train_of lengths j) (train_of lengths (suc j)) (and_left (pair lengths j) (not rule) e)) ∙ r.2)) in
          let b : suc j < first_car lengths (suc r.0) + item_of lengths (suc r.0) =
          omega (arith, s.4, ap (λ (k : ℕ). first_car lengths (suc k) + item_of lengths (suc k)) q) in
          clash (ruled-of-builds builds r.0 j r.1 r.3 b) (not-true rule (and_right (pair lengths j) (not rule) e))

  builds-of-rule : ((j : ℕ) → 1 ≤ j → j < length p.night.inbound → unruled p j ≡ false) → BuildsTrains p
  unfolding BuildsTrains
  builds-of-rule rule zero w = absurd (omega (arith, w.0))
  builds-of-rule rule (suc i) w =
      up_from-when_in_order (built p (suc i)) (first_car lengths (suc i)) (item_of lengths (suc i)) (built-holds i w.1)
      (λ j a b. built-before i j w.1 a b
      ∙ keeps j (cars-train lengths inbound f i j w.1 a (omega arith)) (cars-train lengths inbound f i (suc j) w.1 (omega arith) b))
    where
      lengths : List ℕ
      lengths = p.night.lengths

      inbound : List ℕ
      inbound = p.night.inbound

      keeps : (j : ℕ) → (train_of lengths j ≡ suc i) × Within 1 (length inbound) j
          → (train_of lengths (suc j) ≡ suc i) × Within 1 (length inbound) (suc j) → ruled (code_of p j) (code_of p (suc j)) (broken inbound j) ≡ true
      keeps j r s =
          ⊎_elim (λ e. e)
          (λ e. clash (and_both (eq-eqb (train_of lengths j) (train_of lengths (suc j)) (r.0 ∙ sym s.0)) (ap not e)) (rule j r.1.0 s.1.1))
          (split (ruled (code_of p j) (code_of p (suc j)) (broken inbound j)))

  pub builds-ruled : BuildsTrains p ↔ ((j : ℕ) → 1 ≤ j → j < length p.night.inbound → unruled p j ≡ false)
  builds-ruled = (rule-of-builds, builds-of-rule)

  -- so the test of the order looks at the pairs alone
  pub order-ruled : 1 ≤ length p.night.inbound → in_order p ≡ leb (length p.night.inbound) (first (unruled p) (length p.night.inbound - 1) 1)
  order-ruled some =
      same_test (in_order p) (leb n (first (unruled p) (n - 1) 1))
      (λ e. le-leb n (first (unruled p) (n - 1) 1)
      (omega (arith, first-fails (unruled p) (n - 1) 1 (λ j l m. builds-ruled.0 ((order-builds p).0 e) j l (omega arith)))))
      (λ e. (order-builds p).1 (builds-ruled.1 (λ j l m. first-none (unruled p) (n - 1) 1 j l (omega (arith, leb-true n (first (unruled p) (n - 1) 1) e)))))
    where
      n : ℕ
      n = length p.night.inbound
