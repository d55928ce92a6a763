-- The tests of a night's lists are passed exactly if the lists are well formed.
use mathlib.Core.Path.{◌≡◌, refl, sym, ap, ◌∙◌, subst}
use mathlib.Core.Logic.{◌⊎◌, inl, inr, ⊎_elim, ◌↔◌}
use mathlib.Core.Bool.{Bool, true, false, cond, not, ◌&&◌, ◌||◌}
use mathlib.Core.List.{List, [], ◌∷◌}
use Prim.Native.Nat.{ℕ, zero, suc, ◌+◌, ◌-◌, ◌≤◌, ◌<◌}
use native.Mathlib.Nat.{le_refl, pos_of_ne-zero}
use native.Mathlib.Omega.{arith}
use lib.Dec.{leb, eqb}
use lib.ListN.{length, get_or, take, drop, take-append-drop}
use lib.Seq.{take-suc, take-length, drop-cons}
use borrow.Author.Tests.{le-leb, leb-true, ltb-false, le-ltb, eqb-true, eq-eqb, ne_eqb, eqb-false}
use Rattle.yard.specs.Words.{tally, count, listed, place}
use Rattle.yard.specs.Night.{Night, cars, item_of}
use Rattle.yard.specs.Answers.{train_test, empty_train, bad_place, first_bad, first_listing, inbound_test}
use Rattle.yard.specs.Calls.{night_tests}
use Rattle.yard.specs.Demands.{Within, Listed}
use Rattle.yard.proofs.general.Bools.{split, clash, and_left, and_right, and_both, not-false}
use Rattle.yard.proofs.general.Numbers.{le-or-lt}
use Rattle.yard.proofs.general.Lists.{count-append, count_head, pigeonhole, count-up_from-in, count-up_from-out, up_from-bounds}
use Rattle.yard.proofs.calls.Verdict.{Passed}
use Rattle.yard.proofs.general.Order.{place-among}
use Rattle.yard.proofs.calls.Tests.{none_passed, sum-passed}

-- ---- no number twice

-- where each item is none of those before it, no number is listed twice
once-each : (l : List ℕ) → ((i : ℕ) → i < length l → count (get_or l i 0) (take i l) ≡ 0) → (n : ℕ) → n ≤ length l → (x : ℕ) → count x (take n l) ≤ 1
once-each l new zero m x = omega arith
once-each l new (suc n) m x = ⊎_elim (λ e. here (eqb-true x (get_or l n 0) e)) (λ e. other e (once-each l new n (omega arith) x)) (split (eqb x (get_or l n 0)))
  where
    grown : count x (take (suc n) l) ≡ count x (take n l) + (tally (eqb x (get_or l n 0)) + 0)
    grown = ap (λ (u : List ℕ). count x u) (take-suc l n 0 m) ∙ count-append x (take n l) (get_or l n 0 ∷ [])

    here : x ≡ get_or l n 0 → count x (take (suc n) l) ≤ 1
    here e = omega (arith, grown, new n m, ap (λ (y : ℕ). count y (take n l)) e, ap tally (eq-eqb x (get_or l n 0) e))

    other : eqb x (get_or l n 0) ≡ false → count x (take n l) ≤ 1 → count x (take (suc n) l) ≤ 1
    other e le = omega (arith, grown, ap tally e)

-- the place of a listed number holds it
pub place-holds : (l : List ℕ) (x : ℕ) → 0 < count x l → get_or l (place x l) 0 ≡ x
place-holds [] x m = absurd (omega arith)
place-holds (y ∷ l) x m = go (eqb x y) refl m (place-holds l x)
  where
    go : (b : Bool) → eqb x y ≡ b → 0 < tally b + count x l → (0 < count x l → get_or l (place x l) 0 ≡ x) → get_or (y ∷ l) (cond b 0 (suc (place x l))) 0 ≡ x
    go true e h later = sym (eqb-true x y e)
    go false e h later = later (omega arith)

-- an item at a place is listed there, and once more than before it
pub count_at : (l : List ℕ) (i : ℕ) → i < length l → count (get_or l i 0) (take i l) + 1 ≤ count (get_or l i 0) l
count_at l i m =
    omega (
      arith,
      ap (λ (u : List ℕ). count (get_or l i 0) u) (sym (take-append-drop i l)),
      count-append (get_or l i 0) (take i l) (drop i l),
      ap (λ (u : List ℕ). count (get_or l i 0) u) (drop-cons l i 0 m),
      count_head (get_or l i 0) (drop (suc i) l),
    )

neither : (b c : Bool) → (b || c) ≡ false → (b ≡ false) × (c ≡ false)
neither true c e = (e, clash refl e)
neither false c e = (refl, e)

-- ---- the inbound list

-- what makes a place bad, by its index
abbrev pub bad_at : List ℕ → ℕ → Bool
bad_at inbound i = not (leb 1 (get_or inbound i 0) && leb (get_or inbound i 0) (length inbound)) || listed (get_or inbound i 0) (take i inbound)

pub bad-at : (inbound : List ℕ) (i : ℕ) → bad_place inbound (suc i) ≡ bad_at inbound i
bad-at inbound i =
    let e : suc i - 1 ≡ i = omega arith in
    ap (λ (k : ℕ). bad_at inbound k) e

module _ (inbound : List ℕ) where
  good : (i : ℕ) → bad_place inbound (suc i) ≡ false
      → (1 ≤ get_or inbound i 0) × (get_or inbound i 0 ≤ length inbound) × (count (get_or inbound i 0) (take i inbound) ≡ 0)
  good i e =
      let x : ℕ = get_or inbound i 0 in
      let n : ℕ = length inbound in
      let r = neither (not (leb 1 x && leb x n)) (listed x (take i inbound)) (sym (bad-at inbound i) ∙ e) in
      let w = not-false (leb 1 x && leb x n) r.0 in (
        leb-true 1 x (and_left (leb 1 x) (leb x n) w),
        leb-true x n (and_right (leb 1 x) (leb x n) w),
        omega (arith, ltb-false 0 (count x (take i inbound)) r.1),
      )

  -- nothing bad: each car once
  each-once : ((i : ℕ) → i < length inbound → bad_place inbound (suc i) ≡ false) → (car : ℕ) → count car inbound ≡ count car (cars (length inbound))
  each-once fine car =
      ⊎_elim (λ low. ⊎_elim (λ high. inside low high) (λ high. outside (inr high)) (le-or-lt car (length inbound))) (λ low. outside (inl low)) (le-or-lt 1 car)
    where
      small : (x : ℕ) → count x inbound ≤ 1
      small x =
          subst (λ (u : List ℕ). count x u ≤ 1) (take-length inbound)
          (once-each inbound (λ i m. (good i (fine i m)).2) (length inbound) (le_refl (length inbound)) x)

      range : (x : ℕ) → 0 < count x inbound → (1 ≤ x) × (x < 1 + length inbound)
      range x m =
          let g = good (place x inbound) (fine (place x inbound) (place-among x inbound m)) in
          (omega (arith, g.0, place-holds inbound x m), omega (arith, g.1, place-holds inbound x m))

      inside : 1 ≤ car → car ≤ length inbound → count car inbound ≡ count car (cars (length inbound))
      inside low high = pigeonhole inbound 1 range small car low (omega arith) ∙ sym (count-up_from-in car 1 (length inbound) low (omega arith))

      absent : (car < 1) ⊎ (length inbound < car) → count car inbound ≡ 0
      absent o =
          ⊎_elim (λ e. e) (λ m. absurd (⊎_elim (λ l. omega (arith, (range car m).0)) (λ l. omega (arith, (range car m).1)) o)) (none_or_some (count car inbound))
        where
          none_or_some : (k : ℕ) → (k ≡ 0) ⊎ (0 < k)
          none_or_some zero = inl refl
          none_or_some (suc k) = inr (omega arith)

      outside : (car < 1) ⊎ (length inbound < car) → count car inbound ≡ count car (cars (length inbound))
      outside o = absent o ∙ sym (count-up_from-out car 1 (length inbound) (⊎_elim (λ l. inl l) (λ l. inr (omega arith)) o))

  -- each car once: nothing bad
  none-bad : ((car : ℕ) → count car inbound ≡ count car (cars (length inbound))) → (i : ℕ) → i < length inbound → bad_place inbound (suc i) ≡ false
  none-bad once i m = bad-at inbound i
      ∙ both_false (ap not (and_both (le-leb 1 x (omega (arith, b.0))) (le-leb x (length inbound) (omega (arith, b.1)))))
      (le-ltb 0 (count x (take i inbound)) (omega (arith, count_at inbound i m, once x, count-up_from-in x 1 (length inbound) b.0 b.1)))
    where
      x : ℕ
      x = get_or inbound i 0

      b : (1 ≤ x) × (x < 1 + length inbound)
      b = up_from-bounds x 1 (length inbound) (subst (λ (k : ℕ). 0 < k) (once x) (omega (arith, count_at inbound i m)))

      both_false : {c d : Bool} → c ≡ false → d ≡ false → (c || d) ≡ false
      both_false {c} {d} p q = cc

  pub inbound-passed : ((inbound_test inbound).number ≡ 0) ↔ ((car : ℕ) → count car inbound ≡ count car (cars (length inbound)))
  inbound-passed = (
    λ e. each-once (λ i m. searched.0 e (suc i) (omega arith) m),
    λ once. searched.1 (by_index (none-bad once)),
  )
    where
      searched : ((inbound_test inbound).number ≡ 0) ↔ ((j : ℕ) → 1 ≤ j → j ≤ length inbound → bad_place inbound j ≡ false)
      searched = none_passed (bad_place inbound) (length inbound) 2 (first_bad inbound) (first_listing inbound (first_bad inbound))

      by_index : ((i : ℕ) → i < length inbound → bad_place inbound (suc i) ≡ false) → (j : ℕ) → 1 ≤ j → j ≤ length inbound → bad_place inbound j ≡ false
      by_index f zero l m = absurd (omega arith)
      by_index f (suc i) l m = f i m

-- ---- the lengths, and both lists

pub train-passed : (lengths : List ℕ) → ((train_test lengths).number ≡ 0) ↔ ((t : ℕ) → Within 1 (length lengths) t → 1 ≤ item_of lengths t)
train-passed lengths = (
  λ e t w. pos_of_ne-zero (λ z. eqb-false (item_of lengths t) 0 (searched.0 e t w.0 w.1) z),
  λ f. searched.1 (λ t l m. ne_eqb (item_of lengths t) 0 (λ z. omega (arith, f t (l, m)))),
)
  where
    searched : ((train_test lengths).number ≡ 0) ↔ ((t : ℕ) → 1 ≤ t → t ≤ length lengths → eqb (item_of lengths t) 0 ≡ false)
    searched = none_passed (λ t. eqb (item_of lengths t) 0) (length lengths) 1 (empty_train lengths) 0

pub lists-passed : (n : Night) → Passed (night_tests n) ↔ Listed n.lengths n.inbound
lists-passed n = (
  λ t. record {
    nonempty = (train-passed n.lengths).0 t.0;
    adds = (sum-passed n.lengths (length n.inbound)).0
        t.1.0;
    once = (inbound-passed n.inbound).0 t.1.1.0;
  },
  λ r. (
    (train-passed n.lengths).1 r.nonempty,
    ((sum-passed n.lengths (length n.inbound)).1 r.adds, ((inbound-passed n.inbound).1 r.once, tt)),
  ),
)
