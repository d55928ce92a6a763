-- Laws of lists by car that a loop fills car by car, in any order.
use mathlib.Core.Path.{◌≡◌, sym, ap, ◌∙◌, subst}
use mathlib.Core.Logic.{◌⊎◌, inl, inr, ⊎_elim}
use mathlib.Core.List.{List, ◌++◌, map}
use Prim.Native.Nat.{ℕ, suc, ◌+◌, ◌-◌, ◌≤◌, ◌<◌}
use native.Mathlib.Numerals.{add-one}
use native.Mathlib.Omega.{arith}
use lib.ListN.{length, get_or, take, drop, set, length-append, length-drop, length-set, take-append-drop, get_or-append}
use lib.Seq.{drop-cons, ext_get_or, get_or-append-add, get_or-drop, get_or-set_same, get_or-set_other, length-take-le}
use Rattle.yard.specs.Words.{count, place}
use Rattle.yard.specs.Night.{cars}
use Rattle.yard.specs.Demands.{Within, EachOnce}
use Rattle.yard.proofs.general.Numbers.{le-or-lt, below_suc, compared}
use Rattle.yard.proofs.general.Lists.{count-up_from-in, up_from-bounds}
use Rattle.yard.proofs.general.Order.{place-right, place_here, place-among}
use Rattle.yard.proofs.yards.Formed.{count_at, place-holds}
use Rattle.yard.proofs.yards.DerivedPlan.{map-item, length-by-car}
use Rattle.scan.specs.Front.{Front}

-- ---- car by car, in any order

-- the list after some cars have got their items, and where all have
pub record Filled (f : ℕ → ℕ) (n : ℕ) (done : ℕ → Type 0) (before now : List ℕ) : Type 0 where
  pub size : length now ≡ length before
  pub given : (car : ℕ) → Within 1 n car → done car → get_or now (car - 1) 0 ≡ f car
  pub kept : (k : ℕ) → n ≤ k → get_or now k 0 ≡ get_or before k 0

pub filled-all : (f : ℕ → ℕ) (n : ℕ) (done : ℕ → Type 0) (before now : List ℕ) → n ≤ length before → ((car : ℕ) → Within 1 n car → done car)
    → Filled f n done before now → Front (map f (cars n)) before n now
filled-all f n done before now l all r =
    record {
      number = sym (length-by-car f n);
      listed =
          ext_get_or 0 now (map f (cars n) ++ drop n before) (r.size ∙ long) (λ k m. ⊎_elim (λ far. late k far) (λ near. early k near) (le-or-lt n k)) ∙
          ap (λ (k : ℕ). map f (cars n) ++ drop k before) (sym (length-by-car f n));
    }
  where
    long : length before ≡ length (map f (cars n) ++ drop n before)
    long = omega (arith, length-append (map f (cars n)) (drop n before), length-by-car f n, length-drop n before)

    early : (k : ℕ) → k < n → get_or now k 0 ≡ get_or (map f (cars n) ++ drop n before) k 0
    early k m =
        let w : Within 1 n (suc k) = (omega arith, m) in
        let e : suc k - 1 ≡ k = omega arith in
        let o : 1 + k ≡ suc k = omega arith in
        ap (λ (j : ℕ). get_or now j 0) (sym e) ∙
        (r.given (suc k) w (all (suc k) w) ∙
        (sym (map-item f 1 n k m ∙ ap f o) ∙ sym (get_or-append (map f (cars n)) (drop n before) 0 k (omega (arith, length-by-car f n)))))

    late : (k : ℕ) → n ≤ k → get_or now k 0 ≡ get_or (map f (cars n) ++ drop n before) k 0
    late k m =
        let e : k ≡ length (map f (cars n)) + (k - n) = omega (arith, length-by-car f n) in
        let b : n + (k - n) ≡ k = omega arith in
        r.kept k m ∙
        sym (ap (λ (j : ℕ). get_or (map f (cars n) ++ drop n before) j 0) e ∙
        (get_or-append-add (map f (cars n)) (drop n before) (k - n) 0 ∙ (get_or-drop n before (k - n) 0 ∙ ap (λ (j : ℕ). get_or before j 0) b)))

-- one car more gets its item
pub filled_next : (f : ℕ → ℕ) (n : ℕ) (done more : ℕ → Type 0) (before now : List ℕ) (car : ℕ) → n ≤ length before → Within 1 n car
    → ((other : ℕ) → more other → (other ≡ car) ⊎ done other) → Filled f n done before now → Filled f n more before (set now (car - 1) (f car))
filled_next f n done more before now car l w split r =
    record {
      size = length-set now (car - 1) (f car) ∙ r.size;
      given = λ other v m. ⊎_elim (λ e. same other e)
          (λ d. compared (get_or (set now (car - 1) (f car)) (other - 1) 0 ≡ f other) other car (λ o. differs other v d (λ e. omega (arith, v.0)))
          (λ e. same other e) (λ o. differs other v d (λ e. omega (arith, w.0)))) (split other m);
      kept = λ k m. get_or-set_other now (car - 1) k (f car) 0 (λ e. omega (arith, w.0, w.1)) ∙ r.kept k m;
    }
  where
    same : (other : ℕ) → other ≡ car → get_or (set now (car - 1) (f car)) (other - 1) 0 ≡ f other
    same other e =
        ap (λ (j : ℕ). get_or (set now (car - 1) (f car)) (j - 1) 0) e ∙
        (get_or-set_same now (car - 1) (f car) 0 (omega (arith, w.0, w.1, r.size)) ∙ ap f (sym e))

    differs : (other : ℕ) → Within 1 n other → done other → (other - 1 ≡ car - 1 → ⊥) → get_or (set now (car - 1) (f car)) (other - 1) 0 ≡ f other
    differs other v d o = get_or-set_other now (car - 1) (other - 1) (f car) 0 o ∙ r.given other v d

-- ---- places in a list that has each car once

-- the cars with the first i places have got theirs
abbrev pub Placed : List ℕ → ℕ → List ℕ → List ℕ → Type 0
Placed l i before now = Filled (λ car. place car l) (length l) (λ car. Within 1 (length l) car × (place car l < i)) before now

module _ (l : List ℕ) (once : EachOnce l) where
  pub item-within : (i : ℕ) → i < length l → Within 1 (length l) (get_or l i 0)
  item-within i m =
      let b = up_from-bounds (get_or l i 0) 1 (length l) (omega (arith, count_at l i m, once (get_or l i 0))) in
      (b.0, omega (arith, b.1))

  -- the item at index i has place i
  pub place_at : (i : ℕ) → i < length l → place (get_or l i 0) l ≡ i
  place_at i m =
      let x : ℕ = get_or l i 0 in
      let w = item-within i m in
      ap (λ (u : List ℕ). place x u) (sym (take-append-drop i l)) ∙
      (place-right x (take i l) (drop i l) (omega (arith, count_at l i m, once x, count-up_from-in x 1 (length l) w.0 (omega (arith, w.1)))) ∙
      omega (arith, length-take-le i l (omega arith), ap (λ (u : List ℕ). place x u) (drop-cons l i 0 m), place_here x (drop (suc i) l)))

  -- a car whose place is below i + 1 is the item at i, or has a place below i
  pub place-split : (i car : ℕ) → Within 1 (length l) car → place car l < i + 1 → (car ≡ get_or l i 0) ⊎ (place car l < i)
  place-split i car w m =
      let among : 0 < count car l = omega (arith, once car, count-up_from-in car 1 (length l) w.0 (omega (arith, w.1))) in
      ⊎_elim (λ e. inl (sym (place-holds l car among) ∙ ap (λ (k : ℕ). get_or l k 0) e)) (λ lt. inr lt)
      (below_suc (subst (λ (k : ℕ). place car l < k) (add-one i) m))

  pub place-below : (car : ℕ) → Within 1 (length l) car → place car l < length l
  place-below car w = place-among car l (omega (arith, once car, count-up_from-in car 1 (length l) w.0 (omega (arith, w.1))))

  -- one car more, and all
  pub placed_next : {before now : List ℕ} {i : ℕ} → length l ≤ length before → i < length l → Placed l i before now →
      Placed l (i + 1) before (set now (get_or l i 0 - 1) i)
  placed_next {before} {now} {i} room m r =
      subst (λ (k : ℕ). Placed l (i + 1) before (set now (get_or l i 0 - 1) k)) (place_at i m)
      (filled_next (λ car. place car l) (length l) (λ car. Within 1 (length l) car × (place car l < i))
      (λ car. Within 1 (length l) car × (place car l < i + 1)) before now (get_or l i 0) room (item-within i m)
      (λ other w. ⊎_elim (λ e. inl e) (λ h. inr (w.0, h)) (place-split i other w.0 w.1)) r)

  pub placed_all : {before now : List ℕ} {i : ℕ} → length l ≤ length before → length l ≤ i → Placed l i before now →
      Front (map (λ car. place car l) (cars (length l))) before (length l) now
  placed_all {before} {now} {i} room m r =
      filled-all (λ car. place car l) (length l) (λ car. Within 1 (length l) car × (place car l < i)) before now room
      (λ car w. (w, omega (arith, place-below car w))) r
