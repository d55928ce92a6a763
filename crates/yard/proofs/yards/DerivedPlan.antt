-- A plan by its codes, and the derived plan: its codes are allowed, rise at each break, and so pull no car early and build the trains.
use mathlib.Core.Path.{◌≡◌, sym, ap, ap₂, ◌∙◌, subst}
use mathlib.Core.Logic.{⊎_elim}
use mathlib.Core.Bool.{Bool, true, false, cond, not}
use mathlib.Core.List.{List, ◌∷◌, map}
use Prim.Native.Nat.{ℕ, zero, suc, ◌+◌, ◌-◌, ◌^◌, ◌≤◌, ◌<◌}
use native.Mathlib.Nat.{add-zero, add-suc, suc-add, eq-or-lt_of_le}
use native.Mathlib.Omega.{arith}
use lib.ListN.{length, get_or, length-map}
use borrow.Author.Tests.{le-leb, lt-ltb, eqb-true}
use Rattle.yard.specs.Words.{tally, keep, up_from}
use Rattle.yard.specs.Night.{Night, Plan, cars, item_of, train_of, first_car, pair, broken, breaks, breaks_in, breaks_before, most_breaks}
use Rattle.yard.specs.Replay.{code_of}
use Rattle.yard.specs.Codes.{allowed, allowed_codes, code_number, F}
use Rattle.yard.specs.Derived.{steps_needed, derived_codes, derived_plan}
use Rattle.yard.specs.Answers.{ruled, unruled}
use Rattle.yard.specs.Demands.{Within, Listed, CodesFormed, KeepsClear, NeverEarly, Sorts}
use Rattle.yard.proofs.general.Bools.{clash, and_left, and_right, not_so, not-true}
use Rattle.yard.proofs.yards.Early.{Gaps}
use Rattle.yard.proofs.general.Lists.{count_kept, count-up_from-in, up_from-bounds, length-up_from}
use Rattle.yard.proofs.yards.Trains.{most-above, breaks-suc}
use Rattle.yard.proofs.yards.Formed.{count_at}
use Rattle.yard.proofs.yards.Plans.{never-gaps, usable-gaps}
use Rattle.yard.proofs.yards.Building.{train-cars, came-within, builds-ruled}
use Rattle.yard.proofs.yards.Allowed.{allowed-usable, allowed-some, F-allowed, fewest-least}
use Rattle.yard.proofs.yards.Clear.{clear-exactly}

-- ---- lists by number

pub map-item : (g : ℕ → ℕ) (a n i : ℕ) → i < n → get_or (map g (up_from a n)) i 0 ≡ g (a + i)
map-item g a zero i m = absurd (omega arith)
map-item g a (suc n) zero m = ap g (sym (add-zero a))
map-item g a (suc n) (suc i) m = map-item g (suc a) n i (omega arith) ∙ ap g (suc-add a i ∙ sym (add-suc a i))

pub by-car : (g : ℕ → ℕ) (n car : ℕ) → Within 1 n car → item_of (map g (cars n)) car ≡ g car
by-car g n car w =
    let e : 1 + (car - 1) ≡ car = omega (arith, w.0) in
    map-item g 1 n (car - 1) (omega (arith, w.0, w.1)) ∙ ap g e

pub length-by-car : (g : ℕ → ℕ) (n : ℕ) → length (map g (cars n)) ≡ n
length-by-car g n = length-map (cars n) g ∙ length-up_from 1 n

-- the numbers kept of those from a on pass, and rise
pub kept-item : (p : ℕ → Bool) (a n q : ℕ) → q < length (keep p (up_from a n))
    → (p (get_or (keep p (up_from a n)) q 0) ≡ true) × (a ≤ get_or (keep p (up_from a n)) q 0) × (get_or (keep p (up_from a n)) q 0 < a + n)
kept-item p a n q m =
    let x : ℕ = get_or (keep p (up_from a n)) q 0 in
    let k = count_kept x p (up_from a n) (omega (arith, count_at (keep p (up_from a n)) q m)) in
    let b = up_from-bounds x a n k.1 in
    (k.0, b.0, b.1)

pub kept-rising : (p : ℕ → Bool) (a n q r : ℕ) → q < r → r < length (keep p (up_from a n)) → get_or (keep p (up_from a n)) q 0 < get_or (keep p (up_from a n)) r 0
kept-rising p a zero q r l m = absurd (omega arith)
kept-rising p a (suc n) q r l m = go (p a) q r l m (kept-rising p (suc a) n) (kept-item p (suc a) n)
  where
    rest : List ℕ
    rest = keep p (up_from (suc a) n)

    go :
        (b : Bool) (q r : ℕ) → q < r → r < length (cond b (a ∷ rest) rest) →
        ((q r : ℕ) → q < r → r < length rest → get_or rest q 0 < get_or rest r 0) →
        ((q : ℕ) → q < length rest → (p (get_or rest q 0) ≡ true) × (suc a ≤ get_or rest q 0) × (get_or rest q 0 < suc a + n)) →
        get_or (cond b (a ∷ rest) rest) q 0 < get_or (cond b (a ∷ rest) rest) r 0
    go false q r l m later item = later q r l m
    go true zero zero l m later item = absurd (omega arith)
    go true zero (suc r) l m later item = (item r (omega arith)).1
    go true (suc q) zero l m later item = absurd (omega arith)
    go true (suc q) (suc r) l m later item = later q r (omega arith) (omega arith)

-- ---- a plan by its codes

-- the plan of h steps that gives each car of a night the code that g says
abbrev pub coded : Night → ℕ → (ℕ → ℕ) → Plan
coded n h g = record { night = n; steps = h; codes = map g (cars (length n.inbound)) }

module _ (n : Night) (f : Listed n.lengths n.inbound) (pos : 0 < n.tracks) (h : ℕ) (g : ℕ → ℕ) where
  -- where the codes are below 2^h, in a closed night above 0, keep their gaps and follow the rule on pairs, it sorts
  pub coded-sorts : ((car : ℕ) → Within 1 (length n.inbound) car → (g car < 2 ^ h) × Gaps n.tracks h (g car) × (n.closed ≡ true → 0 < g car))
      → ((j : ℕ) → 1 ≤ j → j < length n.inbound → pair n.lengths j ≡ true → ruled (g j) (g (suc j)) (broken n.inbound j) ≡ true)
      → Sorts (coded n h g)
  coded-sorts fits rules = record { codes = formed; clear = clear; never = never; builds = (builds-ruled (coded n h g) f formed never).1 follows }
    where
      code : (car : ℕ) → Within 1 (length n.inbound) car → g car ≡ code_of (coded n h g) car
      code car w = sym (by-car g (length n.inbound) car w)

      sized : length (coded n h g).codes ≡ length n.inbound
      sized = length-by-car g (length n.inbound)

      formed : CodesFormed (coded n h g)
      formed =
          record {
            each = sized;
            below =
                λ car w.
                let v : Within 1 (length n.inbound) car = (w.0, omega (arith, w.1, sized)) in
                subst (λ (c : ℕ). c < 2 ^ h) (code car v) (fits car v).0;
          }

      clear : KeepsClear (coded n h g)
      clear =
          (clear-exactly (coded n h g) f pos formed).1
          (λ car (shut, w, e).
          let v : Within 1 (length n.inbound) car = (w.0, omega (arith, w.1, sized)) in
          omega (arith, (fits car v).2 shut, code car v, e))

      never : NeverEarly (coded n h g)
      never =
          (never-gaps (coded n h g) pos).1
          (λ car m.
          let w : Within 1 (length n.inbound) car = came-within n.lengths n.inbound f car m in
          subst (λ (c : ℕ). Gaps n.tracks h c) (code car w) (fits car w).1)

      follows : (j : ℕ) → 1 ≤ j → j < length n.inbound → unruled (coded n h g) j ≡ false
      follows j l m =
          let rule : Bool = ruled (code_of (coded n h g) j) (code_of (coded n h g) (suc j)) (broken n.inbound j) in
          not_so (unruled (coded n h g) j)
          (λ e.
          clash
          (ap₂ (λ (x y : ℕ). ruled x y (broken n.inbound j)) (sym (code j (l, omega arith))) (sym (code (suc j) (omega arith, m))) ∙
          rules j l m (and_left (pair n.lengths j) (not rule) e))
          (not-true rule (and_right (pair n.lengths j) (not rule) e)))

-- ---- code numbers

module _ (closed : Bool) (W h : ℕ) (pos : 0 < W) where
  pub code_number-allowed : (q : ℕ) → q + tally closed < F W h
      → (allowed closed W h (code_number closed W h q) ≡ true) × (code_number closed W h q < 2 ^ h)
  unfolding code_number allowed_codes
  code_number-allowed q m =
      let k = kept-item (allowed closed W h) 0 (2 ^ h) q (omega (arith, F-allowed closed W h pos)) in
      (k.0, omega (arith, k.2))

  pub code_number-rising : (q r : ℕ) → q < r → r + tally closed < F W h → code_number closed W h q < code_number closed W h r
  unfolding code_number allowed_codes
  code_number-rising q r l m = kept-rising (allowed closed W h) 0 (2 ^ h) q r l (omega (arith, F-allowed closed W h pos))

  pub code_number-mono : (q r : ℕ) → q ≤ r → r + tally closed < F W h → code_number closed W h q ≤ code_number closed W h r
  code_number-mono q r l m =
      ⊎_elim (λ e. omega (arith, ap (code_number closed W h) e)) (λ lt. omega (arith, code_number-rising q r lt m)) (eq-or-lt_of_le l)

-- ---- breaks along a train

pub breaks-mono : (inbound : List ℕ) (j d n : ℕ) → breaks inbound j n ≤ breaks inbound j (n + d)
breaks-mono inbound j zero n = omega (arith, ap (λ (k : ℕ). breaks inbound j k) (add-zero n))
breaks-mono inbound j (suc d) n = omega (arith, breaks-mono inbound j d n, ap (λ (k : ℕ). breaks inbound j k) (add-suc n d), breaks-suc inbound j (n + d))

module _ (n : Night) (f : Listed n.lengths n.inbound) where
  pub before-most : (car : ℕ) → Within 1 (length n.inbound) car → breaks_before n.lengths n.inbound car ≤ most_breaks n.lengths n.inbound
  before-most car w =
      let r = train-cars n.lengths n.inbound f car w in
      let head : ℕ = first_car n.lengths (suc r.0) in
      let len : ℕ = item_of n.lengths (suc r.0) in
      let d : ℕ = len - 1 - (car - head) in
      let e : car - head + d ≡ len - 1 = omega (arith, r.3, r.4) in
      omega (
        arith,
        ap (λ (t : ℕ). breaks n.inbound (first_car n.lengths t) (car - first_car n.lengths t)) r.2,
        breaks-mono n.inbound head d (car - head),
        ap (λ (k : ℕ). breaks n.inbound head k) e,
        most-above (breaks_in n.lengths n.inbound) (up_from 1 (length n.lengths)) (suc r.0)
            (omega (arith, count-up_from-in (suc r.0) 1 (length n.lengths) (omega arith) (omega (arith, r.1)))),
      )

  pub before-pair : (j : ℕ) → 1 ≤ j → j < length n.inbound → pair n.lengths j ≡ true
      → breaks_before n.lengths n.inbound (suc j) ≡ breaks_before n.lengths n.inbound j + tally (broken n.inbound j)
  before-pair j l m e =
      let r = train-cars n.lengths n.inbound f j (l, omega arith) in
      let head : ℕ = first_car n.lengths (suc r.0) in
      let s : suc j - head ≡ suc (j - head) = omega (arith, r.3) in
      let back : head + (j - head) ≡ j = omega (arith, r.3) in
      let next : train_of n.lengths (suc j) ≡ suc r.0 = sym (eqb-true (train_of n.lengths j) (train_of n.lengths (suc j)) e) ∙ r.2 in
      omega (
        arith,
        ap (λ (t : ℕ). breaks n.inbound (first_car n.lengths t) (suc j - first_car n.lengths t)) next,
        ap (λ (t : ℕ). breaks n.inbound (first_car n.lengths t) (j - first_car n.lengths t)) r.2,
        ap (λ (k : ℕ). breaks n.inbound head k) s,
        breaks-suc n.inbound head (j - head),
        ap (λ (k : ℕ). tally (broken n.inbound k)) back,
      )

  -- ---- the derived plan

  module _ (pos : 0 < n.tracks) where
    abbrev number : ℕ → ℕ
    number car = breaks_before n.lengths n.inbound car

    pub derived-length : length (derived_codes n) ≡ length n.inbound
    unfolding derived_codes
    derived-length = length-by-car (λ c. code_number n.closed n.tracks (steps_needed n) (number c)) (length n.inbound)

    -- there is an allowed code for each number of breaks
    pub breaks-fit : (car : ℕ) → Within 1 (length n.inbound) car
        → breaks_before n.lengths n.inbound car + tally n.closed < F n.tracks (steps_needed n)
    unfolding steps_needed
    breaks-fit car w = omega (arith, before-most car w, (fewest-least n.tracks (most_breaks n.lengths n.inbound + tally n.closed) pos).holds)

    -- numbers by car that fit among the allowed codes and rise along each pair, by one at a break, give codes that sort
    pub numbered-sorts : (h : ℕ) (y : ℕ → ℕ)
        → ((car : ℕ) → Within 1 (length n.inbound) car → y car + tally n.closed < F n.tracks h)
        → ((j : ℕ) → 1 ≤ j → j < length n.inbound → pair n.lengths j ≡ true → y j + tally (broken n.inbound j) ≤ y (suc j))
        → Sorts (coded n h (λ car. code_number n.closed n.tracks h (y car)))
    numbered-sorts h y fit rise =
        coded-sorts n f pos h (λ car. code (y car))
        (λ car w.
        let (here, below) = code_number-allowed n.closed W h pos (y car) (fit car w) in (
          below,
          (usable-gaps W h (code (y car)) pos).0 (allowed-usable n.closed W h (code (y car)) here),
          allowed-some n.closed W h (code (y car)) here,
        ))
        (λ j l m e. rising j m (broken n.inbound j) (rise j l m e))
      where
        W : ℕ
        W = n.tracks

        code : ℕ → ℕ
        code q = code_number n.closed W h q

        -- the next car of a train has no smaller code, and after a break a greater one
        rising : (j : ℕ) → j < length n.inbound → (b : Bool) → y j + tally b ≤ y (suc j) → ruled (code (y j)) (code (y (suc j))) b ≡ true
        rising j m true le =
            lt-ltb (code (y j)) (code (y (suc j)))
            (code_number-rising n.closed W h pos (y j) (y (suc j)) (omega arith) (fit (suc j) (omega arith, m)))
        rising j m false le =
            let up : y j ≤ y (suc j) = omega arith in
            le-leb (code (y j)) (code (y (suc j))) (code_number-mono n.closed W h pos (y j) (y (suc j)) up (fit (suc j) (omega arith, m)))

    pub derived-sorts : Sorts (derived_plan n)
    unfolding derived_plan derived_codes
    derived-sorts = numbered-sorts (steps_needed n) number breaks-fit (λ j l m e. omega (arith, before-pair j l m e))
