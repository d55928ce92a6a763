-- Codes that sort are numbers of allowed codes that follow the rule on pairs, and their passes are what the numbers cost; so the best
-- numbers for the night give the codes with the fewest passes.
use mathlib.Core.Path.{◌≡◌, refl, sym, ap, ◌∙◌}
use mathlib.Core.Logic.{⊎_elim}
use mathlib.Core.Bool.{Bool, true, false, cond, not}
use mathlib.Core.List.{List, map}
use Prim.Native.Nat.{ℕ, suc, ◌+◌, ◌^◌, ◌≤◌, ◌<◌}
use native.Mathlib.Omega.{arith}
use lib.Count.{ones}
use lib.ListN.{length, get_or, length-map, get_or-map}
use borrow.Author.Tests.{leb-true, ltb-true}
use Rattle.yard.specs.Words.{tally, total, count, place, up_from}
use Rattle.yard.specs.Night.{Night, cars, item_of, pair, broken}
use Rattle.yard.specs.Replay.{passes}
use Rattle.yard.specs.Codes.{F, allowed, allowed_codes, code_number}
use Rattle.yard.specs.Answers.{ruled}
use Rattle.yard.specs.Demands.{Within, Listed, Sorts}
use Rattle.yard.proofs.general.Bools.{split, clash, and_both}
use Rattle.yard.proofs.general.Numbers.{le-or-lt, compared}
use Rattle.yard.proofs.general.Lists.{count-keep, count-up_from-in, total-range}
use Rattle.yard.proofs.general.Order.{place-among}
use Rattle.yard.proofs.yards.Formed.{place-holds}
use Rattle.yard.proofs.yards.Allowed.{F-allowed}
use Rattle.yard.proofs.yards.Building.{builds-ruled}
use Rattle.yard.proofs.yards.Least.{car-allowed}
use Rattle.yard.proofs.yards.PlanYard.{passes-whole, total-codes}
use Rattle.yard.proofs.yards.DerivedPlan.{by-car, length-by-car, code_number-rising, code_number-mono, numbered-sorts}
use Rattle.fewest.specs.Fewest.{plan_in, Before, FewestPasses}
use Rattle.blocks.proofs.Best.{Asked, asked_by, Fits, spent, Best}

ones-zero : ones 0 ≡ 0
unfolding ones
ones-zero = refl

-- ---- the numbers of a night

-- what each allowed code costs a car: a pass for each set bit
abbrev pub costs_of : Night → ℕ → List ℕ
costs_of n h = map (λ x. ones x) (allowed_codes n.closed n.tracks h)

abbrev pub night_asked : Night → ℕ → Asked
night_asked n h = asked_by (costs_of n h) (pair n.lengths) (broken n.inbound)

-- the codes by the numbers of the cars
abbrev pub codes_of : Night → ℕ → (ℕ → ℕ) → List ℕ
codes_of n h x = map (λ car. code_number n.closed n.tracks h (x car)) (cars (length n.inbound))

-- codes that sort follow the rule on pairs
pub sorts-ruled : (n : Night) (h : ℕ) → Listed n.lengths n.inbound → (codes : List ℕ) → Sorts (plan_in n h codes) → (j : ℕ) → 1 ≤ j
    → j < length n.inbound → pair n.lengths j ≡ true → ruled (item_of codes j) (item_of codes (suc j)) (broken n.inbound j) ≡ true
sorts-ruled n h f codes s j l m e =
    ⊎_elim (λ follows. follows)
    (λ fails. clash (and_both e (ap not fails)) ((builds-ruled (plan_in n h codes) f s.codes s.never).0 s.builds j l m))
    (split (ruled (item_of codes j) (item_of codes (suc j)) (broken n.inbound j)))

module _ (n : Night) (h : ℕ) (f : Listed n.lengths n.inbound) (pos : 0 < n.tracks) where
  abbrev N : ℕ
  N = length n.inbound

  abbrev code : ℕ → ℕ
  code q = code_number n.closed n.tracks h q

  abbrev list : List ℕ
  list = allowed_codes n.closed n.tracks h

  -- a number that costs something is that of an allowed code
  numbered : (q : ℕ) → q < (night_asked n h).numbers → q + tally n.closed < F n.tracks h
  numbered q m = omega (arith, length-map list (λ x. ones x), F-allowed n.closed n.tracks h pos)

  cost-is : (q : ℕ) → (night_asked n h).cost q ≡ ones (code q)
  unfolding code_number
  cost-is q = ap (λ (d : ℕ). get_or (costs_of n h) q d) (sym ones-zero) ∙ get_or-map (λ x. ones x) list q 0

  code_one : (q r : ℕ) → q < (night_asked n h).numbers → r < (night_asked n h).numbers → code q ≡ code r → q ≡ r
  code_one q r l m e =
      compared (q ≡ r) q r
      (λ lt. absurd (omega (arith, e, code_number-rising n.closed n.tracks h pos q r lt (numbered r m))))
      (λ same. same)
      (λ gt. absurd (omega (arith, e, code_number-rising n.closed n.tracks h pos r q gt (numbered q l))))

  -- ---- from codes to numbers

  module _ (codes : List ℕ) (s : Sorts (plan_in n h codes)) where
    number : ℕ → ℕ
    number car = place (item_of codes car) list

    among : (car : ℕ) → Within 1 N car → 0 < count (item_of codes car) list
    unfolding allowed_codes
    among car w =
        let x = item_of codes car in
        let below : x < 2 ^ h = s.codes.below car (w.0, omega (arith, w.1, s.codes.each)) in
        omega (
          arith,
          count-keep x (allowed n.closed n.tracks h) (up_from 0 (2 ^ h)),
          ap (λ (b : Bool). cond b (count x (up_from 0 (2 ^ h))) 0) (car-allowed (plan_in n h codes) f pos s car w),
          count-up_from-in x 0 (2 ^ h) (omega arith) (omega arith),
        )

    number-below : (car : ℕ) → Within 1 N car → number car < (night_asked n h).numbers
    unfolding number
    number-below car w = omega (arith, place-among (item_of codes car) list (among car w), length-map list (λ x. ones x))

    number-code : (car : ℕ) → Within 1 N car → code (number car) ≡ item_of codes car
    unfolding number code_number
    number-code car w = place-holds list (item_of codes car) (among car w)

    number_fits : Fits (night_asked n h) 1 N number
    number_fits =
        record {
          below = λ j l m. number-below j (l, omega arith);
          follows = λ j l m e. rises j (l, omega arith) (omega arith, omega arith) (broken n.inbound j) (sorts-ruled n h f codes s j l (omega arith) e);
        }
      where
        -- a number that does not rise gives a code that does not
        rises : (j : ℕ) → Within 1 N j → Within 1 N (suc j) → (b : Bool) → ruled (item_of codes j) (item_of codes (suc j)) b ≡ true
            → number j + tally b ≤ number (suc j)
        rises j w v true e =
            ⊎_elim
            (λ le.
            absurd
            (omega (
              arith,
              ltb-true (item_of codes j) (item_of codes (suc j)) e,
              number-code j w,
              number-code (suc j) v,
              code_number-mono n.closed n.tracks h pos (number (suc j)) (number j) le (numbered (number j) (number-below j w)),
            )))
            (λ lt. omega arith)
            (le-or-lt (number (suc j)) (number j))
        rises j w v false e =
            ⊎_elim
            (λ le. omega arith)
            (λ lt.
            absurd
            (omega (
              arith,
              leb-true (item_of codes j) (item_of codes (suc j)) e,
              number-code j w,
              number-code (suc j) v,
              code_number-rising n.closed n.tracks h pos (number (suc j)) (number j) lt (numbered (number j) (number-below j w)),
            )))
            (le-or-lt (number j) (number (suc j)))

  -- ---- the passes of codes, by any numbers that have them

  passes-spent : (codes : List ℕ) → Sorts (plan_in n h codes) → (x : ℕ → ℕ) → ((car : ℕ) → Within 1 N car → code (x car) ≡ item_of codes car)
      → passes (plan_in n h codes) h ≡ N + spent (night_asked n h) 1 N x
  passes-spent codes s x has =
      passes-whole (plan_in n h codes) f s.codes s.never ∙
      ap (λ (k : ℕ). N + k)
      (sym (total-codes codes (λ c. ones c)) ∙
      (ap (λ (k : ℕ). total (λ car. ones (item_of codes car)) (up_from 1 k)) s.codes.each ∙
      total-range (λ car. ones (item_of codes car)) (λ car. (night_asked n h).cost (x car)) 1 N
      (λ car l m. sym (cost-is (x car) ∙ ap (λ (c : ℕ). ones c) (has car (l, omega arith))))))

  -- ---- the best numbers

  module _ (x : ℕ → ℕ) (b : Best (night_asked n h) 1 N x) where
    best-sorts : Sorts (plan_in n h (codes_of n h x))
    best-sorts =
        numbered-sorts n f pos h x
        (λ car w. numbered (x car) (b.fits.below car w.0 (omega (arith, w.1)))) (λ j l m e. b.fits.follows j l (omega arith) e)

    best-code : (car : ℕ) → Within 1 N car → code (x car) ≡ item_of (codes_of n h x) car
    best-code car w = sym (by-car (λ c. code (x c)) N car w)

    best-passes : passes (plan_in n h (codes_of n h x)) h ≡ N + spent (night_asked n h) 1 N x
    best-passes = passes-spent (codes_of n h x) best-sorts x best-code

    pub best-fewest : FewestPasses n h (codes_of n h x)
    best-fewest =
        record {
          sorts = best-sorts;
          fewest = λ others s. omega (arith, best-passes, counted others s, b.least (number others s) (number_fits others s));
          smallest = smallest;
        }
      where
        counted : (others : List ℕ) (s : Sorts (plan_in n h others)) → passes (plan_in n h others) h ≡ N + spent (night_asked n h) 1 N (number others s)
        counted others s = passes-spent others s (number others s) (number-code others s)

        smallest : (others : List ℕ) → Sorts (plan_in n h others) → passes (plan_in n h others) h ≡ passes (plan_in n h (codes_of n h x)) h
            → Before others (codes_of n h x) → ⊥
        smallest others s same before =
            let k = before.car in
            let w : Within 1 N k = (before.within.0, omega (arith, before.within.1, length-by-car (λ c. code (x c)) N)) in
            let y = number others s in
            let least : x k ≤ y k =
            b.smallest y (number_fits others s) (omega (arith, same, best-passes, counted others s)) k w.0 (omega (arith, w.1))
            (λ j l lt.
            let v : Within 1 N j = (l, omega (arith, w.1)) in
            code_one (y j) (x j) (number-below others s j v) (b.fits.below j l (omega (arith, v.1)))
            (number-code others s j v ∙ (before.alike j l lt ∙ sym (best-code j v)))) in
            omega (
              arith,
              before.smaller,
              best-code k w,
              number-code others s k w,
              code_number-mono n.closed n.tracks h pos (x k) (y k) least (numbered (y k) (number-below others s k w)),
            )
