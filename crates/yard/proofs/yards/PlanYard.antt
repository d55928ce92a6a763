-- A plan's yard at a stage: each car stands on exactly one track, at one place; passes and pulls in terms of the codes.
use mathlib.Core.Path.{◌≡◌, refl, sym, ap, ◌∙◌, subst}
use mathlib.Core.Bool.{Bool, true, false, cond}
use mathlib.Core.List.{List, [], ◌∷◌, map}
use Prim.Native.Nat.{ℕ, zero, suc, ◌+◌, ◌-◌, ◌%◌, ◌^◌, ◌≤◌, ◌<◌}
use native.Mathlib.Nat.{le_refl, mod-lt, mod-eq_of_lt}
use native.Mathlib.Omega.{arith}
use lib.Dec.{ltb, eqb}
use lib.Count.{ones}
use lib.ListN.{length, get_or}
use lib.Seq.{ext_get_or}
use borrow.Author.Tests.{lt-ltb, ltb-true, eq-eqb}
use Rattle.yard.specs.Words.{tally, total, keep, count, listed, place}
use Rattle.yard.specs.Night.{Plan, cars, item_of}
use Rattle.yard.specs.Replay.{bit, next_step, target, code_of, destination, yard_at, passes, pulled, pull_size, track_of, place_of}
use Rattle.yard.specs.Demands.{Within, Listed, CodesFormed, NeverEarly, EachOnce}
use Rattle.yard.proofs.general.Bools.{not_so}
use Rattle.yard.proofs.general.First.{first_found}
use Rattle.yard.proofs.general.Lists.{count-keep, total-same, total-alike, up_from-bounds}
use Rattle.yard.proofs.general.Order.{place-among}
use Rattle.yard.proofs.yards.Replay.{Clean, sorted, sorted-count, standing-sorted}
use Rattle.yard.proofs.yards.Codes.{set_bits, ones-set_bits}
use Rattle.yard.proofs.yards.Passes.{taken-total, rolled-set}
use Rattle.yard.proofs.yards.Standing.{location, standing-where, standing-once}
use Rattle.yard.proofs.yards.Formed.{place-holds}
use Rattle.yard.proofs.yards.Trains.{item_of-suc}
use Rattle.yard.proofs.yards.Plans.{clean-of-never}
use Rattle.yard.proofs.yards.Building.{train-cars, came-once}
use Rattle.yard.proofs.yards.DerivedPlan.{map-item, length-by-car}

-- ---- one place for each car

module _ (p : Plan) (f : Listed p.night.lengths p.night.inbound) (pos : 0 < p.night.tracks) where
  at : ℕ → ℕ → ℕ
  at s car = location p.night.tracks p.steps (code_of p) (destination p.night) s car

  goes-within : (s car : ℕ) → Within 1 (length p.night.inbound) car
      → target p.night.tracks p.steps (code_of p) (destination p.night) s car < p.night.tracks + length p.night.lengths
  goes-within s car w = go (ltb l p.steps)
    where
      l : ℕ
      l = next_step p.steps (code_of p car) s

      go : (b : Bool) → cond b (l % p.night.tracks) (destination p.night car) < p.night.tracks + length p.night.lengths
      go true = omega (arith, mod-lt l pos)
      go false = let r = train-cars p.night.lengths p.night.inbound f car w in omega (arith, r.1, r.2)

  stands-within : (s car : ℕ) → Within 1 (length p.night.inbound) car → at s car < p.night.tracks + length p.night.lengths
  unfolding at
  stands-within zero car w = goes-within 0 car w
  stands-within (suc s) car w = go (eqb (at s car) (s % p.night.tracks)) (stands-within s car w)
    where
      go : (b : Bool) → at s car < p.night.tracks + length p.night.lengths
          → cond b (target p.night.tracks p.steps (code_of p) (destination p.night) (suc s) car)
          (at s car) < p.night.tracks + length p.night.lengths
      go true m = goes-within (suc s) car w
      go false m = m

  track-at : (s car : ℕ) → Within 1 (length p.night.inbound) car → track_of p s car ≡ at s car
  unfolding track_of yard_at at
  track-at s car w =
      first_found (λ t. listed car ((yard_at p s).standing t)) (p.night.tracks + length p.night.lengths) 0 (at s car)
      (omega arith) (omega (arith, stands-within s car w))
      (lt-ltb 0 (count car ((yard_at p s).standing (at s car)))
      (omega (arith, standing-once W h code dest inbound s car, came-once p.night.lengths inbound f car w)))
      (λ t l m. not_so (listed car ((yard_at p s).standing t))
      (λ e. omega (arith, (standing-where W h code dest inbound s car t (ltb-true 0 (count car ((yard_at p s).standing t)) e)).0)))
    where
      W : ℕ
      W = p.night.tracks

      h : ℕ
      h = p.steps

      code : ℕ → ℕ
      code = code_of p

      dest : ℕ → ℕ
      dest = destination p.night

      inbound : List ℕ
      inbound = p.night.inbound

  -- at every stage each car stands once on one track, on no other, and at its place there
  pub one-track : (s car : ℕ) → Within 1 (length p.night.inbound) car → count car ((yard_at p s).standing (track_of p s car)) ≡ 1
  unfolding yard_at at
  one-track s car w =
      ap (λ (t : ℕ). count car ((yard_at p s).standing t)) (track-at s car w) ∙
      (standing-once p.night.tracks p.steps (code_of p) (destination p.night) p.night.inbound s car
      ∙ came-once p.night.lengths p.night.inbound f car w)

  pub no-other-track : (s car t : ℕ) → Within 1 (length p.night.inbound) car → 0 < count car ((yard_at p s).standing t) → t ≡ track_of p s car
  unfolding yard_at at
  no-other-track s car t w m =
      (standing-where p.night.tracks p.steps (code_of p) (destination p.night) p.night.inbound s car t m).0 ∙ sym (track-at s car w)

  pub one_place : (s car : ℕ) → Within 1 (length p.night.inbound) car → get_or ((yard_at p s).standing (track_of p s car)) (place_of p s car) 0 ≡ car
  unfolding place_of
  one_place s car w = place-holds ((yard_at p s).standing (track_of p s car)) car (omega (arith, one-track s car w))

-- where no car is pulled early, a car stands on the track it is bound for, behind those of the sorted list that are bound for it too
module _ (p : Plan) (f : Listed p.night.lengths p.night.inbound) (pos : 0 < p.night.tracks) (never : NeverEarly p) (s : ℕ) (l : s ≤ p.steps) where
  goal : ℕ → ℕ
  goal car = target p.night.tracks p.steps (code_of p) (destination p.night) s car

  standing-is : (t : ℕ)
      → (yard_at p s).standing t ≡ keep
      (λ c. eqb t (target p.night.tracks p.steps (code_of p) (destination p.night) s c)) (sorted (code_of p) p.night.inbound s)
  unfolding yard_at Clean
  standing-is t =
      standing-sorted p.night.tracks p.steps (code_of p) (destination p.night) p.night.inbound s l
      (λ k m. clean-of-never p never k (omega arith)) t

  pub track-target : (car : ℕ) → Within 1 (length p.night.inbound) car
      → track_of p s car ≡ target p.night.tracks p.steps (code_of p) (destination p.night) s car
  unfolding goal
  track-target car w =
      sym (no-other-track p f pos s car (goal car) w
      (omega (
        arith,
        ap (λ (u : List ℕ). count car u) (standing-is (goal car)),
        count-keep car (λ c. eqb (goal car) (goal c)) (sorted (code_of p) p.night.inbound s),
        ap (λ (b : Bool). cond b (count car (sorted (code_of p) p.night.inbound s)) 0) (eq-eqb (goal car) (goal car) refl),
        sorted-count (code_of p) p.night.inbound s car,
        came-once p.night.lengths p.night.inbound f car w,
      )))

  pub place-target : (car : ℕ) → Within 1 (length p.night.inbound) car
      → place_of p s car ≡ place car
      (keep (λ c. eqb (target p.night.tracks p.steps (code_of p) (destination p.night) s car)
      (target p.night.tracks p.steps (code_of p) (destination p.night) s c)) (sorted (code_of p) p.night.inbound s))
  unfolding place_of goal
  place-target car w = ap (λ (t : ℕ). place car ((yard_at p s).standing t)) (track-target car w) ∙ ap (λ (u : List ℕ). place car u) (standing-is (goal car))

-- ---- sums over the cars

-- a sum over what came in is a sum over the cars 1 to n, and one over the codes
pub total-cars : (inbound : List ℕ) → EachOnce inbound → (g : ℕ → ℕ) → total g inbound ≡ total g (cars (length inbound))
total-cars inbound once g =
    total-alike g inbound (cars (length inbound)) 1 (length inbound) (λ x m. up_from-bounds x 1 (length inbound) (subst (λ (k : ℕ). 0 < k) (once x) m)) once

pub total-map : (g k : ℕ → ℕ) (l : List ℕ) → total g (map k l) ≡ total (λ x. g (k x)) l
total-map g k [] = refl
total-map g k (x ∷ l) = omega (arith, total-map g k l)

pub items : (l : List ℕ) → map (λ j. item_of l j) (cars (length l)) ≡ l
items l =
    ext_get_or 0 (map (λ j. item_of l j) (cars (length l))) l (length-by-car (λ j. item_of l j) (length l))
    (λ i m. map-item (λ j. item_of l j) 1 (length l) i (omega (arith, length-by-car (λ j. item_of l j) (length l))) ∙ shift i)
  where
    shift : (i : ℕ) → item_of l (1 + i) ≡ get_or l i 0
    shift i =
        let e : 1 + i - 1 ≡ i = omega arith in
        ap (λ (k : ℕ). get_or l k 0) e

pub total-codes : (l : List ℕ) (g : ℕ → ℕ) → total (λ car. g (item_of l car)) (cars (length l)) ≡ total g l
total-codes l g = sym (total-map g (λ j. item_of l j) (cars (length l))) ∙ ap (λ (u : List ℕ). total g u) (items l)

module _ (p : Plan) (f : Listed p.night.lengths p.night.inbound) (formed : CodesFormed p) (never : NeverEarly p) where
  -- a sum over what came in, by code, is a sum over the codes
  by_codes : (g : ℕ → ℕ) → total (λ car. g (code_of p car)) p.night.inbound ≡ total g p.codes
  by_codes g =
      total-cars p.night.inbound f.once (λ car. g (code_of p car)) ∙
      (ap (λ (n : ℕ). total (λ car. g (code_of p car)) (cars n)) (sym formed.each) ∙ total-codes p.codes g)

  -- hump passes up to a stage: n, and the set bits of all codes to that stage
  pub passes-codes : (s : ℕ) → s ≤ p.steps → passes p s ≡ length p.night.inbound + total (λ x. ones (x % 2 ^ s)) p.codes
  unfolding passes yard_at Clean
  passes-codes s l =
      rolled-set p.night.tracks p.steps (code_of p) (destination p.night) p.night.inbound s l (λ k m. clean-of-never p never k (omega arith)) ∙
      ap (λ (k : ℕ). length p.night.inbound + k)
      (by_codes (λ x. set_bits s x) ∙ total-same (λ x. set_bits s x) (λ x. ones (x % 2 ^ s)) p.codes (λ x m. sym (ones-set_bits s x)))

  -- and for the whole plan all set bits
  pub passes-whole : passes p p.steps ≡ length p.night.inbound + total (λ x. ones x) p.codes
  passes-whole =
      passes-codes p.steps (le_refl p.steps) ∙
      ap (λ (k : ℕ). length p.night.inbound + k)
      (total-same (λ x. ones (x % 2 ^ p.steps)) (λ x. ones x) p.codes (λ x m. ap ones (mod-eq_of_lt (code_below x m))))
    where
      code_below : (x : ℕ) → 0 < count x p.codes → x < 2 ^ p.steps
      code_below x m =
          let i : ℕ = place x p.codes in
          let e : item_of p.codes (suc i) ≡ get_or p.codes i 0 = item_of-suc p.codes i in
          omega (arith, e, place-holds p.codes x m, formed.below (suc i) (omega arith, place-among x p.codes m))

  -- a step pulls as many cars as codes name it
  pub pull_size-codes : (k : ℕ) → k < p.steps → pull_size p k ≡ total (λ x. tally (bit k x)) p.codes
  unfolding pull_size pulled yard_at Clean
  pull_size-codes k l =
      taken-total p.night.tracks p.steps (code_of p) (destination p.night) p.night.inbound k l
      (λ j m. clean-of-never p never j (omega arith)) (λ c. 1) ∙
      (total-same _ _ p.night.inbound (λ c m. one (bit k (code_of p c))) ∙ by_codes (λ x. tally (bit k x)))
    where
      one : (b : Bool) → cond b 1 0 ≡ tally b
      one true = refl
      one false = refl
