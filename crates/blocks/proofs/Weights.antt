-- Laws of the weights of a train's blocks: they are counted car by car, and with the costs they make a choice that can be had.
use mathlib.Core.Path.{◌≡◌, sym, ap, ◌∙◌, subst}
use mathlib.Core.Logic.{⊎_elim}
use mathlib.Core.List.{List, [], ◌∷◌, ◌++◌, map}
use Prim.Native.Nat.{ℕ, suc, ◌+◌, ◌*◌, ◌^◌, ◌≤◌, ◌<◌}
use native.Mathlib.Nat.{zero-add, mul-one}
use native.Mathlib.Numerals.{add-one}
use native.Mathlib.Omega.{arith}
use lib.Dec.{eqb}
use lib.ListN.{length, get_or, take, set, replicate, length-map, length-replicate, get_or-replicate}
use lib.Seq.{take-suc, take_at, get_or-take, length-take-le, get_or-set_same, get_or-set_other, ext_get_or}
use borrow.Author.Tests.{eqb-true, eqb-false}
use Rattle.yard.specs.Limits.{first_limits}
use Rattle.yard.specs.Words.{tally, count, place, up_from}
use Rattle.yard.specs.Night.{sum}
use Rattle.yard.proofs.general.Bools.{split}
use Rattle.yard.proofs.general.Lists.{total-same, total-small, total-length, total-values, tally-small, count-append, length-up_from, map-alike}
use Rattle.yard.proofs.yards.Formed.{place-holds}
use Rattle.yard.proofs.general.Order.{place-among}
use Rattle.yard.proofs.yards.PlanYard.{total-map}
use Rattle.yard.proofs.yards.DerivedPlan.{map-item}
use Rattle.scan.specs.Front.{Under}
use Rattle.choice.specs.Choice.{Cheapest, Choosable}
use Rattle.blocks.specs.Trains.{last_of, weights_of, Weighed, Blocked, Costs, Chosen}

-- ---- counted car by car

module _ (n : ℕ) (numbers table : List ℕ) (i : ℕ) (m : i < length numbers) (w : Weighed n (take i numbers) table) where
  -- no block has more cars than were counted
  pub weighed-few : (b : ℕ) → b < n → get_or table b 0 ≤ i
  weighed-few b l =
      omega (
        arith,
        w b l,
        total-small (λ y. tally (eqb b y)) (λ y. tally-small (eqb b y)) (take i numbers),
        length-take-le i numbers (omega arith),
      )

  pub weighed-next : get_or numbers i 0 < n → n ≤ length table
      → Weighed n (take (i + 1) numbers) (set table (get_or numbers i 0) (get_or table (get_or numbers i 0) 0 + 1))
  weighed-next l room b near =
      let x = get_or numbers i 0 in
      let more : count b (take (i + 1) numbers) ≡ count b (take i numbers) + count b (x ∷ []) =
      ap (λ (k : ℕ). count b (take k numbers)) (add-one i) ∙ (ap (count b) (take-suc numbers i 0 m) ∙ count-append b (take i numbers) (x ∷ [])) in
      ⊎_elim
      (λ e.
      let same : b ≡ x = eqb-true b x e in
      omega (
        arith,
        more,
        ap tally e,
        w b near,
        ap (λ (k : ℕ). get_or table k 0) same,
        ap (λ (k : ℕ). get_or (set table x (get_or table x 0 + 1)) k 0) same,
        get_or-set_same table x (get_or table x 0 + 1) 0 (omega arith),
      ))
      (λ e. omega (arith, more, ap tally e, w b near, get_or-set_other table x b (get_or table x 0 + 1) 0 (eqb-false b x e)))
      (split (eqb b x))

-- ---- as a list, and as a choice

module _ (numbers : List ℕ) where
  pub weights-length : length (weights_of numbers) ≡ suc (last_of numbers)
  weights-length = length-map (up_from 0 (suc (last_of numbers))) (λ b. count b numbers) ∙ length-up_from 0 (suc (last_of numbers))

  pub weights-item : (b : ℕ) → b < suc (last_of numbers) → get_or (weights_of numbers) b 0 ≡ count b numbers
  weights-item b m = map-item (λ k. count k numbers) 0 (suc (last_of numbers)) b m ∙ ap (λ (k : ℕ). count k numbers) (zero-add b)

  -- each number is that of a block
  module _ (K : ℕ) (blocked : Blocked K numbers) where
    pub in_block : (b : ℕ) → 0 < count b numbers → b < suc (last_of numbers)
    in_block b m =
        let i = place b numbers in
        omega (arith, blocked.upto i (place-among b numbers m), place-holds numbers b m)

    pub weights-sum : sum (weights_of numbers) ≡ length numbers
    weights-sum =
        total-map (λ x. x) (λ b. count b numbers) (up_from 0 (suc (last_of numbers))) ∙
        (total-same (λ b. count b numbers) (λ b. count b numbers * 1) (up_from 0 (suc (last_of numbers))) (λ b m. sym (mul-one (count b numbers))) ∙
        (sym (total-values (λ b. 1) 0 (suc (last_of numbers)) numbers (λ b m. (omega arith, omega (arith, in_block b m)))) ∙ total-length numbers))

  pub weights-choosable : (costs : List ℕ) → Costs costs → Blocked (length costs) numbers → Choosable (weights_of numbers) costs
  weights-choosable costs c blocked =
      record {
        some = omega (arith, weights-length);
        enough = omega (arith, weights-length, blocked.below);
        numbers = c.numbers;
        bits = c.bits;
        cars = omega (arith, weights-sum (length costs) blocked, blocked.few);
      }

  -- ---- what is lent of a table of zeros, as many places as the train has blocks, and what stands there then

  module _ (costs : List ℕ) (c : Costs costs) (blocked : Blocked (length costs) numbers) {last : ℕ} (is : last ≡ last_of numbers) where
    abbrev pub lent : List ℕ
    lent = take (last + 1) (replicate (2 ^ first_limits.steps) 0)

    blocks-few : last + 1 ≤ 2 ^ first_limits.steps
    blocks-few = omega (arith, is, blocked.below, c.numbers)

    lent-size : length lent ≡ last + 1
    lent-size = length-take-le (last + 1) (replicate {A = ℕ} (2 ^ first_limits.steps) 0) (omega (arith, blocks-few, length-replicate {A = ℕ} (2 ^ first_limits.steps) 0))

    pub lent-weighable : (length numbers ≤ first_limits.cars) × Under (length lent) numbers × Under 1 lent
    lent-weighable = (
      blocked.few,
      λ i m. omega (arith, is, lent-size, blocked.upto i m),
      λ i m.
          omega (
            arith,
            get_or-take (last + 1) (replicate {A = ℕ} (2 ^ first_limits.steps) 0) i 0 (omega (arith, lent-size)),
            get_or-replicate {A = ℕ} (2 ^ first_limits.steps) i 0 0 (omega (arith, lent-size, blocks-few)),
          ),
    )

    pub weights-part : (table rest : List ℕ) → length table ≡ length lent → Weighed (length lent) numbers table
        → take (last + 1) (table ++ rest) ≡ weights_of numbers
    weights-part table rest long w =
        take_at table rest (last + 1) (omega (arith, long, lent-size)) ∙
        ext_get_or 0 table (weights_of numbers) (omega (arith, long, lent-size, is, weights-length))
        (λ b m. w b (omega (arith, long)) ∙ sym (weights-item b (omega (arith, long, lent-size, is))))

    pub weights-lent : {weights : List ℕ} → weights ≡ weights_of numbers → Choosable weights costs × (length weights ≤ 2 ^ first_limits.steps)
    weights-lent e = (
      subst (λ (l : List ℕ). Choosable l costs) (sym e) (weights-choosable costs c blocked),
      omega (arith, ap length e, weights-length, is, blocks-few),
    )

    -- the numbers that the blocks are given, looked up for the cars
    pub chosen-train : (chosen : List ℕ) {weights after : List ℕ} → weights ≡ weights_of numbers → Cheapest weights costs (λ b. get_or chosen b 0)
        → after ≡ map (λ q. get_or (take (last + 1) chosen) q 0) numbers → Chosen costs numbers after
    chosen-train chosen e cheapest looked =
        record {
          choice = λ b. get_or chosen b 0;
          cheapest = subst (λ (l : List ℕ). Cheapest l costs (λ b. get_or chosen b 0)) e cheapest;
          given = looked ∙ map-alike (λ q. get_or (take (last + 1) chosen) q 0) (λ q. get_or chosen q 0) numbers
              (λ i m. get_or-take (last + 1) chosen (get_or numbers i 0) 0 (omega (arith, is, blocked.upto i m)));
        }
