-- The trains of a night: by the breaks before its cars each train has its blocks, and what is chosen train by train is best for the
-- night.
use mathlib.Core.Path.{◌≡◌, sym, ap, ◌∙◌, subst}
use mathlib.Core.Bool.{true, false}
use mathlib.Core.List.{List, map, map-map}
use Prim.Native.Nat.{ℕ, zero, suc, ◌+◌, ◌-◌, ◌≤◌, ◌<◌}
use native.Mathlib.Omega.{arith}
use lib.ListN.{length, get_or, take, drop, length-drop, length-map}
use lib.Seq.{length-take-le, take-length, ext_get_or}
use borrow.Author.Tests.{eq-eqb, ne_eqb}
use Rattle.yard.specs.Limits.{first_limits}
use Rattle.yard.specs.Words.{tally, count, up_from}
use Rattle.yard.specs.Night.{Night, cars, sum, item_of, train_of, pair, broken, breaks, breaks_before, most_breaks}
use Rattle.yard.specs.Demands.{Listed}
use Rattle.yard.proofs.general.Lists.{length-up_from, part-item}
use Rattle.yard.proofs.yards.Trains.{item_of-suc, train-of, train-end, breaks_before-train}
use Rattle.yard.proofs.yards.DerivedPlan.{map-item, length-by-car, breaks-mono, before-most, before-pair}
use Rattle.scan.proofs.Running.{sum-next}
use Rattle.blocks.specs.Trains.{last_of, weights_of, Blocked, Chosen, part_of, AllBlocked, AllChosen}
use Rattle.blocks.proofs.Best.{Best, asked_by, best_none, best-same, best-join}
use Rattle.blocks.proofs.Blocks.{blocks-best}
use Rattle.blocks.proofs.Weights.{weights-length, weights-item}

module _ (n : Night) (f : Listed n.lengths n.inbound) where
  abbrev N : ℕ
  N = length n.inbound

  abbrev block : ℕ → ℕ
  block car = breaks_before n.lengths n.inbound car

  -- the numbers with which the work begins: the breaks before each car in its train
  abbrev pub breaks_by : List ℕ
  breaks_by = map block (cars N)

  module _ (t : ℕ) (m : t < length n.lengths) where
    abbrev s : ℕ
    s = sum (take t n.lengths)

    abbrev len : ℕ
    len = get_or n.lengths t 0

    some : 1 ≤ len
    some = omega (arith, f.nonempty (suc t) (omega arith, m), item_of-suc n.lengths t)

    within : s + len ≤ N
    within = omega (arith, train-end n.lengths t m, f.adds)

    -- its cars by number, from the list by car
    part-long : (l : List ℕ) → length l ≡ N → length (part_of n.lengths l t) ≡ len
    part-long l e = length-take-le len (drop s l) (omega (arith, length-drop s l, within, e))

    part-cars : part_of n.lengths breaks_by t ≡ map block (up_from (suc s) len)
    part-cars =
        ext_get_or 0 (part_of n.lengths breaks_by t) (map block (up_from (suc s) len)) (long ∙ sym (size (suc s)))
        (λ i h.
        let near : i < len = omega (arith, long) in
        let same : 1 + (s + i) ≡ suc s + i = omega arith in
        part-item breaks_by s len i near ∙ (map-item block 1 N (s + i) (omega (arith, within)) ∙ (ap block same ∙ sym (map-item block (suc s) len i near))))
      where
        long : length (part_of n.lengths breaks_by t) ≡ len
        long = part-long breaks_by (length-by-car block N)

        size : (a : ℕ) → length (map block (up_from a len)) ≡ len
        size a = length-map (up_from a len) block ∙ length-up_from a len

    -- the item of the train's part for its car number i
    part_at : (i : ℕ) → i < len → get_or (part_of n.lengths breaks_by t) i 0 ≡ block (suc s + i)
    part_at i h = ap (λ (l : List ℕ). get_or l i 0) part-cars ∙ map-item block (suc s) len i h

    last-at : last_of (part_of n.lengths breaks_by t) ≡ block (suc s + (len - 1))
    last-at =
        ap (λ (k : ℕ). get_or (part_of n.lengths breaks_by t) (k - 1) 0) (part-long breaks_by (length-by-car block N)) ∙
        part_at (len - 1) (omega (arith, some))

    -- ---- the cars of a train, its pairs and its blocks

    on-train : (car : ℕ) → s < car → car ≤ s + len → train_of n.lengths car ≡ suc t
    on-train car l h = train-of n.lengths t car m l h

    joined : (j : ℕ) → suc s ≤ j → suc j < suc s + len → pair n.lengths j ≡ true
    joined j l h =
        eq-eqb (train_of n.lengths j) (train_of n.lengths (suc j))
        (on-train j (omega arith) (omega arith) ∙ sym (on-train (suc j) (omega arith) (omega arith)))

    block-is : (car : ℕ) → s < car → car ≤ s + len → block car ≡ breaks n.inbound (suc s) (car - suc s)
    block-is car l h = breaks_before-train n.lengths n.inbound t car (on-train car l h)

    begins : block (suc s) ≡ 0
    begins =
        let none : suc s - suc s ≡ 0 = omega arith in
        block-is (suc s) (omega arith) (omega (arith, some)) ∙ ap (λ (k : ℕ). breaks n.inbound (suc s) k) none

    goes : (j : ℕ) → suc s ≤ j → suc j < suc s + len → (pair n.lengths j ≡ true) × (block (suc j) ≡ block j + tally (broken n.inbound j))
    goes j l h = (joined j l h, before-pair n f j (omega arith) (omega (arith, within)) (joined j l h))

    upto : (i : ℕ) → i < len → block (suc s + i) ≤ block (suc s + (len - 1))
    upto i h =
        let here : suc s + i - suc s ≡ i = omega arith in
        let there : suc s + (len - 1) - suc s ≡ i + (len - 1 - i) = omega arith in
        omega (
          arith,
          block-is (suc s + i) (omega arith) (omega arith),
          block-is (suc s + (len - 1)) (omega arith) (omega (arith, some)),
          ap (λ (k : ℕ). breaks n.inbound (suc s) k) here,
          ap (λ (k : ℕ). breaks n.inbound (suc s) k) there,
          breaks-mono n.inbound (suc s) (len - 1 - i) i,
        )

    blocked : (K : ℕ) → most_breaks n.lengths n.inbound < K → N ≤ first_limits.cars → Blocked K (part_of n.lengths breaks_by t)
    blocked K fewer few =
        let long = part-long breaks_by (length-by-car block N) in
        record {
          some = omega (arith, long, some);
          few = omega (arith, long, within, few);
          upto = λ i h. omega (arith, part_at i (omega (arith, long)), upto i (omega (arith, long)), last-at);
          below = omega (arith, last-at, before-most n f (suc s + (len - 1)) (omega arith, omega (arith, within, some)), fewer);
        }

    -- ---- what is chosen for a train is best for its cars

    train-best : (costs numbers : List ℕ) → length numbers ≡ N → Chosen costs (part_of n.lengths breaks_by t) (part_of n.lengths numbers t)
        → Best (asked_by costs (pair n.lengths) (broken n.inbound)) (suc s) len (λ car. item_of numbers car)
    train-best costs numbers long c =
        best-same (asked_by costs (pair n.lengths) (broken n.inbound)) (suc s) len (λ j. c.choice (block j)) (λ car. item_of numbers car) same
        (blocks-best (weights_of part) costs (pair n.lengths) (broken n.inbound) (suc s) len block some begins goes
        (weights-length part ∙ ap suc last-at)
        (λ b h. weights-item part b (omega (arith, weights-length part)) ∙ ap (count b) part-cars) c.choice c.cheapest)
      where
        part : List ℕ
        part = part_of n.lengths breaks_by t

        same : (j : ℕ) → suc s ≤ j → j < suc s + len → c.choice (block j) ≡ item_of numbers j
        same j l h =
            let i = j - suc s in
            let near : i < len = omega arith in
            let car : suc s + i ≡ j = omega arith in
            let at : s + i ≡ j - 1 = omega arith in
            sym
            (ap (λ (k : ℕ). get_or numbers k 0) (sym at) ∙
            (sym (part-item numbers s len i near) ∙
            (ap (λ (u : List ℕ). get_or u i 0) (c.given ∙ (ap (map c.choice) part-cars ∙ map-map c.choice block (up_from (suc s) len))) ∙
            (map-item (λ k. c.choice (block k)) (suc s) len i near ∙ ap (λ (k : ℕ). c.choice (block k)) car))))

  -- ---- all trains

  pub all-blocked : (K : ℕ) → most_breaks n.lengths n.inbound < K → N ≤ first_limits.cars → AllBlocked n.lengths K breaks_by
  all-blocked K fewer few =
      let long = length-by-car block N in
      record { all = f.adds ∙ sym long; few = omega (arith, long); train = λ t m. blocked t m K fewer few }

  module _ (costs numbers : List ℕ) (long : length numbers ≡ N) (chosen : AllChosen n.lengths costs breaks_by numbers) where
    -- no pair joins two trains
    apart : (t : ℕ) → t < length n.lengths → (j : ℕ) → 1 ≤ j → suc j ≡ 1 + sum (take t n.lengths) → pair n.lengths j ≡ false
    apart zero m j l e = absurd (omega arith)
    apart (suc t) m j l e =
        let before : t < length n.lengths = omega arith in
        let ends = sum-next n.lengths t before in
        ne_eqb (train_of n.lengths j) (train_of n.lengths (suc j))
        (λ same.
        omega (
          arith,
          same,
          on-train t before j (omega (arith, ends, e, some t before)) (omega (arith, ends, e)),
          on-train (suc t) m (suc j) (omega (arith, e)) (omega (arith, e, some (suc t) m)),
        ))

    trains-best : (t : ℕ) → t ≤ length n.lengths
        → Best (asked_by costs (pair n.lengths) (broken n.inbound)) 1 (sum (take t n.lengths)) (λ car. item_of numbers car)
    trains-best zero l = best_none (asked_by costs (pair n.lengths) (broken n.inbound)) 1 (λ car. item_of numbers car)
    trains-best (suc t) l =
        let asked = asked_by costs (pair n.lengths) (broken n.inbound) in
        let m : t < length n.lengths = omega arith in
        let from : suc (sum (take t n.lengths)) ≡ 1 + sum (take t n.lengths) = omega arith in
        subst (λ (k : ℕ). Best asked 1 k (λ car. item_of numbers car)) (sym (sum-next n.lengths t m))
        (best-join asked 1 (sum (take t n.lengths)) (get_or n.lengths t 0) (λ car. item_of numbers car) (apart t m) (trains-best t (omega arith))
        (subst (λ (a : ℕ). Best asked a (get_or n.lengths t 0) (λ car. item_of numbers car)) from (train-best t m costs numbers long (chosen t m))))

    pub night-best : Best (asked_by costs (pair n.lengths) (broken n.inbound)) 1 N (λ car. item_of numbers car)
    night-best =
        let m = length n.lengths in
        subst (λ (k : ℕ). Best (asked_by costs (pair n.lengths) (broken n.inbound)) 1 k (λ car. item_of numbers car))
        (ap sum (take-length n.lengths) ∙ f.adds) (trains-best m (omega arith))
