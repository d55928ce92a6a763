-- Laws of the rule on neighbouring pairs, train by train.
use mathlib.Core.Path.{◌≡◌, refl, sym, ap, ◌∙◌}
use mathlib.Core.Logic.{⊎_elim}
use mathlib.Core.Bool.{Bool, true, false, not, cond, ◌&&◌}
use mathlib.Core.List.{List, [], ◌∷◌, ◌++◌}
use Prim.Native.Nat.{ℕ, zero, suc, ◌+◌, ◌-◌, ◌≤◌, ◌<◌}
use native.Mathlib.Nat.{eq-or-lt_of_le}
use native.Mathlib.Omega.{arith}
use lib.ListN.{length, get_or, take}
use borrow.Author.Tests.{eq-eqb, ne_eqb, lt-ltb, le-ltb}
use Rattle.std.specs.Prelude.{None}
use Rattle.yard.specs.Words.{tally, total, first, up_from}
use Rattle.yard.specs.Night.{sum, train_of}
use Rattle.std.specs.declared.ops.Range.{Range}
use Rattle.yard.specs.Answers.{ruled}
use Rattle.yard.proofs.general.First.{first-from, first-none, first-hit, first_found, first-fails}
use Rattle.yard.proofs.yards.Codes.{total-last}
use Rattle.yard.proofs.yards.Trains.{train-of, train-in}
use Rattle.yard.proofs.calls.Tests.{item-at}
use Rattle.yard.proofs.general.Numbers.{le-or-lt}
use Rattle.scan.specs.Found.{found}
use Rattle.trains.specs.Walk.{Walked, Ends}
use Rattle.trains.specs.Turned.{turned}
use Rattle.trains.proofs.Walk.{train-here, Stands, reached, before_it, behind_it}
use Rattle.pairs.specs.Pairs.{unruled_by, unruled_at, Ordering}

-- the rule by index
pub by_index : (places codes : List ℕ) (j : ℕ) (b : Bool) → b ≡ ruled (get_or codes (j - 1) 0) (get_or codes j 0) (turned places j)
    → not b ≡ unruled_by places codes j
by_index places codes j b q =
    ap not q ∙ ap (λ (high : ℕ). not (ruled (get_or codes (j - 1) 0) high (turned places j))) (sym (item-at codes j))

-- a count over the numbers from a up to j, and one more
pub count_next : (f : ℕ → ℕ) (a j : ℕ) → a ≤ j → total f (up_from a (j + 1 - a)) ≡ total f (up_from a (j - a)) + f j
count_next f a j l =
    let more : j + 1 - a ≡ suc (j - a) = omega arith in
    let here : a + (j - a) ≡ j = omega arith in
    ap (λ (n : ℕ). total f (up_from a n)) more ∙ (total-last f a (j - a) ∙ ap (λ (k : ℕ). total f (up_from a (j - a)) + f k) here)

-- numbers of which none passes, counted
none_passes : (p : ℕ → Bool) (n a : ℕ) → total (λ j. tally (p j)) (up_from a n) ≡ 0 → (j : ℕ) → a ≤ j → j < a + n → p j ≡ false
none_passes p zero a e j l h = absurd (omega arith)
none_passes p (suc n) a e j l h =
    ⊎_elim (λ q. ap p (sym q) ∙ no (p a) (omega arith)) (λ m. none_passes p n (suc a) (omega arith) j m (omega arith)) (eq-or-lt_of_le l)
  where
    no : (b : Bool) → tally b ≡ 0 → b ≡ false
    no true h = absurd (omega arith)
    no false h = refl

some-passes : (p : ℕ → Bool) (n a : ℕ) → 0 < total (λ j. tally (p j)) (up_from a n) → first p n a < a + n
some-passes p zero a h = absurd (omega arith)
some-passes p (suc n) a h = go (p a) h (some-passes p n (suc a))
  where
    go : (b : Bool) → 0 < tally b + total (λ j. tally (p j)) (up_from (suc a) n)
        → (0 < total (λ j. tally (p j)) (up_from (suc a) n) → first p n (suc a) < suc a + n) → cond b a (first p n (suc a)) < a + suc n
    go true h later = omega arith
    go false h later = omega (arith, later (omega arith))

-- no pair whose first car is among these breaks the rule
abbrev pub Passed : List ℕ → List ℕ → List ℕ → ℕ → Type 0
Passed lengths places codes before = (j : ℕ) → 1 ≤ j → j ≤ before → j < length codes → unruled_at lengths places codes j ≡ false

module _ (lengths places codes : List ℕ) (o : Ordering lengths places codes) where
  -- where that is all of them, the search finds the last car
  pub passed-all : Passed lengths places codes (length codes) → length codes ≡ first (unruled_at lengths places codes) (length codes - 1) 1
  passed-all passed = sym (first-fails (unruled_at lengths places codes) (length codes - 1) 1
      (λ j l h. passed j l (omega arith) (omega (arith, o.some))) ∙ omega (arith, o.some))

  pub none-found : Passed lengths places codes (length codes) →
      None ≡ found (length codes) (first (unruled_at lengths places codes) (length codes - 1) 1)
  none-found passed = rw (← passed-all passed, le-ltb (length codes) (length codes) (omega arith)) refl

  module _ {t before end : ℕ} (m : t < length lengths) (w : Walked lengths t before) (e : Ends lengths t before end) where
    -- the next train is a part of the cars
    pub train-part : (before < end) × (end ≤ length codes)
    train-part = (omega (arith, e.car, item-at lengths t, o.full (suc t) (omega arith, m)), omega (arith, e.within, o.all))

    of-train : (j : ℕ) → before < j → j ≤ end → train_of lengths j ≡ suc t
    of-train j l h = train-here lengths m w e j l h

    -- its pairs, and that of its last car with the first of the train behind
    inner : (j : ℕ) → before < j → j < end → unruled_at lengths places codes j ≡ unruled_by places codes j
    inner j l h =
        ap (λ (s : Bool). s && unruled_by places codes j)
        (eq-eqb (train_of lengths j) (train_of lengths (suc j)) (of-train j l (omega arith) ∙ sym (of-train (suc j) (omega arith) h)))

    across : (j : ℕ) → before < j → j ≡ end → j < length codes → unruled_at lengths places codes j ≡ false
    across j l q h =
        let next = train-in lengths (suc j) (omega arith) (omega (arith, o.all)) in
        let other = train-of lengths next.0 (suc j) next.1 next.2 next.3 in
        ap (λ (s : Bool). s && unruled_by places codes j)
        (ne_eqb (train_of lengths j) (train_of lengths (suc j)) (λ s. behind next.0 next.3 (omega (arith, s, other, of-train j l (omega arith)))))
      where
        behind : (i : ℕ) → suc j ≤ sum (take i lengths) + get_or lengths i 0 → i ≡ t → ⊥
        behind i m s =
            let same = ap (λ (k : ℕ). sum (take k lengths)) s in
            omega (arith, same, ap (λ (k : ℕ). get_or lengths k 0) s, w.held, e.car)

    -- a train of which no pair breaks the rule is passed; of one that has such a pair, the lowest is the lowest of all
    pub train-passed : Passed lengths places codes before
        → total (λ j. tally (unruled_by places codes j)) (up_from (before + 1) (end - (before + 1))) ≡ 0 → Passed lengths places codes end
    train-passed passed none j l h within =
        ⊎_elim
        (λ low. passed j l low within)
        (λ high. ⊎_elim (λ q. across j high q within)
        (λ less. inner j high less ∙ none_passes (unruled_by places codes) (end - (before + 1)) (before + 1) none j (omega arith) (omega arith))
        (eq-or-lt_of_le h))
        (le-or-lt j before)

    pub train-found : Passed lengths places codes before
        → 0 < total (λ j. tally (unruled_by places codes j)) (up_from (before + 1) (end - (before + 1)))
        → first (unruled_by places codes) (end - (before + 1)) (before + 1) ≡ first (unruled_at lengths places codes) (length codes - 1) 1
    train-found passed some =
        sym (first_found (unruled_at lengths places codes) (length codes - 1) 1 lowest (omega (arith, from))
        (omega (arith, low, train-part))
        (inner lowest (omega (arith, from)) (omega (arith, low, train-part)) ∙ first-hit (unruled_by places codes) n (before + 1) low)
        (λ j l h. ⊎_elim (λ under. passed j l under (omega (arith, low, train-part)))
        (λ over. inner j over (omega (arith, low, train-part)) ∙ first-none (unruled_by places codes) n (before + 1) j (omega arith) h)
        (le-or-lt j before)))
      where
        n : ℕ
        n = end - (before + 1)

        lowest : ℕ
        lowest = first (unruled_by places codes) n (before + 1)

        low : lowest < before + 1 + n
        low = some-passes (unruled_by places codes) n (before + 1) some

        from : before + 1 ≤ lowest
        from = first-from (unruled_by places codes) n (before + 1)

    pub lowest-found : Passed lengths places codes before
        → 0 < total (λ j. tally (unruled_by places codes j)) (up_from (before + 1) (end - (before + 1)))
        → found end (first (unruled_by places codes) (end - (before + 1)) (before + 1))
        ≡ found (length codes) (first (unruled_at lengths places codes) (length codes - 1) 1)
    lowest-found passed some =
        let lowest : ℕ = first (unruled_by places codes) (end - (before + 1)) (before + 1) in
        let within = some-passes (unruled_by places codes) (end - (before + 1)) (before + 1) some in
        rw
        (← train-found passed some, lt-ltb lowest end (omega (arith, within, train-part)), lt-ltb lowest (length codes) (omega (arith, within, train-part)))
        refl

-- where all trains are passed
pub all-passed : (lengths places codes : List ℕ) (o : Ordering lengths places codes) {end : ℕ} → end ≡ sum lengths → Passed lengths places codes end →
    None ≡ found (length codes) (first (unruled_at lengths places codes) (length codes - 1) 1)
all-passed lengths places codes o all passed = none-found lengths places codes o (rw (all ∙ o.all) at passed)

-- the same of a walk over the trains, which stands at a train behind those passed
module _ (lengths places codes : List ℕ) (o : Ordering lengths places codes) {passed : List (Range ℕ)} {train : Range ℕ} (stands : Stands lengths passed train)
    (none : Passed lengths places codes (reached lengths passed)) where
  held : Passed lengths places codes train.start
  held = before_it stands (Passed lengths places codes) none

  pub stands-passed : total (λ j. tally (unruled_by places codes j)) (up_from (train.start + 1) (train.end - (train.start + 1))) ≡ 0 →
      Passed lengths places codes (reached lengths (passed ++ train ∷ []))
  stands-passed e =
      behind_it stands train (λ t before. Passed lengths places codes before) (train-passed lengths places codes o stands.more stands.walked stands.ends held e)

  pub stands-found : 0 < total (λ j. tally (unruled_by places codes j)) (up_from (train.start + 1) (train.end - (train.start + 1)))
      → found train.end (first (unruled_by places codes) (train.end - (train.start + 1)) (train.start + 1))
      ≡ found (length codes) (first (unruled_at lengths places codes) (length codes - 1) 1)
  stands-found some = lowest-found lengths places codes o stands.more stands.walked stands.ends held some
