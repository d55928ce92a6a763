-- Laws of a walk over the trains.
use mathlib.Core.Path.{◌≡◌, refl, sym, ap, subst, ◌∙◌}
use mathlib.Core.List.{List, [], ◌∷◌, ◌++◌}
use Prim.Native.Nat.{ℕ, zero, suc, ◌+◌, ◌^◌, ◌≤◌, ◌<◌}
use native.Mathlib.Nat.{add-zero, zero-add, add_assoc}
use native.Mathlib.Numerals.{add-one}
use native.Mathlib.Omega.{arith}
use lib.ListN.{length, get_or, take, length-append}
use lib.Seq.{take-length}
use Rattle.std.specs.Prelude.{Option, Some, None}
use Rattle.std.specs.declared.ops.Range.{Range}
use Rattle.std.specs.declared.iter.Enumerate.{Enumerate}
use Rattle.std.specs.Iterator.{Yields, YieldsFirst}
use Rattle.std.specs.Iterator.Adapters.{enumerate_source, enumerate_count, enumerate_steps}
use Rattle.std.specs.List.{enumerate_from}
use Rattle.std.proofs.lemmas.Iterator.{YieldsList}
use Rattle.std.proofs.lemmas.Iterator.Consumers.{YieldsList-turn, YieldsList-end, YieldsList-from_first, YieldsList-from_enumerate}
use Rattle.std.proofs.lemmas.List.FromFn.{length-enumerate_from, get_or-enumerate_from}
use Rattle.yard.specs.Night.{sum, train_of}
use Rattle.yard.proofs.yards.Trains.{train-of, train-end}
use Rattle.scan.proofs.Running.{sum-next}
use Rattle.trains.specs.Walk.{Walked, Ends, ranges}
use Rattle.trains.specs.declared.Trains.{Trains}
use Rattle.trains.specs.Ranges.{ranges_left}

module _ (lengths : List ℕ) where
  pub walked_none : Walked lengths 0 0
  walked_none = record { upto = omega arith; held = refl }

  -- all trains have all cars
  pub walked_all : {t cars : ℕ} → length lengths ≤ t → Walked lengths t cars → cars ≡ sum lengths
  walked_all {t} {cars} l w =
      let end : t ≡ length lengths = omega (arith, w.upto) in
      w.held ∙ (ap (λ (k : ℕ). sum (take k lengths)) end ∙ ap sum (take-length lengths))

  module _ {t before : ℕ} (m : t < length lengths) (w : Walked lengths t before) where
    -- the next train
    pub ends-here : Ends lengths t before (before + get_or lengths t 0)
    ends-here =
        record {
          car = refl;
          within = omega (arith, w.held, train-end lengths t m);
          walked =
              record {
                upto = omega arith;
                held = omega (arith, w.held, ap (λ (k : ℕ). sum (take k lengths)) (add-one t), sum-next lengths t m);
              };
        }

    -- its cars are those behind the first ones, up to its end
    pub train-here : {end : ℕ} → Ends lengths t before end → (car : ℕ) → before < car → car ≤ end → train_of lengths car ≡ suc t
    train-here e car l h = train-of lengths t car m (omega (arith, w.held)) (omega (arith, w.held, e.car))

-- ---- the trains one after the other

range-length : (before : ℕ) (lengths : List ℕ) → length (ranges before lengths) ≡ length lengths
range-length before [] = refl
range-length before (l ∷ lengths) = ap suc (range-length (before + l) lengths)

-- the cars of a train that begins behind these
abbrev pub range_from : ℕ → ℕ → Range ℕ
range_from before l = record { start = before; end = before + l }

range_at : (before : ℕ) (lengths : List ℕ) (t : ℕ) (d : Range ℕ) → t < length lengths →
    get_or (ranges before lengths) t d ≡ range_from (before + sum (take t lengths)) (get_or lengths t 0)
range_at before [] t d m = absurd (omega arith)
range_at before (l ∷ lengths) zero d m = ap (λ (b : ℕ). range_from b l) (sym (add-zero before))
range_at before (l ∷ lengths) (suc t) d m =
    range_at (before + l) lengths t d (omega arith) ∙
    ap (λ (b : ℕ). range_from b (get_or lengths t 0)) (add_assoc before l (sum (take t lengths)))

-- the trains passed have so many cars
abbrev pub reached : {A : Type 0} → List ℕ → List A → ℕ
reached lengths passed = sum (take (length passed) lengths)

-- the walk stands at a train: it is the one behind those passed
pub record Stands {A : Type 0} (lengths : List ℕ) (passed : List A) (cars : Range ℕ) : Type 0 where
  pub more : length passed < length lengths
  pub walked : Walked lengths (length passed) cars.start
  pub ends : Ends lengths (length passed) cars.start cars.end

module _ {A : Type 0} {lengths : List ℕ} {passed : List A} {cars : Range ℕ} (stands : Stands lengths passed cars) where
  -- what holds up to here holds up to this train, and what holds up to its end holds where it is passed
  pub before_it : (P : ℕ → Type 0) → P (reached lengths passed) → P cars.start
  before_it P = subst P (sym stands.walked.held)

  pub behind_it : (x : A) (P : ℕ → ℕ → Type 0) → P (length passed + 1) cars.end → P (length (passed ++ x ∷ [])) (reached lengths (passed ++ x ∷ []))
  behind_it x P h =
      subst (λ (t : ℕ). P t (sum (take t lengths))) (sym (length-append passed (x ∷ []))) (subst (P (length passed + 1)) stands.ends.walked.held h)

-- the walk stands at a train where this is the range of the one behind those passed
stands-at : {A : Type 0} (lengths : List ℕ) (passed : List A) (cars d : Range ℕ) → length passed < length (ranges 0 lengths) →
    cars ≡ get_or (ranges 0 lengths) (length passed) d → Stands lengths passed cars
stands-at lengths passed cars d m is =
    let more : length passed < length lengths = omega (arith, m, range-length 0 lengths) in
    let at = is ∙ range_at 0 lengths (length passed) d more in
    let start : cars.start ≡ sum (take (length passed) lengths) = ap (λ (c : Range ℕ). c.start) at ∙ zero-add _ in
    let end : cars.end ≡ cars.start + get_or lengths (length passed) 0 = omega (arith, ap (λ (c : Range ℕ). c.end) at, start) in
    let walked : Walked lengths (length passed) cars.start = record { upto = omega arith; held = start } in
    record { more = more; walked = walked; ends = rw end (ends-here lengths more walked) }

-- where as many are passed as there are trains, all cars are
all-reached : {A : Type 0} (lengths : List ℕ) (passed : List A) → length passed ≡ length (ranges 0 lengths) →
    (length lengths ≤ length passed) × (reached lengths passed ≡ sum lengths)
all-reached lengths passed e =
    let end : length passed ≡ length lengths = e ∙ range-length 0 lengths in
    (omega arith, ap (λ (t : ℕ). sum (take t lengths)) end ∙ ap sum (take-length lengths))

-- a loop over the trains: at each turn, and at its end
module _ (lengths : List ℕ) {made first : Trains} (new : ranges_left made ≡ ranges 0 lengths) (same : first ≡ made) where
  all : YieldsList (YieldsFirst ranges_left) (λ x. x) first (ranges 0 lengths)
  all = YieldsList-from_first (λ x. x) ranges_left (ranges 0 lengths) (ap ranges_left same ∙ new)

  module _ (passed : List (Range ℕ)) (now : Trains) (so_far : Yields (YieldsFirst ranges_left) first passed now)
      {r : Option (Range ℕ)} (later : Trains) (next : YieldsFirst ranges_left now r later) where
    pub train_turn : {cars : Range ℕ} → r ≡ Some cars → Stands lengths passed cars
    train_turn {cars} e =
        let turn = YieldsList-turn all passed now so_far r later cars e next in
        stands-at lengths passed cars cars turn.0 turn.1

    -- all are passed, with all cars
    pub trains_end : r ≡ None → (length lengths ≤ length passed) × (reached lengths passed ≡ sum lengths)
    trains_end e = all-reached lengths passed (YieldsList-end all passed now so_far r later e next).1

-- the same of a loop that numbers the trains, from 0
module _ (lengths : List ℕ) {made : Trains} {numbered first : Enumerate Trains} (new : ranges_left made ≡ ranges 0 lengths)
    (source : enumerate_source numbered ≡ made) (count : enumerate_count numbered ≡ 0) (same : first ≡ numbered) where
  every : YieldsList {B = ℕ × Range ℕ} (enumerate_steps (YieldsFirst ranges_left)) (λ p. (p.0, p.1)) first (enumerate_from 0 (ranges 0 lengths))
  every =
      YieldsList-from_enumerate
      (YieldsList-from_first (λ x. x) ranges_left (ranges 0 lengths) (ap (λ (s : Enumerate Trains). ranges_left (enumerate_source s)) same ∙ (ap ranges_left source ∙ new)))
      (ap enumerate_count same ∙ count)

  -- no number is too large for the machine
  pub numbers_fit : length lengths < 2 ^ 64 → enumerate_count first + length (ranges_left (enumerate_source first)) < 2 ^ 64
  numbers_fit l =
      let left = ap (λ (s : Enumerate Trains). length (ranges_left (enumerate_source s))) same ∙ (ap (λ (s : Trains). length (ranges_left s)) source ∙ (ap length new ∙ range-length 0 lengths)) in
      omega (arith, left, ap enumerate_count same ∙ count)

  module _ (passed : List (ℕ × Range ℕ)) (now : Enumerate Trains) (so_far : Yields (enumerate_steps (YieldsFirst ranges_left)) first passed now)
      {r : Option (ℕ × Range ℕ)} (later : Enumerate Trains) (next : enumerate_steps (YieldsFirst ranges_left) now r later) where
    pub numbered_turn : {t : ℕ} {cars : Range ℕ} → r ≡ Some (t, cars) → (t ≡ length passed) × Stands lengths passed cars
    numbered_turn {t} {cars} e =
        let turn = YieldsList-turn every passed now so_far r later (t, cars) e next in
        let more : length passed < length (ranges 0 lengths) = omega (arith, turn.0, length-enumerate_from 0 (ranges 0 lengths)) in
        let is = turn.1 ∙ get_or-enumerate_from 0 (ranges 0 lengths) (length passed) (t, cars) more in (
          ap (λ (p : ℕ × Range ℕ). p.0) is ∙ zero-add (length passed),
          stands-at lengths passed cars cars more (ap (λ (p : ℕ × Range ℕ). p.1) is),
        )

    pub numbered_end : r ≡ None → (length lengths ≤ length passed) × (reached lengths passed ≡ sum lengths)
    numbered_end e =
        all-reached lengths passed
        ((YieldsList-end every passed now so_far r later e next).1 ∙ length-enumerate_from 0 (ranges 0 lengths))
