-- Laws of the lists in car order: the place of each car, and the breaks before it, train by train.
use mathlib.Core.Path.{◌≡◌, sym, ap, ap₂, ◌∙◌}
use mathlib.Core.Logic.{⊎_elim}
use mathlib.Core.List.{List, map}
use Prim.Native.Nat.{ℕ, suc, ◌+◌, ◌-◌, max, ◌≤◌, ◌<◌}
use native.Mathlib.Numerals.{add-one, one-add}
use native.Mathlib.Omega.{arith}
use lib.Dec.{ltb}
use lib.ListN.{length, get_or, take, set}
use lib.Seq.{get_or-take, length-take-le, get_or-set_same, get_or-set_other, ext_get_or}
use borrow.Author.Count.{below_more}
use Rattle.yard.specs.Words.{tally, most, place, up_from}
use Rattle.yard.specs.Night.{cars, item_of, broken, breaks, breaks_in, breaks_before}
use Rattle.yard.specs.Demands.{Within, Listed}
use Rattle.yard.proofs.general.Numbers.{le-or-lt}
use Rattle.yard.proofs.general.Lists.{total-same, up_from-bounds}
use Rattle.yard.proofs.yards.Codes.{total-last}
use Rattle.yard.proofs.yards.Counting.{length-passing}
use Rattle.yard.proofs.yards.Trains.{item_of-suc, first_car-suc, breaks_before-train}
use Rattle.yard.proofs.yards.DerivedPlan.{map-item, by-car, length-by-car}
use Rattle.scan.proofs.Running.{tally-most, most-suc}
use Rattle.trains.specs.Walk.{Walked, Ends}
use Rattle.trains.specs.Turned.{turned}
use Rattle.trains.proofs.Walk.{walked_all, train-here}
use Rattle.scan.specs.Front.{Front}
use Rattle.scan.proofs.Front.{front-item}
use Rattle.breaks.specs.Numbers.{turns, Train, Numbers}

-- ---- places

-- the list has the place of each car
abbrev pub Places : List ℕ → List ℕ → Type 0
Places inbound places = (j : ℕ) → Within 1 (length inbound) j → item_of places j ≡ place j inbound

pub places-by-car : (inbound : List ℕ) {before places : List ℕ} →
    Front (map (λ car. place car inbound) (cars (length inbound))) before (length inbound) places → Places inbound places
places-by-car inbound front j w = front-item front (j - 1) (omega arith) ∙ by-car (λ car. place car inbound) (length inbound) j w

-- ---- one train

module _ (places : List ℕ) (b : ℕ) (before : List ℕ) where
  pub train-next : {e r s : ℕ} {into : List ℕ} → s ≡ r + tally (turned places e) → e < length into → Train places b e before r into
      → Train places b (e + 1) before s (set into e s)
  train-next {e} {r} {s} {into} more m t =
      record {
        breaks = counted ∙ ap (turns places (suc b)) again;
        fewer = omega (arith, t.fewer, tally-most (turned places e));
        car =
            below_more _ _
            (λ i l far. get_or-set_other into e i s 0 (λ q. omega arith) ∙ t.car i l far)
            (λ far. get_or-set_same into e s 0 m ∙ counted);
        stays = λ i l. get_or-set_other into e i s 0 (λ q. omega (arith, t.fewer)) ∙ t.stays i l;
      }
    where
      again : e - b ≡ e + 1 - suc b
      again = omega arith

      counted : s ≡ turns places (suc b) (e - b)
      counted =
          let last : e - b ≡ suc (e - suc b) = omega (arith, t.fewer) in
          let here : suc b + (e - suc b) ≡ e = omega (arith, t.fewer) in
          omega (
            arith,
            t.breaks,
            ap (turns places (suc b)) last,
            total-last (λ k. tally (turned places k)) (suc b) (e - suc b),
            ap (λ (j : ℕ). tally (turned places j)) here,
          )

-- ---- all trains

-- the first b cars have the breaks before them
abbrev pub Numbered : List ℕ → List ℕ → List ℕ → ℕ → Type 0
Numbered lengths inbound into b = (i : ℕ) → i < b → get_or into i 0 ≡ breaks_before lengths inbound (suc i)

-- the first t trains: their cars, the most breaks in one, and the breaks before each car
pub record Counted (lengths inbound : List ℕ) (t m b : ℕ) (into : List ℕ) : Type 0 where
  pub walked : Walked lengths t b
  pub largest : m ≡ most (breaks_in lengths inbound) (up_from 1 t)
  pub few : m ≤ length inbound - 1
  pub listed : Numbered lengths inbound into b

module _ (lengths inbound : List ℕ) (f : Listed lengths inbound) where
  pub counted-all : {t m b : ℕ} {into : List ℕ} → length lengths ≤ t → length inbound ≤ length into →
      Counted lengths inbound t m b into → Numbers lengths inbound m into
  counted-all {t} {m} {b} {into} l room c =
      record {
        most = c.largest ∙ ap (λ (k : ℕ). most (breaks_in lengths inbound) (up_from 1 k)) last;
        few = c.few;
        listed =
            ext_get_or 0 (take n into) (map g (cars n)) (size ∙ sym (length-by-car g n))
            (λ i l.
            let here : i < n = omega (arith, size) in
            get_or-take n into i 0 here ∙ (c.listed i (omega (arith, whole)) ∙ (ap g (sym (one-add i)) ∙ sym (map-item g 1 n i here))));
      }
    where
      n : ℕ
      n = length inbound

      g : ℕ → ℕ
      g = breaks_before lengths inbound

      size : length (take n into) ≡ n
      size = length-take-le n into room

      last : t ≡ length lengths
      last = omega (arith, c.walked.upto)

      whole : b ≡ n
      whole = walked_all lengths l c.walked ∙ f.adds

  module _ {t m b e : ℕ} {into : List ℕ} (l : t < length lengths) (c : Counted lengths inbound t m b into) (ends : Ends lengths t b e) where
    -- the next train has a car at least, and ends within the night
    pub train-within : (b < e) × (e ≤ length inbound)
    train-within = (
      omega (arith, ends.car, f.nonempty (suc t) (omega arith, l), item_of-suc lengths t),
      omega (arith, ends.within, f.adds),
    )

    turns-breaks : (places : List ℕ) → Places inbound places → (n : ℕ) → b + n < e → turns places (suc b) n ≡ breaks inbound (suc b) n
    turns-breaks places p n q =
        total-same (λ k. tally (turned places k)) (λ k. tally (broken inbound k)) (up_from (suc b) n)
        (λ k among.
        let w = up_from-bounds k (suc b) n among in
        let last = train-within.1 in
        ap tally (ap₂ ltb (p (suc k) (omega arith, omega (arith, w.1))) (p k (omega (arith, w.0), omega (arith, w.1))))) ∙
        sym (length-passing (broken inbound) (suc b) n)

    module _ {r : ℕ} {places after : List ℕ} (p : Places inbound places) (here : Train places b e into r after) where
      breaks-here : r ≡ breaks_in lengths inbound (suc t)
      breaks-here =
          let cars : e - suc b ≡ get_or lengths t 0 - 1 = omega (arith, ends.car) in
          here.breaks ∙
          (turns-breaks places p (e - suc b) (omega (arith, here.fewer)) ∙
          ap₂ (breaks inbound) (ap suc c.walked.held ∙ sym (first_car-suc lengths t)) (cars ∙ ap (λ (n : ℕ). n - 1) (sym (item_of-suc lengths t))))

      listed_here : (i : ℕ) → b ≤ i → i < e → get_or after i 0 ≡ breaks_before lengths inbound (suc i)
      listed_here i far near =
          let d : suc i - suc b ≡ i - b = omega arith in
          let held = sym c.walked.held in
          here.car i near far ∙
          (turns-breaks places p (i - b) (omega arith) ∙
          sym
          (breaks_before-train lengths inbound t (suc i) (train-here lengths l c.walked ends (suc i) (omega arith) (omega arith)) ∙
          ap₂ (breaks inbound) (ap suc held) (ap (λ (k : ℕ). suc i - suc k) held ∙ d)))

      pub counted_next : Counted lengths inbound (t + 1) (max m r) e after
      counted_next =
          record {
            walked = ends.walked;
            largest = rw add-one (omega (arith, c.largest, breaks-here, most-suc (breaks_in lengths inbound) t 1, ap (breaks_in lengths inbound) (one-add t)));
            few = omega (arith, c.few, here.fewer, train-within.1);
            listed = λ i q. ⊎_elim (λ far. listed_here i far q) (λ near. here.stays i near ∙ c.listed i near) (le-or-lt b i);
          }
