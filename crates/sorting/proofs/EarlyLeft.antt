-- The search over steps, then cars: what is left of it finds what the whole search finds.
use mathlib.Core.Path.{◌≡◌, sym, ap, ap₂, ◌∙◌}
use mathlib.Core.Bool.{Bool, true, false, cond}
use mathlib.Core.List.{List}
use Prim.Native.Nat.{ℕ, ◌+◌, ◌-◌, ◌≤◌, ◌<◌}
use native.Mathlib.Nat.{sub-zero}
use native.Mathlib.Numerals.{add-one}
use native.Mathlib.Omega.{arith}
use lib.ListN.{length, get_or}
use borrow.Author.Tests.{le-leb, lt-leb}
use Rattle.std.proofs.Common.{Option, Some, None}
use Rattle.yard.specs.Words.{first}
use Rattle.yard.specs.Night.{item_of}
use Rattle.yard.proofs.general.First.{first-hits, first_goes, first_ends}
use Rattle.yard.proofs.calls.Tests.{item-at}
use Rattle.yard.specs.Waiting.{waits, lowest_waiting, some_waits, first_waiting}
use Rattle.sorting.specs.declared.early.EarlyPull.{EarlyPull}
use Rattle.sorting.specs.Early.{early_found}

module _ (W h : ℕ) (codes : List ℕ) where
  -- what is left of the search over the steps, and over the cars at one step
  abbrev pub StepsLeft : ℕ → Type 0
  StepsLeft step = first (some_waits W h codes) (h - step) step ≡ first_waiting W h codes

  abbrev pub CarsLeft : ℕ → ℕ → Type 0
  CarsLeft step i = first (λ car. waits W h (item_of codes car) step) (length codes - i) (i + 1) ≡ lowest_waiting W h codes step

  pub steps-start : StepsLeft 0
  steps-start = ap (λ (n : ℕ). first (some_waits W h codes) n 0) (sub-zero h)

  pub cars-start : (step : ℕ) → CarsLeft step 0
  cars-start step = ap (λ (n : ℕ). first (λ car. waits W h (item_of codes car) step) n 1) (sub-zero (length codes))

  item : (step i : ℕ) (b : Bool) → waits W h (get_or codes i 0) step ≡ b → waits W h (item_of codes (i + 1)) step ≡ b
  item step i b e = ap (λ (x : ℕ). waits W h x step) (ap (λ (k : ℕ). item_of codes k) (add-one i) ∙ item-at codes i) ∙ e

  pub cars-goes : (step i : ℕ) → i < length codes → CarsLeft step i → waits W h (get_or codes i 0) step ≡ false → CarsLeft step (i + 1)
  cars-goes step i m left e = sym (first_goes (λ car. waits W h (item_of codes car) step) (length codes) i (i + 1) m (item step i false e)) ∙ left

  pub steps-goes : (step i : ℕ) → step < h → length codes ≤ i → i ≤ length codes → StepsLeft step → CarsLeft step i → StepsLeft (step + 1)
  steps-goes step i l m n left cars =
      sym (first_goes (some_waits W h codes) h step step l
      (lt-leb (lowest_waiting W h codes step) (length codes)
      (omega (arith, cars, first_ends (λ car. waits W h (item_of codes car) step) (length codes) i (i + 1) m)))) ∙ left

  -- the search finds the first step at which a car waits, and its lowest such car, or nothing
  abbrev at : ℕ → ℕ → Option EarlyPull
  at step car = Some (record { step = step; car = car })

  abbrev found_where : Bool → Option EarlyPull
  found_where b = cond b None (at (first_waiting W h codes) (lowest_waiting W h codes (first_waiting W h codes)))

  pub steps-ends : (step : ℕ) → h ≤ step → StepsLeft step → None ≡ early_found W h codes
  steps-ends step l left =
      sym (ap found_where
      (le-leb h (first_waiting W h codes) (omega (arith, left, first_ends (some_waits W h codes) h step step l))))

  pub found : (step i : ℕ) → step < h → i < length codes → StepsLeft step → CarsLeft step i → waits W h (get_or codes i 0) step ≡ true
      → Some (record { step = step; car = i + 1 }) ≡ early_found W h codes
  found step i l m left cars e =
      let car : i + 1 ≡ lowest_waiting W h codes step =
      sym (first-hits (λ c. waits W h (item_of codes c) step) (length codes) i (i + 1) m (item step i true e)) ∙ cars in
      let first_step : step ≡ first_waiting W h codes =
      sym (first-hits (some_waits W h codes) h step step l (le-leb (lowest_waiting W h codes step) (length codes) (omega arith))) ∙ left in
      ap₂ at first_step (car ∙ ap (λ (k : ℕ). lowest_waiting W h codes k) first_step) ∙
      sym (ap found_where (lt-leb h (first_waiting W h codes) (omega arith)))
