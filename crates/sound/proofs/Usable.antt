-- Where every code needs no more tracks than there are, the search finds no early pull.
use mathlib.Core.Path.{◌≡◌, ap, ◌∙◌, subst}
use mathlib.Core.Bool.{Bool, true, false, not, ◌&&◌}
use mathlib.Core.List.{List}
use Prim.Native.Nat.{ℕ, suc, ◌+◌, ◌-◌, ◌%◌, ◌^◌, ◌≤◌, ◌<◌}
use native.Mathlib.Omega.{arith}
use lib.Dec.{ltb, eqb}
use lib.ListN.{length, get_or}
use borrow.Author.Tests.{le-leb, lt-leb, ltb-true, ltb-false, eqb-true}
use Rattle.yard.specs.Limits.{limits}
use Rattle.yard.specs.Night.{item_of}
use Rattle.yard.specs.Codes.{usable, fewest_tracks}
use Rattle.yard.specs.Replay.{bit, next_step}
use Rattle.yard.specs.Answers.{says, test}
use Rattle.yard.specs.Demands.{CodesBelow}
use Rattle.yard.proofs.general.Bools.{and_left, and_right, not_so, not-true}
use Rattle.yard.proofs.general.First.{first-none, first-fails}
use Rattle.yard.proofs.calls.Tests.{item-at}
use Rattle.yard.proofs.yards.Early.{Kept, kept-of-gaps}
use Rattle.yard.proofs.yards.Plans.{usable-gaps}
use Rattle.yard.specs.Waiting.{waits, lowest_waiting, some_waits, first_waiting}
use Rattle.codes.proofs.Gap.{usable-fewest}
use Rattle.scan.specs.Front.{Under}
use Rattle.codes.specs.Wider.{wider, first_wider}
use Rattle.sorting.specs.Worked.{wait_test}

-- a car with a usable code waits for no later step on the track of this one
kept-waits : (W h x s : ℕ) → Kept W h x → s < h → waits W h x s ≡ false
kept-waits W h x s kept l =
    not_so (waits W h x s)
    (λ e.
    let free = not (bit s x) in
    let bound = ltb (next_step h x s) h in
    let same = eqb (next_step h x s % W) (s % W) in
    let later = and_right free (bound && same) e in
    kept s l (not-true (bit s x) (and_left free (bound && same) e)) (ltb-true (next_step h x s) h (and_left bound same later))
    (eqb-true (next_step h x s % W) (s % W) (and_right bound same later)))

module _ (W h : ℕ) (codes : List ℕ) (pos : 0 < W) (few : h ≤ limits.steps) (below : CodesBelow h codes) where
  pub code_below : Under (2 ^ h) codes
  code_below i m = subst (λ (x : ℕ). x < 2 ^ h) (item-at codes i) (below (suc i) (omega arith, m))

  module _ (none : length codes ≤ first_wider W codes) where
    item-waits : (s i : ℕ) → s < h → i < length codes → waits W h (get_or codes i 0) s ≡ false
    item-waits s i l m =
        let x = get_or codes i 0 in
        let least = fewest_tracks limits.steps x in
        let narrow : least ≤ W = ltb-false W least (first-none (wider W codes) (length codes) 0 i (omega arith) (omega arith)) in
        let good : usable W h x ≡ true = usable-fewest W h limits.steps x pos (omega arith) few (code_below i m) ∙ le-leb least W narrow in
        kept-waits W h x s (kept-of-gaps W h x pos ((usable-gaps W h x pos).0 good)) l

    car-waits : (s car : ℕ) → s < h → 1 ≤ car → car < 1 + length codes → waits W h (item_of codes car) s ≡ false
    car-waits s car l a b = item-waits s (car - 1) l (omega arith)

    step_waits : (s : ℕ) → s < h → some_waits W h codes s ≡ false
    step_waits s l =
        let past = first-fails (λ car. waits W h (item_of codes car) s) (length codes) 1 (λ car a b. car-waits s car l a b) in
        lt-leb (lowest_waiting W h codes s) (length codes) (omega (arith, past))

    pub never-waits : wait_test W h codes ≡ says 0 0 0
    never-waits =
        let k = first_waiting W h codes in
        let end = first-fails (some_waits W h codes) h 0 (λ s a b. step_waits s (omega arith)) in
        ap (λ (b : Bool). test b (says 8 (lowest_waiting W h codes k) k)) (le-leb h k (omega (arith, end)))
