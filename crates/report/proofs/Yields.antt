-- What an acceptance by check or derive yields.
use Prim.Native.Nat.{ℕ, ◌≤◌, ◌<◌}
use mathlib.Core.Path.{◌≡◌, refl}
use mathlib.Core.Logic.{inl}
use mathlib.Core.List.{[], ◌∷◌}
use native.Mathlib.Nat.{le_refl, le_trans}
use native.Mathlib.Omega.{arith}
use lib.ListN.{length}
use Rattle.yard.specs.Limits.{limits}
use Rattle.yard.specs.Night.{Night, Plan}
use Rattle.yard.specs.Derived.{derived_plan}
use Rattle.yard.specs.Answers.{says, length_ask, buffer_ask, code_ask}
use Rattle.yard.specs.Calls.{check_answer, GoodPlan, opening}
use Rattle.yard.specs.Card.{card, writer_answer, Writable}
use Rattle.yard.specs.Demands.{Listed, BuildsTrains}
use Rattle.yard.proofs.calls.Asks.{fails-behind}
use Rattle.yard.proofs.Demands.{opening-holds, check-accepts-exactly, derive-accepts-exactly, derive-least}
use Rattle.yard.proofs.CardDemands.{writer-accepts-exactly, writer-refuses-exactly}
use Rattle.yard.proofs.cards.CardCalls.{written-longest}
use Rattle.report.specs.Programs.{derive_as}

-- what a checked plan is known to be
pub record Good (p : Plan) : Type 0 where
  pub cars : length p.night.inbound ≤ limits.cars
  pub trains : length p.night.lengths ≤ limits.trains
  pub listed : Listed p.night.lengths p.night.inbound
  pub builds : BuildsTrains p

module _ (p : Plan) (accepted : (check_answer limits p).number ≡ 0) where
  whole : GoodPlan limits p
  whole = (check-accepts-exactly limits p).0 accepted

  pub checked-good : Good p
  unfolding whole
  checked-good =
      let counts = whole.given.counts in
      record {
        cars = counts.cars.1;
        trains = counts.trains.1;
        listed = whole.given.lists;
        builds = whole.builds;
      }

module _ (n : Night) (derived : (derive_as n).number ≡ 0) where
  writable : (size : ℕ) → length (card (derived_plan n)) ≤ size → Writable limits (derived_plan n) size
  unfolding derived_plan
  writable size fits =
      let asked = (derive-accepts-exactly limits n limits.steps limits.cars).0 derived in
      let counts = asked.given.given.counts in
      let plan = (derive-least limits n limits.steps limits.cars derived).0 in
      let kept = asked.sortable in
      let few = le_trans (plan.least kept.steps kept.codes kept.sorts) kept.within in
      record {
        given =
            record {
              counts = record { cars = counts.cars; trains = counts.trains; tracks = counts.tracks; room = counts.room; steps = (omega arith, few) };
              lists = asked.given.given.lists;
            };
        each = plan.sorts.codes.each;
        below = plan.sorts.codes.below;
        buffer = fits;
      }

  -- the writer accepts the derived plan where the buffer holds its card, refuses it by 4, A 6, where not, and the card is short
  pub derived-writes : (size : ℕ) → length (card (derived_plan n)) ≤ size → (writer_answer limits (derived_plan n) size).number ≡ 0
  derived-writes size fits =
      (writer-accepts-exactly limits (derived_plan n) size).1 (writable size fits)

  pub derived-longest : length (card (derived_plan n)) ≤ 15271
  derived-longest =
      let size = length (card (derived_plan n)) in
      (written-longest (derived_plan n) size (derived-writes size (le_refl size))).0

  pub derived-no-room : (size : ℕ) → size < length (card (derived_plan n)) → writer_answer limits (derived_plan n) size ≡ says 4 6 0
  derived-no-room size short =
      let p = derived_plan n in
      let long = length (card p) in
      let w = writable long (le_refl long) in
      let own = length_ask 3 (length p.codes) (length p.night.inbound) ∷ code_ask p.steps p.codes ∷ [] in
      let held = (opening-holds limits p.night p.steps [] own).1 (w.given, tt, (w.each, (w.below, tt))) in
      (writer-refuses-exactly limits p size 4 6 0 (omega arith)).1
      (fails-behind 4 6 0 (opening limits p.night p.steps [] own) (buffer_ask 6 long size ∷ []) held
      (inl (λ fits. omega (arith, short, fits), refl, (refl, refl))))
