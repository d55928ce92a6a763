-- Laws of the editions: what holds of an edition's layout and limits is shown for its two cases here, and cited for any edition.
use Prim.Native.Nat.{ℕ, zero, suc, ◌+◌, ◌*◌, ◌^◌, ◌≤◌, ◌<◌}
use mathlib.Core.Path.{◌≡◌, refl}
use mathlib.Core.Logic.{◌⊎◌, inl, inr}
use mathlib.Core.Bool.{Bool, true, false, cond, not, ◌&&◌}
use native.Mathlib.Omega.{arith}
use lib.Dec.{leb, eqb}
use borrow.Author.Tests.{le-leb, leb-true}
use Rattle.yard.specs.declared.Layout.{Layout}
use Rattle.yard.specs.declared.Limits.{Limits}
use Rattle.yard.specs.Words.{tally}
use Rattle.yard.specs.Limits.{limits, first_limits}
use Rattle.yard.specs.Night.{closed_by, sum}
use Rattle.yard.specs.Demands.{InLimits}
use Rattle.yard.specs.Card.{layout, limits_of, head_widths, fits_first, edition_for}
use Rattle.yard.proofs.calls.Larger.{AtMost, first-at-most, at-most-self, larger-limits}
use Rattle.yard.proofs.general.Bools.{and_left, and_right, not-true}

-- the most bits of a card with this layout, within these limits
abbrev pub most_bits : Layout → Limits → ℕ
most_bits l L = sum (head_widths l) + (L.trains * l.number + L.cars * l.number + L.cars * L.steps)

-- limits that suit a layout: each number within them fits its field, and they are no larger than today's
pub record Suits (l : Layout) (L : Limits) : Type 0 where
  pub mark : l.mark ≤ 1
  pub fits-steps : L.steps < 2 ^ l.steps
  pub fits-tracks : L.tracks < 2 ^ l.tracks
  pub fits-room : L.room < 2 ^ l.room
  pub fits-cars : L.cars < 2 ^ l.cars
  pub fits-trains : L.trains < 2 ^ l.trains
  pub fits-number : L.cars < 2 ^ l.number
  pub larger : AtMost L limits
  pub longest : most_bits l L ≤ 15271 * 8

-- what holds of the two editions holds of any
pub any-edition : (P : Layout → Limits → Type 0) → P (layout 1) (limits_of 1) → P (layout 2) (limits_of 2) → (edition : ℕ) → P (layout edition) (limits_of edition)
unfolding layout limits_of
any-edition P first second edition = go (eqb edition 1)
  where
    go : (b : Bool) → P (cond b (layout 1) (layout 2)) (cond b (limits_of 1) (limits_of 2))
    go true = first
    go false = second

pub edition-suits : (edition : ℕ) → Suits (layout edition) (limits_of edition)
unfolding layout limits_of
edition-suits =
    any-edition Suits
    (record {
      mark = omega arith;
      fits-steps = omega arith;
      fits-tracks = omega arith;
      fits-room = omega arith;
      fits-cars = omega arith;
      fits-trains = omega arith;
      fits-number = omega arith;
      larger = first-at-most;
      longest = omega arith;
    })
    (record {
      mark = omega arith;
      fits-steps = omega arith;
      fits-tracks = omega arith;
      fits-room = omega arith;
      fits-cars = omega arith;
      fits-trains = omega arith;
      fits-number = omega arith;
      larger = at-most-self limits;
      longest = omega arith;
    })

-- edition 1's cards are shorter
pub first-bits : most_bits (layout 1) (limits_of 1) ≤ 1237 * 8
unfolding layout limits_of
first-bits = omega arith

-- an edition allows no count that today's limits don't
pub edition-larger : (edition : ℕ) {n m W C h : ℕ} → InLimits (limits_of edition) n m W C h → InLimits limits n m W C h
edition-larger edition = larger-limits (edition-suits edition).larger

-- ---- the mark as a number

pub mark-back : (closed : Bool) → closed_by (tally closed) ≡ closed
mark-back true = refl
mark-back false = refl

pub mark-again : (mark : ℕ) → mark < 2 → tally (closed_by mark) ≡ mark
mark-again zero few = refl
mark-again (suc zero) few = refl
mark-again (suc (suc mark)) few = absurd (omega arith)

pub tally-few : (closed : Bool) → tally closed < 2
tally-few true = omega arith
tally-few false = omega arith

-- ---- the edition of a plan

-- an open plan whose counts keep to edition 1's limits
pub record FitsFirst (closed : Bool) (n m W C h : ℕ) : Type 0 where
  pub free : closed ≡ false
  pub cars : n ≤ first_limits.cars
  pub trains : m ≤ first_limits.trains
  pub tracks : W ≤ first_limits.tracks
  pub room : C ≤ first_limits.room
  pub steps : h ≤ first_limits.steps

module _ (closed : Bool) (n m W C h : ℕ) where
  few : fits_first n m W C h ≡ true → closed ≡ false → FitsFirst closed n m W C h
  few e free =
      let in_cars = leb n first_limits.cars in
      let in_trains = leb m first_limits.trains in
      let in_tracks = leb W first_limits.tracks in
      let in_room = leb C first_limits.room in
      let in_steps = leb h first_limits.steps in
      let e₁ = and_left (in_cars && in_trains && in_tracks && in_room) in_steps e in
      let e₂ = and_left (in_cars && in_trains && in_tracks) in_room e₁ in
      let e₃ = and_left (in_cars && in_trains) in_tracks e₂ in
      record {
        free = free;
        cars = leb-true n first_limits.cars (and_left in_cars in_trains e₃);
        trains = leb-true m first_limits.trains (and_right in_cars in_trains e₃);
        tracks = leb-true W first_limits.tracks (and_right (in_cars && in_trains) in_tracks e₂);
        room = leb-true C first_limits.room (and_right (in_cars && in_trains && in_tracks) in_room e₁);
        steps = leb-true h first_limits.steps (and_right (in_cars && in_trains && in_tracks && in_room) in_steps e);
      }

  -- such a plan has edition 1
  pub edition-first : FitsFirst closed n m W C h → edition_for closed n m W C h ≡ 1
  unfolding edition_for
  edition-first f =
      rw (
        f.free,
        le-leb n first_limits.cars f.cars,
        le-leb m first_limits.trains f.trains,
        le-leb W first_limits.tracks f.tracks,
        le-leb C first_limits.room f.room,
        le-leb h first_limits.steps f.steps,
      )

  -- edition 1 where the plan is such a one, edition 2 where it is not
  pub edition-cases : (FitsFirst closed n m W C h × (edition_for closed n m W C h ≡ 1)) ⊎ (edition_for closed n m W C h ≡ 2)
  unfolding edition_for
  edition-cases = go (not closed && fits_first n m W C h) refl
    where
      go : (b : Bool) → (not closed && fits_first n m W C h) ≡ b → (FitsFirst closed n m W C h × (cond {A = ℕ} b 1 2 ≡ 1)) ⊎ (cond {A = ℕ} b 1 2 ≡ 2)
      go true e = inl (few (and_right (not closed) (fits_first n m W C h) e) (not-true closed (and_left (not closed) (fits_first n m W C h) e)), refl)
      go false e = inr refl
