-- Larger limits: what smaller ones allow, they allow, too.
use Prim.Native.Nat.{ℕ, ◌≤◌}
use native.Mathlib.Omega.{arith}
use Rattle.yard.specs.declared.Limits.{Limits}
use Rattle.yard.specs.Limits.{limits, first_limits}
use Rattle.yard.specs.Night.{Night}
use Rattle.yard.specs.Demands.{Within, InLimits, Given}
use Rattle.yard.specs.Calls.{DeriveGiven}

-- one is at most the other in each count
pub record AtMost (L M : Limits) : Type 0 where
  pub cars : L.cars ≤ M.cars
  pub trains : L.trains ≤ M.trains
  pub tracks : L.tracks ≤ M.tracks
  pub room : L.room ≤ M.room
  pub steps : L.steps ≤ M.steps
  pub passes : L.passes ≤ M.passes

pub first-at-most : AtMost first_limits limits
first-at-most =
    record { cars = omega arith; trains = omega arith; tracks = omega arith; room = omega arith; steps = omega arith; passes = omega arith }

pub at-most-self : (L : Limits) → AtMost L L
at-most-self L =
    record { cars = omega arith; trains = omega arith; tracks = omega arith; room = omega arith; steps = omega arith; passes = omega arith }

pub within_more : {low high more x : ℕ} → high ≤ more → Within low high x → Within low more x
within_more l w = (w.0, omega (arith, w.1, l))

module _ {L M : Limits} (larger : AtMost L M) where
  pub larger-limits : {n m W C h : ℕ} → InLimits L n m W C h → InLimits M n m W C h
  larger-limits i =
      record {
        cars = within_more larger.cars i.cars;
        trains = within_more larger.trains i.trains;
        tracks = within_more larger.tracks i.tracks;
        room = within_more larger.room i.room;
        steps = within_more larger.steps i.steps;
      }

  pub larger-given : {n : Night} {h : ℕ} → Given L n h → Given M n h
  larger-given g = record { counts = larger-limits g.counts; lists = g.lists }

  pub larger-derive : {n : Night} {limit size : ℕ} → DeriveGiven L n limit size → DeriveGiven M n limit size
  larger-derive g = record { given = larger-given g.given; buffer = g.buffer }
