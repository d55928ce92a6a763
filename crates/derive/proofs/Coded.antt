-- Laws of the codes given by number of breaks: the fewest steps have a code for each, and the codes given are those of the derived plan.
use mathlib.Core.Path.{◌≡◌, ap, ap₂, ◌∙◌}
use mathlib.Core.Bool.{Bool}
use mathlib.Core.List.{List, ◌++◌, map, map-map}
use Prim.Native.Nat.{ℕ, ◌+◌, ◌-◌, ◌≤◌, ◌<◌}
use native.Mathlib.Omega.{arith}
use lib.ListN.{length, take, length-append}
use lib.Seq.{take_at}
use Rattle.yard.specs.Limits.{limits}
use Rattle.yard.specs.Words.{tally}
use Rattle.yard.specs.Night.{Night, cars, breaks_before}
use Rattle.yard.specs.Codes.{F, code_number, fewest_steps}
use Rattle.yard.specs.Derived.{steps_needed, derived_codes}
use Rattle.yard.specs.Demands.{Listed}
use Rattle.yard.specs.Calls.{DeriveGiven}
use Rattle.yard.proofs.yards.DerivedPlan.{map-item, length-by-car, derived-length, breaks-fit}
use Rattle.scan.specs.Front.{Under}
use Rattle.breaks.specs.Numbers.{Numbers}
use Rattle.codes.proofs.Steps.{fewest-few}
use Rattle.derive.specs.Plans.{Needy, Needs}

module _ (lengths inbound : List ℕ) (closed : Bool) (tracks : ℕ) where
  pub needs-all : {m more r : ℕ} {list : List ℕ} → Numbers lengths inbound m list → more ≡ tally closed → m + more ≤ limits.cars
      → r ≡ fewest_steps tracks (m + more) → Needs lengths inbound closed tracks r list
  unfolding steps_needed
  needs-all {m} {more} k one l e =
      record {
        steps = λ room. e ∙ ap₂ (λ (c d : ℕ). fewest_steps tracks (c + d)) k.most one;
        few = omega (arith, ap (F tracks) e, fewest-few tracks (m + more) limits.cars (omega arith) l);
        listed = k.listed;
      }

-- a night whose tests were passed has what its breaks ask
pub given-needy : (n : Night) {limit size room : ℕ} → DeriveGiven limits n limit size → length n.inbound ≤ room
    → Needy n.lengths n.inbound n.tracks room
given-needy n g l = record { lists = g.given.lists; cars = g.given.counts.cars; tracks = g.given.counts.tracks; room = l }

module _ (n : Night) (f : Listed n.lengths n.inbound) (pos : 0 < n.tracks) where
  module _ {steps : ℕ} {list : List ℕ} (k : Needs n.lengths n.inbound n.closed n.tracks steps list) where
    needed : steps ≡ steps_needed n
    needed = k.steps n.room

    number : ℕ → ℕ
    number = breaks_before n.lengths n.inbound

    -- there is an allowed code for each number
    pub numbers-below : Under (F n.tracks steps - tally n.closed) (take (length n.inbound) list)
    unfolding number
    numbers-below =
        rw k.listed
        (λ i l.
        let car : i < length n.inbound = omega (arith, length-by-car number (length n.inbound)) in
        omega (
          arith,
          map-item number 1 (length n.inbound) i car,
          breaks-fit n f pos (1 + i) (omega arith, omega arith),
          ap (F n.tracks) needed,
        ))

    pub coded : map (code_number n.closed n.tracks steps) (take (length n.inbound) list) ≡ derived_codes n
    unfolding derived_codes number
    coded =
        rw k.listed
        (map-map (code_number n.closed n.tracks steps) number (cars (length n.inbound)) ∙
        ap (λ (h : ℕ). map (λ car. code_number n.closed n.tracks h (number car)) (cars (length n.inbound))) needed)
