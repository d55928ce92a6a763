-- The parts of a derivation: what is asked of a night first, and what the plan then answers and writes.
use Rattle.std.specs.Prelude.{ℕ, ◌+◌, ◌*◌, ◌-◌, ◌≤◌, ◌≡◌, Bool, List, [], ◌∷◌, map, length, take}
use Rattle.yard.specs.declared.Answer.{Answer}
use Rattle.yard.specs.declared.Limits.{Limits}
use Rattle.yard.specs.Limits.{limits}
use Rattle.yard.specs.Words.{tally}
use Rattle.yard.specs.Codes.{F}
use Rattle.yard.specs.Night.{Night, Plan, night_of, cars, breaks_before}
use Rattle.yard.specs.Replay.{passes}
use Rattle.yard.specs.Derived.{steps_needed}
use Rattle.yard.specs.Demands.{Within, Listed}
use Rattle.yard.specs.Answers.{says, verdict, written, answers, buffer_ask, limit_test, room_test}
use Rattle.yard.specs.Calls.{opening}
use Rattle.scan.specs.Front.{Under}
use Rattle.sorting.specs.Sums.{set_below}
use Rattle.sorting.specs.Worked.{full_test}

-- the tests 1 to 4 of a call that keeps to these limits: those with which every call begins, and the buffer
abbrev pub first_tests : Limits → Night → ℕ → ℕ → List Answer
first_tests L n limit size = answers (opening L n limit [] (buffer_ask 3 (length n.inbound) size ∷ []))

-- what is asked of a night before its breaks are counted into a list of this size
pub record Needy (lengths inbound : List ℕ) (W size : ℕ) : Type 0 where
  pub lists : Listed lengths inbound
  pub cars : Within 1 limits.cars (length inbound)
  pub tracks : Within 1 limits.tracks W
  pub room : length inbound ≤ size

-- what is asked before each number is given its allowed code by a table of this size: there is a code for each, and room for all usable codes
pub record Giveable (closed : Bool) (W h size : ℕ) (numbers : List ℕ) : Type 0 where
  pub tracks : Within 1 limits.tracks W
  pub steps : h ≤ limits.steps
  pub room : F W h ≤ size
  pub below : Under (F W h - tally closed) numbers

-- the fewest steps of a night, whatever its room, with at most two usable codes for each car, and the breaks before each car, by car
pub record Needs (lengths inbound : List ℕ) (closed : Bool) (tracks r : ℕ) (after : List ℕ) : Type 0 where
  pub steps : (room : ℕ) → r ≡ steps_needed (night_of lengths inbound closed tracks room)
  pub few : F tracks r ≤ 2 * limits.cars
  pub listed : take (length inbound) after ≡ map (breaks_before lengths inbound) (cars (length inbound))

-- 6, or else the steps and the passes, worked out from the codes
abbrev pub settled : ℕ → ℕ → List ℕ → Answer
settled room steps codes =
    verdict (full_test room steps codes ∷ []) (says 0 steps (length codes + set_below steps codes))

pub record Settles (room steps : ℕ) (derived before : List ℕ) (r : Answer) (after : List ℕ) : Type 0 where
  pub answer : r ≡ settled room steps derived
  pub codes : after ≡ written r derived before

-- 5, 6, or else the steps and the passes, of a plan of a night that needs so many steps
abbrev pub planned : Plan → ℕ → ℕ → Answer
planned p needed limit = verdict (limit_test needed limit ∷ room_test p ∷ []) (says 0 p.steps (passes p p.steps))

pub record Planned (p : Plan) (needed limit : ℕ) (before : List ℕ) (r : Answer) (after : List ℕ) : Type 0 where
  pub answer : r ≡ planned p needed limit
  pub codes : after ≡ written r p.codes before
