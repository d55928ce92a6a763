-- The tests of a plan's replay as the laws let them be worked out, from the lists alone.
use Rattle.std.specs.Prelude.{ℕ, suc, ◌-◌, ◌≤◌, ◌≡◌, List, [], ◌∷◌, ◌++◌, map, leb, eqb, length}
use Rattle.yard.specs.declared.Answer.{Answer}
use Rattle.yard.specs.Limits.{limits}
use Rattle.yard.specs.Words.{place, first}
use Rattle.yard.specs.Night.{cars}
use Rattle.yard.specs.Answers.{says, test, list_test}
use Rattle.yard.specs.Demands.{Within, Listed}
use Rattle.lists.specs.Tests.{list_tests}
use Rattle.scan.specs.Front.{Front}
use Rattle.pairs.specs.Pairs.{unruled_at}
use Rattle.order.specs.Order.{sorted_to}
use Rattle.stage.specs.Stages.{track_by, place_by}

-- 2, 3 and 4: the lists of a plan
abbrev pub given_tests : List ℕ → List ℕ → List ℕ → List Answer
given_tests lengths inbound codes = list_tests lengths inbound ++ (list_test 3 (eqb (length codes) (length inbound)) ∷ [])

-- 9: the lowest car that breaks the rule with the next
abbrev pub first_pair : List ℕ → List ℕ → List ℕ → ℕ
first_pair lengths inbound codes =
    first (unruled_at lengths (map (λ car. place car inbound) (cars (length codes))) codes) (length codes - 1) 1

abbrev pub pair_test : List ℕ → List ℕ → List ℕ → Answer
pair_test lengths inbound codes = test (leb (length codes) (first_pair lengths inbound codes)) (says 9 (suc (first_pair lengths inbound codes)) 0)

-- lists whose counts are within the limits, with one code for each car
pub record Counted (lengths inbound codes : List ℕ) : Type 0 where
  pub trains : Within 1 limits.trains (length lengths)
  pub cars : Within 1 limits.cars (length inbound)
  pub each : length codes ≡ length inbound

-- 2, 3 and 4 with the two buffers of replay to a stage
abbrev pub placed_tests : List ℕ → List ℕ → List ℕ → ℕ → ℕ → List Answer
placed_tests lengths inbound codes on at =
    given_tests lengths inbound codes ++ (list_test 4 (leb (length inbound) on) ∷ list_test 5 (leb (length inbound) at) ∷ [])

-- what is known where each car's track and place can be written
pub record Placeable (lengths inbound codes : List ℕ) (W h stage : ℕ) (on at : List ℕ) : Type 0 where
  pub counted : Counted lengths inbound codes
  pub lists : Listed lengths inbound
  pub tracks : Within 1 limits.tracks W
  pub upto : stage ≤ h
  pub steps : h ≤ limits.steps
  pub room_on : length inbound ≤ length on
  pub room_at : length inbound ≤ length at

-- each car's track and place at a stage, as the order in which the cars then stand gives them, and the rest as it was
pub record Placed (lengths inbound codes : List ℕ) (W h stage : ℕ) (on₀ at₀ on₁ at₁ : List ℕ) : Type 0 where
  pub tracks : Front (map (track_by lengths codes W h stage) (cars (length inbound))) on₀ (length inbound) on₁
  pub places :
      Front (map (place_by (sorted_to codes inbound stage) (track_by lengths codes W h stage)) (cars (length inbound))) at₀ (length inbound) at₁
