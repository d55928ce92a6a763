-- The fewest passes for a given number of steps: what the call finds, asks and answers.
use Rattle.std.specs.Prelude.{ℕ, ◌≤◌, ◌<◌, ◌≡◌, List, [], ◌∷◌, leb, length}
use Rattle.yard.specs.declared.Answer.{Answer}
use Rattle.yard.specs.declared.Limits.{Limits}
use Rattle.yard.specs.Limits.{first_limits}
use Rattle.yard.specs.Night.{Night, Plan, item_of}
use Rattle.yard.specs.Replay.{passes}
use Rattle.yard.specs.Derived.{steps_needed}
use Rattle.yard.specs.Demands.{Within, Sorts}
use Rattle.yard.specs.Answers.{says, verdict, written, Ask, answers, least_of, buffer_ask, room_ask}
use Rattle.yard.specs.Calls.{opening, DeriveGiven}

-- the plan of a night in h steps, by these codes
abbrev pub plan_in : Night → ℕ → List ℕ → Plan
plan_in n h codes = record { night = n; steps = h; codes = codes }

-- there are codes of h steps that sort the night's cars
pub record SortedIn (n : Night) (h : ℕ) : Type 0 where
  pub codes : List ℕ
  pub sorts : Sorts (plan_in n h codes)

-- one list of codes comes before another: at the first car where they differ its code is the smaller one
pub record Before (these those : List ℕ) : Type 0 where
  pub car : ℕ
  pub within : Within 1 (length those) car
  pub alike : (j : ℕ) → 1 ≤ j → j < car → item_of these j ≡ item_of those j
  pub smaller : item_of these car < item_of those car

-- The codes of h steps with the fewest passes: their plan sorts the night's cars; no plan of this night and h that does has fewer
-- roll-ins, counted one by one in its replay; and of those with as few none comes before them.
pub record FewestPasses (n : Night) (h : ℕ) (codes : List ℕ) : Type 0 where
  pub sorts : Sorts (plan_in n h codes)
  pub fewest : (others : List ℕ) → Sorts (plan_in n h others) → passes (plan_in n h codes) h ≤ passes (plan_in n h others) h
  pub smallest : (others : List ℕ) → Sorts (plan_in n h others) → passes (plan_in n h others) h ≡ passes (plan_in n h codes) h → Before others codes → ⊥

-- 5: no codes of h steps sort the night's cars, A the least h for which some do
abbrev pub steps_ask : Night → ℕ → Ask
steps_ask n h = least_of 5 (leb (steps_needed n) h) (steps_needed n) (SortedIn n h) (SortedIn n)

-- The call: a night, h, and a lent buffer for the codes, of which only the size counts; 6 speaks of the codes found.
abbrev pub fewest_own : Night → ℕ → List ℕ → ℕ → List Ask
fewest_own n h codes size =
    buffer_ask 3 (length n.inbound) size ∷
    steps_ask n h ∷
    room_ask (plan_in n h codes) ∷
    []

abbrev pub fewest_asks : Limits → Night → ℕ → List ℕ → ℕ → List Ask
fewest_asks L n h codes size = opening L n h [] (fewest_own n h codes size)

unfoldable pub fewest_answer : Limits → Night → ℕ → List ℕ → ℕ → Answer
fewest_answer L n h codes size = verdict (answers (fewest_asks L n h codes size)) (says 0 h (passes (plan_in n h codes) h))

-- What the call promises: it has found codes, and its answer, and the lent buffer as it was and as it is, are told of them. They are those
-- with the fewest passes wherever its tests 1 to 4 are passed and any codes of h steps sort; else it refuses before it looks at them.
pub record FindsFewest (n : Night) (h : ℕ) (before : List ℕ) (r : Answer) (after : List ℕ) : Type 0 where
  pub found : List ℕ
  pub fewest : DeriveGiven first_limits n h (length before) → SortedIn n h → FewestPasses n h found
  pub answer : r ≡ fewest_answer first_limits n h found (length before)
  pub codes : after ≡ written r found before
