-- The tests of a replay as the laws let them be worked out from the codes alone.
use Rattle.std.specs.Prelude.{ℕ, List, leb}
use Rattle.yard.specs.declared.Answer.{Answer}
use Rattle.yard.specs.Answers.{says, test}
use Rattle.yard.specs.Waiting.{first_waiting, lowest_waiting}
use Rattle.sorting.specs.Sums.{pull_of, first_above}

-- 8: the first step at which a car waits on the track of a step that its code does not name
abbrev pub wait_test : ℕ → ℕ → List ℕ → Answer
wait_test W h codes = test (leb h (first_waiting W h codes)) (says 8 (lowest_waiting W h codes (first_waiting W h codes)) (first_waiting W h codes))

-- 6: the first step that more codes name than there is room for
abbrev pub full_test : ℕ → ℕ → List ℕ → Answer
full_test C h codes = test (leb h (first_above C codes h)) (says 6 (first_above C codes h) (pull_of codes (first_above C codes h)))
