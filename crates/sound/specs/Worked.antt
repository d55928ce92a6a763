-- The tests that the codes of a plan alone can break, as the laws let them be worked out, from the codes.
use Rattle.std.specs.Prelude.{ℕ, Bool, List, [], ◌∷◌}
use Rattle.yard.specs.declared.Answer.{Answer}
use Rattle.yard.specs.Answers.{code_test, zero_test}
use Rattle.sorting.specs.Worked.{wait_test, full_test}

-- 7, 14, 8 and 6
abbrev pub sound_tests : Bool → ℕ → ℕ → ℕ → List ℕ → List Answer
sound_tests closed W C h codes = code_test h codes ∷ zero_test closed codes ∷ wait_test W h codes ∷ full_test C h codes ∷ []
