-- What callers learn from the answers of this crate: which counts are not refused.
use mathlib.Core.Path.{◌≡◌, refl}
use mathlib.Core.Logic.{◌↔◌}
use mathlib.Core.List.{List}
use Prim.Native.Nat.{ℕ}
use Rattle.yard.specs.declared.Answer.{Answer}
use Rattle.yard.specs.declared.Limits.{Limits}
use Rattle.yard.specs.Answers.{says, verdict}
use Rattle.yard.specs.Calls.{count_tests}
use Rattle.yard.specs.Demands.{InLimits}
use Rattle.yard.proofs.calls.Verdict.{Passed, verdict-passes}
use Rattle.yard.proofs.calls.Tests.{counts-passed}

-- an answer that only tests is 0 exactly if every test is passed
tests-passed : (tests : List Answer) → ((verdict tests (says 0 0 0)).number ≡ 0) ↔ Passed tests
tests-passed tests =
    let both = verdict-passes tests (says 0 0 0) in
    (λ e. (both.0 e).0, λ p. both.1 (p, refl))

pub counts-within : (L : Limits) (n m W C h : ℕ) → ((verdict (count_tests L n m W C h) (says 0 0 0)).number ≡ 0) ↔ InLimits L n m W C h
counts-within L n m W C h =
    let tests = tests-passed (count_tests L n m W C h) in
    let counts = counts-passed L n m W C h in
    (λ e. counts.0 (tests.0 e), λ w. tests.1 (counts.1 w))
