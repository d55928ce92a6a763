-- Laws of the answers: the outcome of the call, made of the tests before and of the plan found.
use mathlib.Core.Path.{◌≡◌, refl, sym, ap, ◌∙◌}
use mathlib.Core.List.{List, [], ◌∷◌}
use Prim.Native.Nat.{ℕ}
use lib.ListN.{length}
use Rattle.yard.specs.declared.Answer.{Answer}
use Rattle.yard.specs.Limits.{first_limits}
use Rattle.yard.specs.Night.{Night}
use Rattle.yard.specs.Replay.{passes}
use Rattle.yard.specs.Derived.{steps_needed}
use Rattle.yard.specs.Answers.{says, verdict, Ask, buffer_ask, limit_test, room_test}
use Rattle.yard.specs.Calls.{DeriveGiven}
use Rattle.yard.proofs.Demands.{opening-sound, first-asks, first-hold}
use Rattle.yard.proofs.calls.Asks.{accepted-exactly}
use Rattle.yard.proofs.calls.Rights.{buffer-right}
use Rattle.yard.proofs.calls.Verdict.{stops-all, goes-on-all, written-refused}
use Rattle.derive.specs.Plans.{first_tests}
use Rattle.derive.proofs.Answered.{given-passed}
use Rattle.fewest.specs.Fewest.{plan_in, fewest_answer, FindsFewest}
use Rattle.fewest.specs.Found.{Found}

-- the tests 1 to 4 are passed where what they ask holds
first-passed : (n : Night) (h size : ℕ) → DeriveGiven first_limits n h size → (verdict (first_tests first_limits n h size) (says 0 0 0)).number ≡ 0
first-passed n h size g =
    let own : List Ask = buffer_ask 3 (length n.inbound) size ∷ [] in
    (accepted-exactly (says 0 0 0) refl (first-asks first_limits n h size)
    (opening-sound first_limits n h [] own tt (λ _. (buffer-right 3 (length n.inbound) size, λ _. tt)))).1 ((first-hold first_limits n h size).1 g)

-- the answer of those tests: refused, it is that of the call; passed, the plan answers
module _ (n : Night) (h : ℕ) (before : List ℕ) {given : Answer}
    (is : given ≡ verdict (first_tests first_limits n h (length before)) (says 0 0 0)) where
  own-tests : List ℕ → List Answer
  own-tests codes = limit_test (steps_needed n) h ∷ room_test (plan_in n h codes) ∷ []

  done : List ℕ → Answer
  done codes = says 0 h (passes (plan_in n h codes) h)

  -- refused by those tests, whatever codes there are
  pub fewest-refused : (given.number ≡ 0 → ⊥) → FindsFewest n h before given before
  unfolding fewest_answer own-tests done
  fewest-refused none =
      record {
        found = [];
        fewest = λ g s. absurd (none (ap (λ (a : Answer). a.number) is ∙ first-passed n h (length before) g));
        answer = stops-all (first_tests first_limits n h (length before)) (own-tests []) (done []) given is none;
        codes = sym (written-refused given [] before none);
      }

  -- passed, so that the plan answers
  pub fewest-given : given.number ≡ 0 → DeriveGiven first_limits n h (length before)
  fewest-given z = given-passed first_limits n h before is z

  pub fewest-found : {r : Answer} {after : List ℕ} → given.number ≡ 0 → Found n h before r after → FindsFewest n h before r after
  unfolding fewest_answer own-tests done
  fewest-found {r} z found =
      record {
        found = found.codes;
        fewest = λ g s. found.fewest s;
        answer =
            goes-on-all (first_tests first_limits n h (length before)) (own-tests found.codes) (done found.codes) given is r z
            found.planned.answer;
        codes = found.planned.codes;
      }
