-- Laws of the answers: the plan's own tests worked out from its codes, and the outcome of derive made of them and of the tests before.
use mathlib.Core.Path.{◌≡◌, refl, sym, ap, ap₂, ◌∙◌}
use mathlib.Core.Logic.{◌⊎◌, inl, inr}
use mathlib.Core.Bool.{Bool, true, false}
use mathlib.Core.List.{List, [], ◌∷◌, ◌++◌}
use Prim.Native.Nat.{ℕ, ◌+◌, ◌≤◌, ◌<◌}
use native.Mathlib.Nat.{le_refl, suc-ne-zero}
use native.Mathlib.Omega.{arith}
use lib.Dec.{leb, ltb}
use lib.ListN.{length, drop}
use borrow.Author.Tests.{le-leb, lt-leb, leb-true}
use Rattle.yard.specs.declared.Answer.{Answer}
use Rattle.yard.specs.declared.Limits.{Limits}
use Rattle.yard.specs.Limits.{limits}
use Rattle.yard.specs.Night.{Night, Plan}
use Rattle.yard.specs.Replay.{passes, pull_size, first_overfull}
use Rattle.yard.specs.Derived.{steps_needed, derived_codes, derived_plan}
use Rattle.yard.specs.Answers.{says, test, verdict, written, list_test, limit_test, room_test}
use Rattle.yard.specs.Calls.{night_counts, night_tests, derive_answer, DeriveGiven, Derives}
use Rattle.yard.specs.Demands.{Listed, Sorts}
use Rattle.yard.proofs.general.Numbers.{le-or-lt}
use Rattle.yard.proofs.general.First.{first-same}
use Rattle.yard.proofs.calls.Verdict.{Passed, passed-append, verdict-append, verdict-nested, verdict-passes, stops-all, goes-on-all, last-is, written-refused}
use Rattle.yard.proofs.calls.Tests.{counts-passed, list-passed}
use Rattle.yard.proofs.yards.Formed.{lists-passed}
use Rattle.yard.proofs.yards.PlanYard.{passes-codes, pull_size-codes}
use Rattle.sorting.specs.Sums.{pull_of, set_below, above, first_above}
use Rattle.derive.specs.Plans.{first_tests, settled, Settles, planned, Planned}

-- ---- the room, worked out from the codes

-- the room and the passes of a plan that pulls no car early are those worked out from its codes
module _ (p : Plan) (f : Listed p.night.lengths p.night.inbound) (sorts : Sorts p) where
  full-codes : first_overfull p ≡ first_above p.night.room p.codes p.steps
  unfolding first_overfull
  full-codes =
      first-same (λ k. ltb p.night.room (pull_size p k)) (above p.night.room p.codes) p.steps 0
      (λ k l m. ap (ltb p.night.room) (pull_size-codes p f sorts.codes sorts.never k (omega arith)))

  passes-set : passes p p.steps ≡ length p.codes + set_below p.steps p.codes
  passes-set =
      passes-codes p f sorts.codes sorts.never p.steps (le_refl p.steps) ∙
      ap (λ (k : ℕ). k + set_below p.steps p.codes) (sym sorts.codes.each)

  settled-plan : settled p.night.room p.steps p.codes ≡ verdict (room_test p ∷ []) (says 0 p.steps (passes p p.steps))
  settled-plan =
      go (length p.codes + set_below steps p.codes) (le-or-lt steps full) ∙
      (ap (λ (k : ℕ). answer_of k (pull_size p k) (length p.codes + set_below steps p.codes)) (sym full-codes) ∙
      ap (answer_of (first_overfull p) (pull_size p (first_overfull p))) (sym passes-set))
    where
      steps : ℕ
      steps = p.steps

      full : ℕ
      full = first_above p.night.room p.codes steps

      answer_of : ℕ → ℕ → ℕ → Answer
      answer_of k cars passed = verdict (test (leb steps k) (says 6 k cars) ∷ []) (says 0 steps passed)

      go : (passed : ℕ) → (steps ≤ full) ⊎ (full < steps) → answer_of full (pull_of p.codes full) passed ≡ answer_of full (pull_size p full) passed
      go passed (inl fits) = rw (le-leb steps full fits) refl
      go passed (inr over) = ap (λ (k : ℕ). answer_of full k passed) (sym (pull_size-codes p f sorts.codes sorts.never full over))

  -- the limit is kept, and the room and the passes are those of its codes
  pub plan-settled : {needed limit steps : ℕ} {before codes after : List ℕ} {r : Answer} → steps ≡ p.steps → codes ≡ p.codes → needed ≤ limit
      → Settles p.night.room steps codes before r after → Planned p needed limit before r after
  plan-settled {needed} {limit} {steps} {before} {codes} {after} {r} same e m s =
      record {
        answer = s.answer ∙ (ap₂ (settled p.night.room) same e ∙ (settled-plan ∙ passed (le-leb needed limit m)));
        codes = s.codes ∙ ap (λ (d : List ℕ). written r d before) e;
      }
    where
      passed : leb needed limit ≡ true → verdict (room_test p ∷ []) (says 0 p.steps (passes p p.steps)) ≡ planned p needed limit
      passed t = rw t refl

-- the limit is not kept
pub plan-refused : (p : Plan) {needed limit steps : ℕ} {before : List ℕ} {r : Answer} → steps ≡ needed → r ≡ says 5 steps 0 → limit < steps
    → Planned p needed limit before r before
plan-refused p {needed} {limit} {steps} {before} {r} same says_so m =
    record {
      answer = says_so ∙ (ap (λ (k : ℕ). says 5 k 0) same ∙ refused (lt-leb needed limit (omega arith)));
      codes = sym (ap (λ (a : Answer). written a p.codes before) says_so);
    }
  where
    refused : leb needed limit ≡ false → says 5 needed 0 ≡ planned p needed limit
    refused e = rw e refl

-- ---- derive

-- the tests 1 to 4: a count is refused, or else the lists and the buffer answer
-- what is asked behind the counts
abbrev behind-counts : Night → ℕ → List Answer
behind-counts n size = night_tests n ++ (list_test 3 (leb (length n.inbound) size) ∷ [])

module _ (L : Limits) (n : Night) (limit size : ℕ) {counted : Answer} (is : counted ≡ verdict (night_counts L n limit) (says 0 0 0)) where
  pub given-counts : (counted.number ≡ 0 → ⊥) → counted ≡ verdict (first_tests L n limit size) (says 0 0 0)
  given-counts h = stops-all (night_counts L n limit) (behind-counts n size) (says 0 0 0) counted is h

  pub given-lists :
      {r : Answer} → counted.number ≡ 0 → r ≡ verdict (verdict (night_tests n) (says 0 0 0) ∷ []) (list_test 3 (leb (length n.inbound) size)) →
      r ≡ verdict (first_tests L n limit size) (says 0 0 0)
  given-lists {r} z e =
      let buffer : Answer = list_test 3 (leb (length n.inbound) size) in
      let last = last-is (leb (length n.inbound) size) (says 4 3 0) (suc-ne-zero 3) in
      goes-on-all (night_counts L n limit) (behind-counts n size) (says 0 0 0) counted is r z
      (e ∙
      (verdict-nested (night_tests n) buffer ∙
      (ap (verdict (night_tests n)) last ∙ sym (verdict-append (night_tests n) (buffer ∷ []) (says 0 0 0)))))

-- passed, they tell what is given
module _ (L : Limits) (n : Night) (limit : ℕ) (before : List ℕ) {given : Answer}
    (is : given ≡ verdict (first_tests L n limit (length before)) (says 0 0 0)) where
  pub given-passed : given.number ≡ 0 → DeriveGiven L n limit (length before)
  given-passed z =
      let counted = (passed-append (night_counts L n limit) (behind-counts n (length before))).0 all in
      let lists = (passed-append (night_tests n) (list_test 3 fits ∷ [])).0 counted.1 in
      record {
        given = record {
          counts = (counts-passed L (length n.inbound) (length n.lengths) n.tracks n.room limit).0 counted.0;
          lists = (lists-passed n).0 lists.0;
        };
        buffer = leb-true (length n.inbound) (length before) ((list-passed 3 fits).0 lists.1.0);
      }
    where
      fits : Bool
      fits = leb (length n.inbound) (length before)

      all : Passed (first_tests L n limit (length before))
      all = ((verdict-passes (first_tests L n limit (length before)) (says 0 0 0)).0 (ap (λ (a : Answer). a.number) (sym is) ∙ z)).0

-- refused, their answer is that of derive; passed, the plan answers
module _ (n : Night) (limit : ℕ) (before : List ℕ) {given : Answer} (is : given ≡ verdict (first_tests limits n limit (length before)) (says 0 0 0)) where
  own-tests : List Answer
  own-tests = limit_test (steps_needed n) limit ∷ room_test (derived_plan n) ∷ []

  done : Answer
  done = says 0 (steps_needed n) (passes (derived_plan n) (steps_needed n))

  pub derive-refused : (given.number ≡ 0 → ⊥) → Derives n limit before given before
  unfolding derive_answer own-tests done
  derive-refused h =
      let same : given ≡ derive_answer limits n limit (length before) = stops-all (first_tests limits n limit (length before)) own-tests done given is h in
      record {
        answer = same;
        codes =
            sym (written-refused (derive_answer limits n limit (length before)) (derived_codes n) before (λ z. h (ap (λ (a : Answer). a.number) same ∙ z)));
      }

  pub derive-planned : {r : Answer} {after : List ℕ} → given.number ≡ 0 → Planned (derived_plan n) (steps_needed n) limit before r after
      → Derives n limit before r after
  unfolding derive_answer derived_plan own-tests done
  derive-planned {r} z p =
      let same : r ≡ derive_answer limits n limit (length before) =
      goes-on-all (first_tests limits n limit (length before)) own-tests done given is r z p.answer in
      record { answer = same; codes = p.codes ∙ ap (λ (a : Answer). written a (derived_codes n) before) same }
