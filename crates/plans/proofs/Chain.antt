-- Check, from test to test: what the call has learnt so far, and what its answer then is.
use mathlib.Core.Path.{◌≡◌, sym, ap, ap₂, ◌∙◌}
use mathlib.Core.List.{List, [], ◌∷◌, ◌++◌}
use Prim.Native.Nat.{ℕ, ◌+◌}
use lib.Dec.{eqb}
use lib.ListN.{length}
use borrow.Author.Tests.{eqb-true}
use Rattle.yard.specs.declared.Answer.{Answer}
use Rattle.yard.specs.Limits.{limits}
use Rattle.yard.specs.Night.{Plan}
use Rattle.yard.specs.Replay.{passes, fullest_pull}
use Rattle.yard.specs.Demands.{InLimits, Listed}
use Rattle.yard.specs.Answers.{says, verdict, list_test, code_test, zero_test, early_test, room_test, order_test}
use Rattle.yard.specs.Calls.{night_tests, night_counts, check_answer, Checks}
use Rattle.yard.proofs.calls.Verdict.{passed-append, verdict-passes, stops-all, goes-on-all}
use Rattle.yard.proofs.calls.Tests.{list-passed}
use Rattle.yard.proofs.yards.Formed.{lists-passed}
use Rattle.intake.proofs.Passed.{counts-within}
use Rattle.sorting.specs.Sums.{set_below, fullest_of}
use Rattle.sound.specs.Worked.{sound_tests}
use Rattle.sound.proofs.Replayed.{sound-is}
use Rattle.plans.specs.Worked.{given_tests, pair_test, Counted}
use Rattle.plans.proofs.Replayed.{order_is}

-- an answer of tests alone, and what is known of it
abbrev pub Tested : List Answer → Answer → Type 0
Tested tests r = r ≡ verdict tests (says 0 0 0)

pub same_number : {r s : Answer} → r ≡ s → r.number ≡ s.number
same_number e = ap (λ (v : Answer). v.number) e

module _ (p : Plan) where
  abbrev pub given : List Answer
  given = given_tests p.night.lengths p.night.inbound p.codes

  abbrev pub sound : List Answer
  sound = sound_tests p.night.closed p.night.tracks p.night.room p.steps p.codes

  abbrev pub Counts : Type 0
  Counts = InLimits limits (length p.night.inbound) (length p.night.lengths) p.night.tracks p.night.room p.steps

  -- what the tests of the codes said of the plan's pulls they say of the plan
  pub sound-of : {h : ℕ} {codes : List ℕ} {r : Answer} → codes ≡ p.codes → h ≡ p.steps →
      Tested (sound_tests p.night.closed p.night.tracks p.night.room h codes) r → Tested sound r
  sound-of c e is = is ∙ ap₂ (λ (h : ℕ) (l : List ℕ). verdict (sound_tests p.night.closed p.night.tracks p.night.room h l) (says 0 0 0)) e c

  -- what is known once the counts have passed, and once the lists have
  pub counts-passed : {r : Answer} → Tested (night_counts limits p.night p.steps) r → r.number ≡ 0 → Counts
  counts-passed is z =
      (counts-within limits (length p.night.inbound) (length p.night.lengths) p.night.tracks p.night.room p.steps).0
      (sym (same_number is) ∙ z)

  pub given-passed : {r : Answer} → Tested given r → r.number ≡ 0 →
      Listed p.night.lengths p.night.inbound × (length p.codes ≡ length p.night.inbound)
  given-passed is z =
      let same = eqb (length p.codes) (length p.night.inbound) in
      let all = ((verdict-passes given (says 0 0 0)).0 (sym (same_number is) ∙ z)).0 in
      let parts = (passed-append (night_tests p.night) (list_test 3 same ∷ [])).0 all in
      ((lists-passed p.night).0 parts.0, eqb-true (length p.codes) (length p.night.inbound) ((list-passed 3 same).0 parts.1.0))

  pub counted : Counts → length p.codes ≡ length p.night.inbound → Counted p.night.lengths p.night.inbound p.codes
  counted w e = record { trains = w.trains; cars = w.cars; each = e }

  pairs : Answer
  pairs = pair_test p.night.lengths p.night.inbound p.codes

  plan-tests : List Answer
  plan-tests = code_test p.steps p.codes ∷ zero_test p.night.closed p.codes ∷ early_test p ∷ room_test p ∷ order_test p ∷ []

  done : Answer
  done = says 0 (passes p p.steps) (fullest_pull p)

  worked-done : Answer
  worked-done = says 0 (length p.codes + set_below p.steps p.codes) (fullest_of p.codes p.steps)

  -- the tests from 7 on, worked out from the lists
  worked-check : Counts → Listed p.night.lengths p.night.inbound → length p.codes ≡ length p.night.inbound →
      verdict (sound ++ (pairs ∷ [])) worked-done ≡ verdict plan-tests done
  unfolding pairs plan-tests done worked-done
  worked-check w f e =
      sound-is p f w.tracks.0 e (verdict (pairs ∷ []) worked-done) (verdict (order_test p ∷ []) done)
      (λ formed never. order_is p f w.tracks.0 e formed never w.cars.0)

  module _ {r₁ : Answer} (is₁ : Tested (night_counts limits p.night p.steps) r₁) where
    -- an answer of the tests behind the counts
    behind : r₁.number ≡ 0 → {r : Answer} → r ≡ verdict (given ++ plan-tests) done → Checks p r
    unfolding plan-tests done check_answer
    behind z {r} is = record { answer = goes-on-all (night_counts limits p.night p.steps) (given ++ plan-tests) done r₁ is₁ r z is }

    pub check-counts : (r₁.number ≡ 0 → ⊥) → Checks p r₁
    unfolding plan-tests done check_answer
    check-counts n = record { answer = stops-all (night_counts limits p.night p.steps) (given ++ plan-tests) done r₁ is₁ n }

    module _ (z₁ : r₁.number ≡ 0) {r₂ : Answer} (is₂ : Tested given r₂) where
      pub check-given : (r₂.number ≡ 0 → ⊥) → Checks p r₂
      check-given n = behind z₁ (stops-all given plan-tests done r₂ is₂ n)

      module _ (z₂ : r₂.number ≡ 0) where
        -- what the tests from 7 on say is the answer
        rest : {r : Answer} → r ≡ verdict (sound ++ (pairs ∷ [])) worked-done → Checks p r
        rest {r} is =
            let w = counts-passed is₁ z₁ in
            let g = given-passed is₂ z₂ in
            behind z₁ (goes-on-all given plan-tests done r₂ is₂ r z₂ (is ∙ worked-check w g.0 g.1))

        module _ {r₃ : Answer} (is₃ : Tested sound r₃) where
          pub check_sound : (r₃.number ≡ 0 → ⊥) → Checks p r₃
          check_sound n = rest (stops-all sound (pairs ∷ []) worked-done r₃ is₃ n)

          pub check-ordered : r₃.number ≡ 0 → {r : Answer} →
              r ≡ verdict (pair_test p.night.lengths p.night.inbound p.codes ∷ [])
              (says 0 (length p.codes + set_below p.steps p.codes) (fullest_of p.codes p.steps)) → Checks p r
          unfolding pairs worked-done
          check-ordered z₃ {r} is = rest (goes-on-all sound (pairs ∷ []) worked-done r₃ is₃ r z₃ is)
