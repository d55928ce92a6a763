-- The tests worked out from the codes say what the tests of the replay say, each where those before it are passed.
use mathlib.Core.Path.{◌≡◌, refl, sym, ap, ap₂, ◌∙◌}
use mathlib.Core.Logic.{⊎_elim}
use mathlib.Core.Bool.{Bool}
use mathlib.Core.List.{List, [], ◌∷◌}
use Prim.Native.Nat.{ℕ, zero, suc, ◌+◌, ◌≤◌, ◌<◌}
use native.Mathlib.Nat.{eq-or-lt_of_le}
use native.Mathlib.Omega.{arith}
use lib.Dec.{leb, ltb}
use lib.ListN.{length}
use borrow.Author.Tests.{le-leb}
use Rattle.yard.specs.declared.Answer.{Answer}
use Rattle.yard.specs.Night.{Plan}
use Rattle.yard.specs.Replay.{pull_size, first_overfull}
use Rattle.yard.specs.Answers.{says, test, verdict, room_test, code_test, zero_test, early_test}
use Rattle.yard.specs.Demands.{Listed, CodesFormed, NeverEarly}
use Rattle.yard.proofs.general.First.{first-le, first-same}
use Rattle.yard.proofs.calls.Verdict.{verdict-after, verdict-refused}
use Rattle.yard.proofs.calls.Rights.{codes-passed}
use Rattle.yard.proofs.yards.Plans.{early-passed, range-once}
use Rattle.yard.proofs.yards.PlanYard.{pull_size-codes}
use Rattle.yard.proofs.yards.EarlySearch.{early-test}
use Rattle.sorting.specs.Sums.{pull_of, first_above}
use Rattle.sorting.specs.Worked.{wait_test, full_test}
use Rattle.sound.specs.Worked.{sound_tests}

-- verdicts that agree behind a test agree
pub verdict-under : (t : Answer) (us vs : List Answer) (x y : Answer) → (t.number ≡ 0 → verdict us x ≡ verdict vs y) → verdict (t ∷ us) x ≡ verdict (t ∷ vs) y
verdict-under t us vs x y e = go t.number refl
  where
    go : (k : ℕ) → t.number ≡ k → verdict (t ∷ us) x ≡ verdict (t ∷ vs) y
    go zero z = verdict-after t us x z ∙ (e z ∙ sym (verdict-after t vs y z))
    go (suc k) z = verdict-refused t us x (λ q. omega arith) ∙ sym (verdict-refused t vs y (λ q. omega arith))

module _ (p : Plan) (f : Listed p.night.lengths p.night.inbound) (pos : 0 < p.night.tracks)
    (each : length p.codes ≡ length p.night.inbound) where
  module _ (formed : CodesFormed p) (never : NeverEarly p) where
    -- 6: the replay overfills a track where more codes name a step than there is room for
    room-full : room_test p ≡ full_test p.night.room p.steps p.codes
    unfolding first_overfull
    room-full =
        ap (λ (k : ℕ). test (leb h k) (says 6 k (pull_size p k))) found ∙
        ⊎_elim
        (λ e. ap (λ (b : Bool). test b (says 6 a (pull_size p a))) (le-leb h a (omega arith)) ∙
        sym (ap (λ (b : Bool). test b (says 6 a (pull_of p.codes a))) (le-leb h a (omega arith))))
        (λ l. ap (λ (n : ℕ). test (leb h a) (says 6 a n)) (pull_size-codes p f formed never a l))
        (eq-or-lt_of_le (within (first-le (λ k. ltb p.night.room (pull_of p.codes k)) h 0)))
      where
        h : ℕ
        h = p.steps

        a : ℕ
        a = first_above p.night.room p.codes h

        found : first_overfull p ≡ a
        found = first-same (λ k. ltb p.night.room (pull_size p k)) (λ k. ltb p.night.room (pull_of p.codes k)) h 0
            (λ k l m. ap (λ (n : ℕ). ltb p.night.room n) (pull_size-codes p f formed never k (omega arith)))

        within : a ≤ 0 + h → a ≤ h
        within l = omega arith

  -- 7, 14, 8 and 6, and what follows
  pub sound-is : (x y : Answer) → (CodesFormed p → NeverEarly p → x ≡ y)
      → verdict (sound_tests p.night.closed p.night.tracks p.night.room p.steps p.codes) x ≡ verdict
      (code_test p.steps p.codes ∷ zero_test p.night.closed p.codes ∷ early_test p ∷ room_test p ∷ []) y
  sound-is x y e =
      verdict-under (code_test p.steps p.codes) (zeros ∷ waits ∷ full ∷ []) (zeros ∷ early_test p ∷ room_test p ∷ []) x y
      (λ c.
      let formed : CodesFormed p = record { each = each; below = (codes-passed p.steps p.codes).0 c } in
      verdict-under zeros (waits ∷ full ∷ []) (early_test p ∷ room_test p ∷ []) x y
      (λ _.
      ap (λ (t : Answer). verdict (t ∷ full ∷ []) x) (sym (early-test p f pos each)) ∙
      verdict-under (early_test p) (full ∷ []) (room_test p ∷ []) x y
      (λ n.
      let never : NeverEarly p = (early-passed p (range-once p.night.inbound f.once)).0 n in
      ap₂ (λ (t d : Answer). verdict (t ∷ []) d) (sym (room-full formed never)) (e formed never))))
    where
      zeros : Answer
      zeros = zero_test p.night.closed p.codes

      waits : Answer
      waits = wait_test p.night.tracks p.steps p.codes

      full : Answer
      full = full_test p.night.room p.steps p.codes
