-- Replay to a stage, from test to test: what the call has learnt so far, and what its answer and its two buffers then are.
use mathlib.Core.Path.{◌≡◌, refl, sym, ap, ◌∙◌}
use mathlib.Core.List.{List, [], ◌∷◌, ◌++◌, map}
use Prim.Native.Nat.{ℕ, ◌+◌, ◌≤◌, ◌<◌}
use lib.Dec.{leb}
use lib.ListN.{length}
use borrow.Author.Tests.{leb-true}
use Rattle.yard.specs.declared.Answer.{Answer}
use Rattle.yard.specs.Limits.{limits}
use Rattle.yard.specs.Night.{Plan, cars}
use Rattle.yard.specs.Replay.{passes}
use Rattle.yard.specs.Demands.{Listed, NeverEarly}
use Rattle.yard.specs.Answers.{says, verdict, onto, count_test, list_test, code_test, zero_test, early_test, room_test}
use Rattle.yard.specs.Calls.{night_counts, replay_answer, car_tracks, car_places, Replays}
use Rattle.yard.proofs.calls.Verdict.{passed-append, verdict-passes, stops, goes_on, stops-all, goes-on-all, written-accepted, written-refused}
use Rattle.yard.proofs.calls.Tests.{count-passed, list-passed}
use Rattle.yard.proofs.yards.Plans.{early-passed, range-once}
use Rattle.yard.proofs.yards.PlanYard.{track-target, place-target}
use Rattle.yard.proofs.yards.EarlySearch.{early-test}
use Rattle.sorting.specs.Sums.{set_below}
use Rattle.order.specs.Order.{sorted_to}
use Rattle.order.proofs.Keys.{sorted_to-is}
use Rattle.stage.specs.Stages.{track_by, place_by}
use Rattle.sound.proofs.Replayed.{sound-is}
use Rattle.plans.specs.Worked.{placed_tests, Placeable, Placed}
use Rattle.plans.proofs.Stages.{by-car-same}
use Rattle.plans.proofs.Replayed.{passes-is}
use Rattle.plans.proofs.Chain.{Tested, same_number, given, sound, Counts, counts-passed, given-passed, counted}

module _ (p : Plan) (f : Listed p.night.lengths p.night.inbound) (pos : 0 < p.night.tracks) (never : NeverEarly p) (s : ℕ) (upto : s ≤ p.steps) where
  -- the track that the code and the train give is that of the replay, and so is the place
  track : ℕ → ℕ
  track = track_by p.night.lengths p.codes p.night.tracks p.steps s

  tracks-are : map track (cars (length p.night.inbound)) ≡ car_tracks p s
  unfolding track car_tracks
  tracks-are = by-car-same _ _ (length p.night.inbound) (λ car w. sym (track-target p f pos never s upto car w))

  places-are : map (place_by (sorted_to p.codes p.night.inbound s) track) (cars (length p.night.inbound)) ≡ car_places p s
  unfolding track car_places
  places-are =
      by-car-same _ _ (length p.night.inbound)
      (λ car w.
      ap (λ (l : List ℕ). place_by l track car) (sorted_to-is p.codes p.night.inbound s) ∙ sym (place-target p f pos never s upto car w))

module _ (p : Plan) (stage : ℕ) (on at : List ℕ) where
  abbrev placed : List Answer
  placed = placed_tests p.night.lengths p.night.inbound p.codes (length on) (length at)

  abbrev replayed : Answer
  replayed = replay_answer limits p stage (length on) (length at)

  abbrev pub Ready : Type 0
  Ready = Placeable p.night.lengths p.night.inbound p.codes p.night.tracks p.steps stage on at

  plan-tests : List Answer
  plan-tests = code_test p.steps p.codes ∷ zero_test p.night.closed p.codes ∷ early_test p ∷ room_test p ∷ []

  done : Answer
  done = says 0 (passes p stage) 0

  worked-done : Answer
  worked-done = says 0 (length p.codes + set_below stage p.codes) 0

  -- a refusal leaves both buffers as they were
  refused : {r : Answer} → (r.number ≡ 0 → ⊥) → r ≡ replayed → Replays p stage on at r on at
  refused n e =
      let no : replayed.number ≡ 0 → ⊥ = λ z. n (same_number e ∙ z) in
      record {
        answer = e;
        tracks = sym (written-refused replayed (car_tracks p stage) on no);
        places = sym (written-refused replayed (car_places p stage) at no);
      }

  -- what the lists and buffers have passed
  ready : Counts p → stage ≤ p.steps → {r : Answer} → Tested placed r → r.number ≡ 0 → Ready
  ready w upto is z =
      let n = length p.night.inbound in
      let all = ((verdict-passes placed (says 0 0 0)).0 (sym (same_number is) ∙ z)).0 in
      let parts = (passed-append (given p) (list_test 4 (leb n (length on)) ∷ list_test 5 (leb n (length at)) ∷ [])).0 all in
      let g = given-passed p refl ((verdict-passes (given p) (says 0 0 0)).1 (parts.0, refl)) in
      record {
        counted = counted p w g.1;
        lists = g.0;
        tracks = w.tracks;
        upto = upto;
        steps = w.steps.1;
        room_on = leb-true n (length on) ((list-passed 4 (leb n (length on))).0 parts.1.0);
        room_at = leb-true n (length at) ((list-passed 5 (leb n (length at))).0 parts.1.1.0);
      }

  -- the tests from 7 on, worked out from the codes
  worked-replay : Ready → verdict (sound p) worked-done ≡ verdict plan-tests done
  unfolding plan-tests done worked-done
  worked-replay q =
      sound-is p q.lists q.tracks.0 q.counted.each _ _
      (λ formed never. ap (λ (n : ℕ). says 0 n 0) (passes-is p q.lists q.tracks.0 q.counted.each formed never stage q.upto))

  -- codes that passed 8 pull no car early
  sound-never : Ready → {r : Answer} → Tested (sound p) r → r.number ≡ 0 → NeverEarly p
  sound-never q is z =
      let all = ((verdict-passes (sound p) (says 0 0 0)).0 (sym (same_number is) ∙ z)).0 in
      let waits = early-test p q.lists q.tracks.0 q.counted.each in
      (early-passed p (range-once p.night.inbound q.lists.once)).0 (same_number waits ∙ all.1.1.0)

  module _ {r₁ : Answer} (is₁ : Tested (night_counts limits p.night p.steps) r₁) where
    -- an answer that the tests behind the counts give
    behind : r₁.number ≡ 0 → {r : Answer} → r ≡ verdict (count_test 6 0 p.steps stage ∷ (placed ++ plan-tests)) done → r ≡ replayed
    unfolding plan-tests done replay_answer
    behind z {r} is = goes-on-all (night_counts limits p.night p.steps) (count_test 6 0 p.steps stage ∷ (placed ++ plan-tests)) done r₁ is₁ r z is

    pub replay-counts : (r₁.number ≡ 0 → ⊥) → Replays p stage on at r₁ on at
    unfolding plan-tests done replay_answer
    replay-counts n =
        refused n (stops-all (night_counts limits p.night p.steps) (count_test 6 0 p.steps stage ∷ (placed ++ plan-tests)) done r₁ is₁ n)

    module _ (z₁ : r₁.number ≡ 0) {r₂ : Answer} (is₂ : r₂ ≡ count_test 6 0 p.steps stage) where
      pub replay-stage : (r₂.number ≡ 0 → ⊥) → Replays p stage on at r₂ on at
      replay-stage n = refused n (behind z₁ (stops (count_test 6 0 p.steps stage) (placed ++ plan-tests) done r₂ is₂ n))

      -- an answer that the tests behind the stage give
      past : r₂.number ≡ 0 → {r : Answer} → r ≡ verdict (placed ++ plan-tests) done → r ≡ replayed
      past z₂ {r} is = behind z₁ (goes_on (count_test 6 0 p.steps stage) (placed ++ plan-tests) done r₂ is₂ r z₂ is)

      module _ (z₂ : r₂.number ≡ 0) {r₃ : Answer} (is₃ : Tested placed r₃) where
        pub replay-given : (r₃.number ≡ 0 → ⊥) → Replays p stage on at r₃ on at
        replay-given n = refused n (past z₂ (stops-all placed plan-tests done r₃ is₃ n))

        module _ (z₃ : r₃.number ≡ 0) where
          pub replay-ready : Ready
          replay-ready = ready (counts-passed p is₁ z₁) ((count-passed 6 0 p.steps stage).0 (sym (same_number is₂) ∙ z₂)).1 is₃ z₃

          rest : {r : Answer} → r ≡ verdict (sound p) worked-done → r ≡ replayed
          rest {r} is = past z₂ (goes-on-all placed plan-tests done r₃ is₃ r z₃ (is ∙ worked-replay replay-ready))

          module _ {r₄ : Answer} (is₄ : Tested (sound p) r₄) where
            pub replay-sound : (r₄.number ≡ 0 → ⊥) → Replays p stage on at r₄ on at
            replay-sound n = refused n (rest (stops-all (sound p) [] worked-done r₄ is₄ n))

            pub replay-stood : r₄.number ≡ 0 → {r : Answer} → r ≡ says 0 (length p.codes + set_below stage p.codes) 0 → {on₁ at₁ : List ℕ} →
                Placed p.night.lengths p.night.inbound p.codes p.night.tracks p.steps stage on at on₁ at₁ →
                Replays p stage on at r on₁ at₁
            unfolding worked-done track
            replay-stood z₄ {r} is stood =
                let q = replay-ready in
                let never = sound-never q is₄ z₄ in
                let e = rest (goes-on-all (sound p) [] worked-done r₄ is₄ r z₄ is) in
                let zero : replayed.number ≡ 0 = sym (same_number e) ∙ same_number is in
                record {
                  answer = e;
                  tracks =
                      stood.tracks.listed ∙
                      (ap (λ (l : List ℕ). onto l on) (tracks-are p q.lists q.tracks.0 never stage q.upto) ∙
                      sym (written-accepted replayed (car_tracks p stage) on zero));
                  places =
                      stood.places.listed ∙
                      (ap (λ (l : List ℕ). onto l at) (places-are p q.lists q.tracks.0 never stage q.upto) ∙
                      sym (written-accepted replayed (car_places p stage) at zero));
                }
