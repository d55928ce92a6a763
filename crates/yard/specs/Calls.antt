-- The outcome of derive, check and replay to a stage, for every input: what each asks, in document 01's order, then the answer.
use Rattle.std.specs.Prelude.{ℕ, ◌≤◌, ◌≡◌, List, [], ◌∷◌, ◌++◌, map, length}
use Rattle.yard.specs.declared.Answer.{Answer}
use Rattle.yard.specs.declared.Limits.{Limits}
use Rattle.yard.specs.Limits.{limits}
use Rattle.yard.specs.Night.{Night, Plan, cars}
use Rattle.yard.specs.Replay.{passes, fullest_pull, track_of, place_of}
use Rattle.yard.specs.Derived.{steps_needed, derived_codes, derived_plan}
use Rattle.yard.specs.Demands.{Within, Given, CodesBelow, KeepsClear, NeverEarly, HasRoom, BuildsTrains, Sortable}
use Rattle.yard.specs.Answers.{says, verdict, written, Ask, answers, count_ask, train_ask, sum_ask, inbound_ask, length_ask, buffer_ask, limit_ask}
use Rattle.yard.specs.Answers.{room_ask, code_ask, zero_ask, early_ask, order_ask}

-- 1 for the cars, trains, tracks, room and steps (or step limit) of a call; 2 and 3 for its lists
abbrev pub count_asks : Limits → ℕ → ℕ → ℕ → ℕ → ℕ → List Ask
count_asks L n m W C h =
    count_ask 1 1 L.cars n ∷
    count_ask 2 1 L.trains m ∷
    count_ask 3 1 L.tracks W ∷
    count_ask 4 1 L.room C ∷
    count_ask 5 0 L.steps h ∷
    []

abbrev pub list_asks : Night → List Ask
list_asks n = train_ask n.lengths ∷ sum_ask n.lengths (length n.inbound) ∷ inbound_ask n.inbound ∷ []

-- how every call on a night begins: its counts, with more counts of the call's own, then its lists; the call's own asks come behind
abbrev pub opening : Limits → Night → ℕ → List Ask → List Ask → List Ask
opening L n h counts own =
    count_asks L (length n.inbound) (length n.lengths) n.tracks n.room h ++ (counts ++ (list_asks n ++ own))

-- the same as tests, which parts of calls cite
abbrev pub count_tests : Limits → ℕ → ℕ → ℕ → ℕ → ℕ → List Answer
count_tests L n m W C h = answers (count_asks L n m W C h)

abbrev pub night_tests : Night → List Answer
night_tests n = answers (list_asks n)

abbrev pub night_counts : Limits → Night → ℕ → List Answer
night_counts L n h = count_tests L (length n.inbound) (length n.lengths) n.tracks n.room h

-- Derive: a night, a step limit, and a lent buffer for the codes, of which only the size counts.
abbrev pub derive_own : Night → ℕ → ℕ → List Ask
derive_own n limit size =
    buffer_ask 3 (length n.inbound) size ∷
    limit_ask n limit ∷
    room_ask (derived_plan n) ∷
    []

abbrev pub derive_asks : Limits → Night → ℕ → ℕ → List Ask
derive_asks L n limit size = opening L n limit [] (derive_own n limit size)

abbrev pub derive_tests : Limits → Night → ℕ → ℕ → List Answer
derive_tests L n limit size = answers (derive_asks L n limit size)

unfoldable pub derive_answer : Limits → Night → ℕ → ℕ → Answer
derive_answer L n limit size =
    verdict (derive_tests L n limit size) (says 0 (steps_needed n) (passes (derived_plan n) (steps_needed n)))

-- what derive promises: its answer, and the lent buffer as it was and as it is
pub record Derives (n : Night) (limit : ℕ) (before : List ℕ) (r : Answer) (after : List ℕ) : Type 0 where
  pub answer : r ≡ derive_answer limits n limit (length before)
  pub codes : after ≡ written (derive_answer limits n limit (length before)) (derived_codes n) before

-- what derive asks before it looks at the limit; all that it asks
pub record DeriveGiven (L : Limits) (n : Night) (limit size : ℕ) : Type 0 where
  pub given : Given L n limit
  pub buffer : length n.inbound ≤ size

pub record Derivable (L : Limits) (n : Night) (limit size : ℕ) : Type 0 where
  pub given : DeriveGiven L n limit size
  pub sortable : Sortable n limit
  pub room : HasRoom (derived_plan n)

-- what check and replay ask of a plan's codes, in this order
abbrev pub code_asks : Plan → List Ask
code_asks p = code_ask p.steps p.codes ∷ zero_ask p ∷ early_ask p ∷ room_ask p ∷ []

-- Check: a plan.
abbrev pub check_own : Plan → List Ask
check_own p = length_ask 3 (length p.codes) (length p.night.inbound) ∷ (code_asks p ++ (order_ask p ∷ []))

abbrev pub check_asks : Limits → Plan → List Ask
check_asks L p = opening L p.night p.steps [] (check_own p)

abbrev pub check_tests : Limits → Plan → List Answer
check_tests L p = answers (check_asks L p)

unfoldable pub check_answer : Limits → Plan → Answer
check_answer L p = verdict (check_tests L p) (says 0 (passes p p.steps) (fullest_pull p))

-- what check promises
pub record Checks (p : Plan) (r : Answer) : Type 0 where
  pub answer : r ≡ check_answer limits p

-- all that check asks: the lists and codes are well formed, and the replay keeps the destinations of a closed night clear until the
-- first pull, pulls no car early, overfills no track and builds every train in order
pub record GoodPlan (L : Limits) (p : Plan) : Type 0 where
  pub given : Given L p.night p.steps
  pub each : length p.codes ≡ length p.night.inbound
  pub below : CodesBelow p.steps p.codes
  pub clear : KeepsClear p
  pub never : NeverEarly p
  pub room : HasRoom p
  pub builds : BuildsTrains p

-- Replay to a stage: a plan, a stage, and two lent buffers, for each car's track and place.
abbrev pub replay_own : Plan → ℕ → ℕ → List Ask
replay_own p track_size place_size =
    length_ask 3 (length p.codes) (length p.night.inbound) ∷
    buffer_ask 4 (length p.night.inbound) track_size ∷
    buffer_ask 5 (length p.night.inbound) place_size ∷
    code_asks p

abbrev pub replay_asks : Limits → Plan → ℕ → ℕ → ℕ → List Ask
replay_asks L p stage track_size place_size =
    opening L p.night p.steps (count_ask 6 0 p.steps stage ∷ []) (replay_own p track_size place_size)

abbrev pub replay_tests : Limits → Plan → ℕ → ℕ → ℕ → List Answer
replay_tests L p stage track_size place_size = answers (replay_asks L p stage track_size place_size)

unfoldable pub replay_answer : Limits → Plan → ℕ → ℕ → ℕ → Answer
replay_answer L p stage track_size place_size = verdict (replay_tests L p stage track_size place_size) (says 0 (passes p stage) 0)

-- all that replay asks: check's, but not that every train is built in order
pub record Replayable (L : Limits) (p : Plan) (stage track_size place_size : ℕ) : Type 0 where
  pub given : Given L p.night p.steps
  pub reached : Within 0 p.steps stage
  pub each : length p.codes ≡ length p.night.inbound
  pub tracks : length p.night.inbound ≤ track_size
  pub places : length p.night.inbound ≤ place_size
  pub below : CodesBelow p.steps p.codes
  pub clear : KeepsClear p
  pub never : NeverEarly p
  pub room : HasRoom p

unfoldable pub car_tracks : Plan → ℕ → List ℕ
car_tracks p stage = map (track_of p stage) (cars (length p.night.inbound))

unfoldable pub car_places : Plan → ℕ → List ℕ
car_places p stage = map (place_of p stage) (cars (length p.night.inbound))

-- what replay to a stage promises
pub record Replays (p : Plan) (stage : ℕ) (tracks_before places_before : List ℕ) (r : Answer) (tracks_after places_after : List ℕ) : Type 0 where
  pub answer : r ≡ replay_answer limits p stage (length tracks_before) (length places_before)
  pub tracks : tracks_after ≡ written (replay_answer limits p stage (length tracks_before) (length places_before)) (car_tracks p stage) tracks_before
  pub places : places_after ≡ written (replay_answer limits p stage (length tracks_before) (length places_before)) (car_places p stage) places_before
