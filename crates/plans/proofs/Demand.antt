-- Demand 2 on the calls: what whoever calls `check` or `replay` may rely on, by what they promise of their answers and of the lent buffers.
use Prim.Native.Nat.{ℕ, ◌-◌, ◌≤◌, ◌<◌}
use mathlib.Core.Path.{◌≡◌, sym, ap, ap₂, ◌∙◌}
use mathlib.Core.Logic.{◌↔◌}
use mathlib.Core.List.{List, map}
use native.Mathlib.Omega.{arith}
use lib.ListN.{length, get_or, take, drop}
use lib.Seq.{get_or-take}
use Rattle.yard.specs.declared.Answer.{Answer}
use Rattle.yard.specs.Limits.{limits}
use Rattle.yard.specs.Words.{most, up_from}
use Rattle.yard.specs.Night.{Plan, cars, item_of}
use Rattle.yard.specs.Replay.{yard_at, pull_size, fullest_pull, track_of, place_of}
use Rattle.yard.specs.Demands.{Within, InboundWrong, ZeroWrong}
use Rattle.yard.specs.Answers.{says, onto, FirstFails}
use Rattle.yard.specs.Calls.{check_asks, Checks, GoodPlan, replay_asks, replay_answer, Replays, Replayable, car_tracks, car_places}
use Rattle.yard.proofs.general.Fronts.{front-taken, front-left}
use Rattle.yard.proofs.calls.Verdict.{written-accepted, written-refused}
use Rattle.yard.proofs.general.Lists.{count-up_from-in, up_from-bounds, length-up_from}
use Rattle.yard.proofs.yards.Trains.{most-above, most-reached}
use Rattle.yard.proofs.yards.DerivedPlan.{by-car, length-by-car}
use Rattle.yard.proofs.yards.PlanYard.{one_place}
use Rattle.yard.proofs.calls.Asks.{told-alike}
use Rattle.yard.proofs.Demands.{opened, check-accepts-exactly, check-refuses-exactly, check-listing-exactly, check-zero-exactly, check-opened, check-reports}
use Rattle.yard.proofs.Demands.{replay-accepts-exactly, replay-refuses-exactly, replay-listing-exactly, replay-zero-exactly, replay-reports}

-- ---- check

-- what an accepted check has told
pub record Checked (p : Plan) (r : Answer) : Type 0 where
  -- the lists and codes are well formed, and the replay keeps the destinations of a closed night clear until the first pull, pulls no
  -- car early, overfills no track and builds every train in order
  pub good : GoodPlan limits p
  -- the passes are the cars that roll in its replay, counted one by one
  pub passes : r.a ≡ (yard_at p p.steps).rolled
  -- no step finds more on its track than the fullest pull, and some step finds that; where there is no step it is 0
  pub fullest : (k : ℕ) → k < p.steps → pull_size p k ≤ r.b
  pub reached : 0 < p.steps → (k : ℕ) × (k < p.steps) × (pull_size p k ≡ r.b)
  pub none : p.steps ≡ 0 → r.b ≡ 0

module _ (p : Plan) (r : Answer) (promise : Checks p r) where
  -- it accepts exactly if all that it asks holds
  pub check-accepts : (r.number ≡ 0) ↔ GoodPlan limits p
  check-accepts =
      let exactly = check-accepts-exactly limits p in
      let same = ap (λ (a : Answer). a.number) promise.answer in
      (λ z. exactly.0 (sym same ∙ z), λ good. same ∙ exactly.1 good)

  -- it refuses with k, A and B exactly if the first ask that does not hold has number k, and tells A and B
  pub check-refuses : (k a b : ℕ) → 0 < k → (r ≡ says k a b) ↔ FirstFails k a b (check_asks limits p)
  check-refuses k a b pos = told-alike promise.answer (check-refuses-exactly limits p k a b pos)

  -- 3 comes exactly if the counts are well formed and the inbound list is the first thing at fault: A is the first place at fault, B
  -- where its number was first listed, 0 for a number out of range
  pub check-listing : (a b : ℕ) → (r ≡ says 3 a b) ↔ InboundWrong limits p.night p.steps a b
  check-listing a b = told-alike promise.answer (check-listing-exactly limits p a b)

  -- 14 comes exactly if night and codes are well formed but for a zero code in a closed night: A is the first car with it
  pub check-zero : (a b : ℕ) → (r ≡ says 14 a b) ↔ ZeroWrong limits p a b
  check-zero a b = told-alike promise.answer (check-zero-exactly limits p a b)

  -- who has a plan accepted in a closed night is told the same of it in an open one
  pub check-again : (s : Answer) → Checks (opened p) s → r.number ≡ 0 → s ≡ r
  check-again s again z =
      again.answer ∙ (check-opened limits p (sym (ap (λ (a : Answer). a.number) promise.answer) ∙ z) ∙ sym promise.answer)

  pub check-tells : r.number ≡ 0 → Checked p r
  unfolding fullest_pull
  check-tells z =
      record {
        good = check-accepts.0 z;
        passes = ap (λ (a : Answer). a.a) answered;
        fullest =
            λ k l.
            let among = count-up_from-in k 0 p.steps (omega arith) (omega arith) in
            omega (arith, is-fullest, most-above (pull_size p) (up_from 0 p.steps) k (omega (arith, among)));
        reached =
            λ some.
            let at = most-reached (pull_size p) (up_from 0 p.steps) (omega (arith, length-up_from 0 p.steps)) in
            (at.0, omega (arith, up_from-bounds at.0 0 p.steps at.1), at.2 ∙ sym is-fullest);
        none = λ e. is-fullest ∙ ap (λ (h : ℕ). most (pull_size p) (up_from 0 h)) e;
      }
    where
      answered : r ≡ says 0 (yard_at p p.steps).rolled (fullest_pull p)
      answered = promise.answer ∙ check-reports limits p (sym (ap (λ (a : Answer). a.number) promise.answer) ∙ z)

      is-fullest : r.b ≡ fullest_pull p
      is-fullest = ap (λ (a : Answer). a.b) answered

-- ---- replay to a stage

-- the item of a car in a list whose first n items are a list by car
item : (g : ℕ → ℕ) (n : ℕ) (l : List ℕ) → take n l ≡ map g (cars n) → (car : ℕ) → Within 1 n car → item_of l car ≡ g car
item g n l e car w =
    sym (get_or-take n l (car - 1) 0 (omega (arith, w.0, w.1))) ∙ (ap (λ (u : List ℕ). get_or u (car - 1) 0) e ∙ by-car g n car w)

-- what an accepted replay has told: of each car, by the items of the two buffers
pub record Stood (p : Plan) (stage : ℕ) (tracks₀ places₀ : List ℕ) (r : Answer) (tracks₁ places₁ : List ℕ) : Type 0 where
  -- all that it asks holds: the whole plan's replay keeps the destinations of a closed night clear until the first pull, pulls no car
  -- early and overfills no track
  pub able : Replayable limits p stage (length tracks₀) (length places₀)
  -- the passes are the cars that rolled in up to the stage, counted one by one
  pub passes : r.a ≡ (yard_at p stage).rolled
  pub unused : r.b ≡ 0
  -- the first n items are each car's track and place
  pub tracks : take (length p.night.inbound) tracks₁ ≡ car_tracks p stage
  pub places : take (length p.night.inbound) places₁ ≡ car_places p stage
  -- that is where the car stands in the replay
  pub stands : (car : ℕ) → Within 1 (length p.night.inbound) car →
      get_or ((yard_at p stage).standing (item_of tracks₁ car)) (item_of places₁ car) 0 ≡ car
  -- what lies behind stays
  pub behind_tracks : drop (length p.night.inbound) tracks₁ ≡ drop (length p.night.inbound) tracks₀
  pub behind_places : drop (length p.night.inbound) places₁ ≡ drop (length p.night.inbound) places₀

module _ (p : Plan) (stage : ℕ) (tracks₀ places₀ : List ℕ) (r : Answer) (tracks₁ places₁ : List ℕ)
    (promise : Replays p stage tracks₀ places₀ r tracks₁ places₁) where
  abbrev replayed : Answer
  replayed = replay_answer limits p stage (length tracks₀) (length places₀)

  same_number : r.number ≡ replayed.number
  same_number = ap (λ (a : Answer). a.number) promise.answer

  pub replay-accepts : (r.number ≡ 0) ↔ Replayable limits p stage (length tracks₀) (length places₀)
  replay-accepts =
      let exactly = replay-accepts-exactly limits p stage (length tracks₀) (length places₀) in
      (λ z. exactly.0 (sym same_number ∙ z), λ able. same_number ∙ exactly.1 able)

  pub replay-refuses : (k a b : ℕ) → 0 < k → (r ≡ says k a b) ↔ FirstFails k a b (replay_asks limits p stage (length tracks₀) (length places₀))
  replay-refuses k a b pos = told-alike promise.answer (replay-refuses-exactly limits p stage (length tracks₀) (length places₀) k a b pos)

  pub replay-zero : (a b : ℕ) → (r ≡ says 14 a b) ↔
      (ZeroWrong limits p a b × Within 0 p.steps stage × (length p.night.inbound ≤ length tracks₀) × (length p.night.inbound ≤ length places₀))
  replay-zero a b = told-alike promise.answer (replay-zero-exactly limits p stage (length tracks₀) (length places₀) a b)

  pub replay-listing : (a b : ℕ) → (r ≡ says 3 a b) ↔ (InboundWrong limits p.night p.steps a b × Within 0 p.steps stage)
  replay-listing a b = told-alike promise.answer (replay-listing-exactly limits p stage (length tracks₀) (length places₀) a b)

  -- a refused call writes nothing
  pub replay-refused : (r.number ≡ 0 → ⊥) → (tracks₁ ≡ tracks₀) × (places₁ ≡ places₀)
  replay-refused h =
      let no : replayed.number ≡ 0 → ⊥ = λ z. h (same_number ∙ z) in
      (promise.tracks ∙ written-refused replayed (car_tracks p stage) tracks₀ no, promise.places ∙ written-refused replayed (car_places p stage) places₀ no)

  pub replay-tells : r.number ≡ 0 → Stood p stage tracks₀ places₀ r tracks₁ places₁
  unfolding car_tracks car_places
  replay-tells z =
      record {
        able = able;
        passes = ap (λ (a : Answer). a.a) answered;
        unused = ap (λ (a : Answer). a.b) answered;
        tracks = tracks;
        places = places;
        stands =
            λ car w.
            let track = item (track_of p stage) n tracks₁ tracks car w in
            let place = item (place_of p stage) n places₁ places car w in
            ap₂ (λ (t k : ℕ). get_or ((yard_at p stage).standing t) k 0) track place ∙
            one_place p able.given.lists able.given.counts.tracks.0 stage car w;
        behind_tracks = front-left (car_tracks p stage) tracks₀ wrote_tracks (length-by-car (track_of p stage) n);
        behind_places = front-left (car_places p stage) places₀ wrote_places (length-by-car (place_of p stage) n);
      }
    where
      n : ℕ
      n = length p.night.inbound

      able : Replayable limits p stage (length tracks₀) (length places₀)
      able = replay-accepts.0 z

      accepted : replayed.number ≡ 0
      accepted = sym same_number ∙ z

      answered : r ≡ says 0 (yard_at p stage).rolled 0
      answered = promise.answer ∙ replay-reports limits p stage (length tracks₀) (length places₀) accepted

      wrote_tracks : tracks₁ ≡ onto (car_tracks p stage) tracks₀
      wrote_tracks = promise.tracks ∙ written-accepted replayed (car_tracks p stage) tracks₀ accepted

      wrote_places : places₁ ≡ onto (car_places p stage) places₀
      wrote_places = promise.places ∙ written-accepted replayed (car_places p stage) places₀ accepted

      tracks : take n tracks₁ ≡ car_tracks p stage
      tracks = front-taken (car_tracks p stage) tracks₀ wrote_tracks (length-by-car (track_of p stage) n)

      places : take n places₁ ≡ car_places p stage
      places = front-taken (car_places p stage) places₀ wrote_places (length-by-car (place_of p stage) n)
