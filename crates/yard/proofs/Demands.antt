-- The demands, as theorems on the calls' outcomes: what a customer may rely on.
use Prim.Native.Nat.{ℕ, ◌≤◌, ◌<◌}
use mathlib.Core.Path.{◌≡◌, refl, sym, ◌∙◌}
use mathlib.Core.Logic.Iff
use mathlib.Core.Logic.{◌↔◌}
use mathlib.Core.Bool.{false}
use mathlib.Core.List.{List, [], ◌∷◌, ◌++◌}
use native.Mathlib.Omega.{arith}
use lib.ListN.{length}
use Rattle.yard.specs.declared.Answer.{Answer}
use Rattle.yard.specs.declared.Limits.{Limits}
use Rattle.yard.specs.Night.{Night, Plan, plan_of}
use Rattle.yard.specs.Replay.{yard_at, passes, fullest_pull, pulled, pull_size, built, early, lowest_early, first_early, first_overfull, in_order}
use Rattle.yard.specs.Derived.{steps_needed, derived_plan}
use Rattle.yard.specs.Demands.{Least, Within, InLimits, Listed, ListedWrong, InboundWrong, ZeroCode, ZeroWrong, Given, CodesFormed, KeepsClear}
use Rattle.yard.specs.Demands.{Sorts, Sortable, OverfullStep}
use Rattle.yard.specs.Answers.{says, Ask, AllHold, FirstFails, count_ask, train_ask, sum_ask, inbound_ask, length_ask, buffer_ask, limit_ask}
use Rattle.yard.specs.Answers.{code_ask, zero_ask, early_ask, room_ask, order_ask}
use Rattle.yard.specs.Calls.{count_asks, list_asks, opening, derive_own, derive_asks, derive_tests, derive_answer, DeriveGiven, Derivable, Derives, check_own}
use Rattle.yard.specs.Calls.{check_asks, check_tests, check_answer, GoodPlan, Checks, replay_own, replay_asks, replay_tests, replay_answer, Replayable}
use Rattle.yard.specs.Calls.{Replays}
use Rattle.yard.proofs.calls.Verdict.{verdict-done}
use Rattle.yard.proofs.yards.Plans.{range-once}
use Rattle.yard.proofs.yards.Clear.{clear-exactly}
use Rattle.yard.proofs.yards.Least.{least-steps}
use Rattle.yard.proofs.yards.DerivedPlan.{derived-sorts}
use Rattle.yard.proofs.calls.Asks.{Sound, Unnamed, holds-append, sound-append, fails-past, fails-at, accepted-exactly, refused-exactly, refused-at}
use Rattle.yard.proofs.calls.Rights.{count-right, length-right, buffer-right, train-right, sum-right, inbound-right, code-right, early-right}
use Rattle.yard.proofs.calls.Rights.{bad-not-once, none-zero, zero_right, room-right, overfull-full, order-right, limit-right}

-- ---- what the opening asks yields, by name

pub counts-sound : (L : Limits) (n m W C h : ℕ) → Sound (count_asks L n m W C h)
counts-sound L n m W C h = (
  count-right 1 1 L.cars n,
  λ _. (
    count-right 2 1 L.trains m,
    λ _. (count-right 3 1 L.tracks W, λ _. (count-right 4 1 L.room C, λ _. (count-right 5 0 L.steps h, λ _. tt))),
  ),
)

pub counts-hold : (L : Limits) (n m W C h : ℕ) → AllHold (count_asks L n m W C h) ↔ InLimits L n m W C h
counts-hold L n m W C h = (
  λ (cars, more).
      let (trains, more) = more in
      let (tracks, more) = more in
      let (room, more) = more in
      record { cars = cars; trains = trains; tracks = tracks; room = room; steps = more.0 },
  λ c. (c.cars, (c.trains, (c.tracks, (c.room, (c.steps, tt))))),
)

pub lists-sound : (n : Night) → Sound (list_asks n)
lists-sound n =
    (train-right n.lengths, λ _. (sum-right n.lengths (length n.inbound), λ _. (inbound-right n.inbound, λ _. tt)))

pub lists-hold : (n : Night) → AllHold (list_asks n) ↔ Listed n.lengths n.inbound
lists-hold n = (
  λ (nonempty, more). let (adds, more) = more in record { nonempty = nonempty; adds = adds; once = more.0 },
  λ l. (l.nonempty, (l.adds, (l.once, tt))),
)

-- 3 comes for the lists exactly if the lengths are well formed and the inbound list is not, whatever is asked behind them
pub lists-wrong : (n : Night) (others : List Ask) → Unnamed 3 others
    → (a b : ℕ) → FirstFails 3 a b (list_asks n ++ others) ↔ ListedWrong n.lengths n.inbound a b
lists-wrong n others behind a b =
    let before = train_ask n.lengths ∷ sum_ask n.lengths (length n.inbound) ∷ [] in
    let at = fails-at before (inbound_ask n.inbound) others (omega arith) behind a b in (
      λ f.
          let (front, _, told) = at.0 f in
          let (nonempty, adds) = front in
          record { nonempty = nonempty; adds = adds.0; place = told.0; listing = told.1 },
      λ w. at.1 ((w.nonempty, (w.adds, tt)), bad-not-once n.inbound a w.place.holds, (w.place, w.listing)),
    )

module _ (L : Limits) (n : Night) (h : ℕ) (counts others : List Ask) where
  abbrev night_counted : List Ask
  night_counted = count_asks L (length n.inbound) (length n.lengths) n.tracks n.room h

  abbrev night-counts-hold : AllHold night_counted ↔ InLimits L (length n.inbound) (length n.lengths) n.tracks n.room h
  night-counts-hold = counts-hold L (length n.inbound) (length n.lengths) n.tracks n.room h

  -- a list of asks that begins as every call does is sound where the rest is, which may rest on the night
  pub opening-sound : Sound counts → (Given L n h → Sound others) → Sound (opening L n h counts others)
  opening-sound own rest =
      sound-append night_counted (counts ++ (list_asks n ++ others)) (counts-sound L (length n.inbound) (length n.lengths) n.tracks n.room h)
      (λ counted.
      sound-append counts (list_asks n ++ others) own
      (λ _.
      sound-append (list_asks n) others (lists-sound n) (λ listed. rest (record { counts = night-counts-hold.0 counted; lists = (lists-hold n).0 listed }))))

  pub opening-holds : AllHold (opening L n h counts others) ↔ (Given L n h × AllHold counts × AllHold others)
  opening-holds = (
    λ all.
        let (counted, more) = (holds-append night_counted (counts ++ (list_asks n ++ others))).0 all in
        let (own, more) = (holds-append counts (list_asks n ++ others)).0 more in
        let (listed, rest) = (holds-append (list_asks n) others).0 more in
        (record { counts = night-counts-hold.0 counted; lists = (lists-hold n).0 listed }, own, rest),
    λ (given, own, rest).
        (holds-append night_counted (counts ++ (list_asks n ++ others))).1 (
          night-counts-hold.1 given.counts,
          (holds-append counts (list_asks n ++ others)).1 (own, (holds-append (list_asks n) others).1 ((lists-hold n).1 given.lists, rest)),
        ),
  )

  -- 3 comes exactly if all counts lie in their ranges and of the lists the inbound one is the first at fault
  pub opening-wrong : Unnamed 3 counts → Unnamed 3 others
      → (a b : ℕ) → FirstFails 3 a b (opening L n h counts others) ↔ (InboundWrong L n h a b × AllHold counts)
  opening-wrong own behind a b =
      let counted = fails-past 3 a b night_counted (counts ++ (list_asks n ++ others)) (omega arith) in
      let more = fails-past 3 a b counts (list_asks n ++ others) own in
      let listed = lists-wrong n others behind a b in (
        λ f.
            let (limits, f) = counted.0 f in
            let (held, f) = more.0 f in
            (record { counts = night-counts-hold.0 limits; lists = listed.0 f }, held),
        λ (wrong, held). counted.1 (night-counts-hold.1 wrong.counts, more.1 (held, listed.1 wrong.lists)),
      )

-- the same for a call that has no counts of its own
pub call-wrong : (L : Limits) (n : Night) (h : ℕ) (others : List Ask) → Unnamed 3 others
    → (a b : ℕ) → FirstFails 3 a b (opening L n h [] others) ↔ InboundWrong L n h a b
call-wrong L n h others behind a b =
    let wrong = opening-wrong L n h [] others tt behind a b in
    (λ f. (wrong.0 f).0, λ w. wrong.1 (w, tt))

-- ---- demands 1 and 2: check

-- the same plan, with the destinations open
abbrev pub opened : Plan → Plan
opened p = plan_of p.night.lengths p.night.inbound false p.night.tracks p.night.room p.steps p.codes

-- a car with a zero code stands on its destination too early
zero-not-clear : {L : Limits} {a b : ℕ} (p : Plan) → ZeroWrong L p a b → KeepsClear p → ⊥
zero-not-clear {a = a} p w keeps = (clear-exactly p w.given.lists w.given.counts.tracks.0 w.codes).0 keeps a w.car.holds

module _ (L : Limits) (p : Plan) where
  abbrev check_done : Answer
  check_done = says 0 (passes p p.steps) (fullest_pull p)

  check_sound : Sound (check_asks L p)
  check_sound =
      opening-sound L p.night p.steps [] (check_own p) tt
      (λ given. (
        length-right 3 (length p.codes) (length p.night.inbound),
        λ each. (
          code-right p.steps p.codes,
          λ below. (
            zero_right p given.lists given.counts.tracks.0 (record { each = each; below = below }),
            λ _. (
              early-right p (range-once p.night.inbound given.lists.once),
              λ never. (
                room-right p,
                λ _. (order-right p given.lists (record { each = each; below = below }) never given.counts.cars.0, λ _. tt),
              ),
            ),
          ),
        ),
      ))

  check-holds : AllHold (check_asks L p) ↔ GoodPlan L p
  check-holds =
      let opened = opening-holds L p.night p.steps [] (check_own p) in (
        λ all.
            let (given, _, more) = opened.0 all in
            let (each, more) = more in
            let (below, more) = more in
            let (clear, more) = more in
            let (never, more) = more in
            let (room, more) = more in
            record { given = given; each = each; below = below; clear = clear; never = never; room = room; builds = more.0 },
        λ g. opened.1 (g.given, tt, (g.each, (g.below, (g.clear, (g.never, (g.room, (g.builds, tt))))))),
      )

  -- check accepts exactly if lists and codes are well formed and the replay keeps the destinations of a closed night clear until the
  -- first pull, pulls no car early, overfills no track and builds every train in order
  pub check-accepts-exactly : ((check_answer L p).number ≡ 0) ↔ GoodPlan L p
  unfolding check_answer
  check-accepts-exactly =
      let exactly = accepted-exactly check_done refl (check_asks L p) check_sound in
      (λ e. check-holds.0 (exactly.0 e), λ g. exactly.1 (check-holds.1 g))

  -- it refuses with k, A and B exactly if the first ask that does not hold has number k, and tells A and B
  pub check-refuses-exactly : (k a b : ℕ) → 0 < k → (check_answer L p ≡ says k a b) ↔ FirstFails k a b (check_asks L p)
  unfolding check_answer
  check-refuses-exactly k a b pos = refused-exactly check_done refl k a b pos (check_asks L p) check_sound

  -- 3 comes exactly if the inbound list is the first thing at fault, with the first place at fault and its number's first listing
  pub check-listing-exactly : (a b : ℕ) → (check_answer L p ≡ says 3 a b) ↔ InboundWrong L p.night p.steps a b
  check-listing-exactly a b =
      Iff.trans (check-refuses-exactly 3 a b (omega arith)) (call-wrong L p.night p.steps (check_own p) (omega arith) a b)

  -- 14 comes exactly if night and codes are well formed but for a zero code in a closed night; A is the first car with it
  pub check-zero-exactly : (a b : ℕ) → (check_answer L p ≡ says 14 a b) ↔ ZeroWrong L p a b
  unfolding check_answer
  check-zero-exactly a b =
      let formed = length_ask 3 (length p.codes) (length p.night.inbound) ∷ code_ask p.steps p.codes ∷ [] in
      let begun = opening-holds L p.night p.steps [] formed in
      let exactly =
      refused-at check_done refl (opening L p.night p.steps [] formed) (zero_ask p) (early_ask p ∷ room_ask p ∷ order_ask p ∷ [])
      (omega arith) check_sound (omega arith) (omega arith) a b in (
        λ e.
            let (front, _, told) = exactly.0 e in
            let (given, _, more) = begun.0 front in
            let (each, more) = more in
            record { given = given; codes = record { each = each; below = more.0 }; car = told.0; unused = told.1 },
        λ w. exactly.1 (begun.1 (w.given, tt, (w.codes.each, (w.codes.below, tt))), zero-not-clear p w, (w.car, w.unused)),
      )

-- the mark asks for nothing but codes above 0: where all are, check says the same of the night open, refusals too, and so does replay
pub check-same : (L : Limits) (p : Plan) → ((car : ℕ) → ZeroCode p car → ⊥) → check_answer L (opened p) ≡ check_answer L p
unfolding check_answer passes fullest_pull pull_size pulled built yard_at first_early lowest_early early first_overfull in_order
check-same L p none = rw ((none-zero p).1 none) refl

-- so what is accepted in a closed night is accepted in an open one, with the same answer
pub check-opened : (L : Limits) (p : Plan) → (check_answer L p).number ≡ 0 → check_answer L (opened p) ≡ check_answer L p
check-opened L p e =
    let good = (check-accepts-exactly L p).0 e in
    let formed : CodesFormed p = record { each = good.each; below = good.below } in
    check-same L p ((clear-exactly p good.given.lists good.given.counts.tracks.0 formed).0 good.clear)

-- ---- demands 1 and 2: replay to a stage

module _ (L : Limits) (p : Plan) (stage track_size place_size : ℕ) where
  abbrev replay-done : Answer
  replay-done = says 0 (passes p stage) 0

  replay-sound : Sound (replay_asks L p stage track_size place_size)
  replay-sound =
      let n = length p.night.inbound in
      opening-sound L p.night p.steps (count_ask 6 0 p.steps stage ∷ []) (replay_own p track_size place_size) (count-right 6 0 p.steps stage, λ _. tt)
      (λ given. (
        length-right 3 (length p.codes) n,
        λ each. (
          buffer-right 4 n track_size,
          λ _. (
            buffer-right 5 n place_size,
            λ _. (
              code-right p.steps p.codes,
              λ below. (
                zero_right p given.lists given.counts.tracks.0 (record { each = each; below = below }),
                λ _. (early-right p (range-once p.night.inbound given.lists.once), λ _. (room-right p, λ _. tt)),
              ),
            ),
          ),
        ),
      ))

  replay-holds : AllHold (replay_asks L p stage track_size place_size) ↔ Replayable L p stage track_size place_size
  replay-holds =
      let opened = opening-holds L p.night p.steps (count_ask 6 0 p.steps stage ∷ []) (replay_own p track_size place_size) in (
        λ all.
            let (given, own, more) = opened.0 all in
            let (each, more) = more in
            let (tracks, more) = more in
            let (places, more) = more in
            let (below, more) = more in
            let (clear, more) = more in
            let (never, more) = more in
            record {
              given = given;
              reached = own.0;
              each = each;
              tracks = tracks;
              places = places;
              below = below;
              clear = clear;
              never = never;
              room = more.0;
            },
        λ r. opened.1 (r.given, (r.reached, tt), (r.each, (r.tracks, (r.places, (r.below, (r.clear, (r.never, (r.room, tt)))))))),
      )

  pub replay-accepts-exactly : ((replay_answer L p stage track_size place_size).number ≡ 0) ↔ Replayable L p stage track_size place_size
  unfolding replay_answer
  replay-accepts-exactly =
      let exactly = accepted-exactly replay-done refl (replay_asks L p stage track_size place_size) replay-sound in
      (λ e. replay-holds.0 (exactly.0 e), λ r. exactly.1 (replay-holds.1 r))

  pub replay-refuses-exactly : (k a b : ℕ) → 0 < k
      → (replay_answer L p stage track_size place_size ≡ says k a b) ↔ FirstFails k a b (replay_asks L p stage track_size place_size)
  unfolding replay_answer
  replay-refuses-exactly k a b pos = refused-exactly replay-done refl k a b pos (replay_asks L p stage track_size place_size) replay-sound

  pub replay-zero-exactly : (a b : ℕ)
      → (replay_answer L p stage track_size place_size ≡ says 14 a b) ↔
      (ZeroWrong L p a b × Within 0 p.steps stage × (length p.night.inbound ≤ track_size) × (length p.night.inbound ≤ place_size))
  unfolding replay_answer
  replay-zero-exactly a b =
      let n = length p.night.inbound in
      let reached = count_ask 6 0 p.steps stage ∷ [] in
      let formed = length_ask 3 (length p.codes) n ∷ buffer_ask 4 n track_size ∷ buffer_ask 5 n place_size ∷ code_ask p.steps p.codes ∷ [] in
      let begun = opening-holds L p.night p.steps reached formed in
      let exactly =
      refused-at replay-done refl (opening L p.night p.steps reached formed) (zero_ask p) (early_ask p ∷ room_ask p ∷ [])
      (omega arith) replay-sound (omega arith) (omega arith) a b in (
        λ e.
            let (front, _, told) = exactly.0 e in
            let (given, own, more) = begun.0 front in
            let (each, more) = more in
            let (tracks, more) = more in
            let (places, more) = more in
            let wrong : ZeroWrong L p a b =
            record { given = given; codes = record { each = each; below = more.0 }; car = told.0; unused = told.1 } in
            (wrong, own.0, tracks, places),
        λ (w, own, tracks, places).
            exactly.1
            (begun.1 (w.given, (own, tt), (w.codes.each, (tracks, (places, (w.codes.below, tt))))), zero-not-clear p w, (w.car, w.unused)),
      )

  pub replay-listing-exactly : (a b : ℕ)
      → (replay_answer L p stage track_size place_size ≡ says 3 a b) ↔ (InboundWrong L p.night p.steps a b × Within 0 p.steps stage)
  replay-listing-exactly a b =
      let reached = count_ask 6 0 p.steps stage ∷ [] in
      let wrong = opening-wrong L p.night p.steps reached (replay_own p track_size place_size) (omega arith) (omega arith) a b in
      Iff.trans (replay-refuses-exactly 3 a b (omega arith)) (λ f. let (w, own) = wrong.0 f in (w, own.0), λ (w, reached). wrong.1 (w, (reached, tt)))

pub replay-same : (L : Limits) (p : Plan) (stage track_size place_size : ℕ) → ((car : ℕ) → ZeroCode p car → ⊥)
    → replay_answer L (opened p) stage track_size place_size ≡ replay_answer L p stage track_size place_size
unfolding replay_answer passes pull_size pulled yard_at first_early lowest_early early first_overfull
replay-same L p stage track_size place_size none = rw ((none-zero p).1 none) refl

-- ---- demand 3: the bill is the least there is

-- Room aside, and whatever the limit: for every night of at least one train and one track whose lists are well formed, the derived
-- plan builds all the trains, in a closed night without code 0, and no plan with fewer steps does, whatever codes it gives.
pub record LeastPlan (n : Night) (p : Plan) : Type 0 where
  pub same : p.night ≡ n
  pub sorts : Sorts p
  pub least : (h : ℕ) (codes : List ℕ) → Sorts (record { night = n; steps = h; codes = codes }) → p.steps ≤ h

pub derived-least : (n : Night) → Listed n.lengths n.inbound → 1 ≤ length n.lengths → 1 ≤ n.tracks → LeastPlan n (derived_plan n)
unfolding derived_plan
derived-least n lists some pos =
    record {
      same = refl;
      sorts = derived-sorts n lists pos;
      least = λ h codes s. least-steps (record { night = n; steps = h; codes = codes }) lists pos s some;
    }

module _ (L : Limits) (n : Night) (limit size : ℕ) where
  abbrev derive-done : Answer
  derive-done = says 0 (steps_needed n) (passes (derived_plan n) (steps_needed n))

  derive-sound : Sound (derive_asks L n limit size)
  derive-sound =
      opening-sound L n limit [] (derive_own n limit size) tt
      (λ given. (
        buffer-right 3 (length n.inbound) size,
        λ _. (limit-right n limit given.counts.trains.0 given.counts.tracks.0 given.lists, λ _. (room-right (derived_plan n), λ _. tt)),
      ))

  -- what is asked before the limit
  abbrev pub first-asks : List Ask
  first-asks = opening L n limit [] (buffer_ask 3 (length n.inbound) size ∷ [])

  pub first-hold : AllHold first-asks ↔ DeriveGiven L n limit size
  first-hold =
      let opened = opening-holds L n limit [] (buffer_ask 3 (length n.inbound) size ∷ []) in (
        λ all. let (given, _, more) = opened.0 all in record { given = given; buffer = more.0 },
        λ g. opened.1 (g.given, tt, (g.buffer, tt)),
      )

  derive-holds : AllHold (derive_asks L n limit size) ↔ Derivable L n limit size
  derive-holds =
      let parted = holds-append first-asks (limit_ask n limit ∷ room_ask (derived_plan n) ∷ []) in (
        λ all.
            let (front, more) = parted.0 all in
            let (sortable, more) = more in
            record { given = first-hold.0 front; sortable = sortable; room = more.0 },
        λ d. parted.1 (first-hold.1 d.given, (d.sortable, (d.room, tt))),
      )

  pub derive-accepts-exactly : ((derive_answer L n limit size).number ≡ 0) ↔ Derivable L n limit size
  unfolding derive_answer
  derive-accepts-exactly =
      let exactly = accepted-exactly derive-done refl (derive_asks L n limit size) derive-sound in
      (λ e. derive-holds.0 (exactly.0 e), λ d. exactly.1 (derive-holds.1 d))

  pub derive-refuses-exactly : (k a b : ℕ) → 0 < k → (derive_answer L n limit size ≡ says k a b) ↔ FirstFails k a b (derive_asks L n limit size)
  unfolding derive_answer
  derive-refuses-exactly k a b pos = refused-exactly derive-done refl k a b pos (derive_asks L n limit size) derive-sound

  pub derive-listing-exactly : (a b : ℕ) → (derive_answer L n limit size ≡ says 3 a b) ↔ InboundWrong L n limit a b
  derive-listing-exactly a b =
      Iff.trans (derive-refuses-exactly 3 a b (omega arith)) (call-wrong L n limit (derive_own n limit size) (omega arith) a b)

  -- a limit is refused exactly if no plan that builds the trains, in a closed night without code 0, keeps to it, whatever its codes; A
  -- is the least limit that one keeps to
  pub derive-limit-exactly : (a b : ℕ)
      → (derive_answer L n limit size ≡ says 5 a b) ↔ (DeriveGiven L n limit size × (Sortable n limit → ⊥) × Least (Sortable n) a × (b ≡ 0))
  unfolding derive_answer
  derive-limit-exactly a b =
      let exactly =
      refused-at derive-done refl first-asks (limit_ask n limit) (room_ask (derived_plan n) ∷ []) (omega arith) derive-sound
      (omega arith) (omega arith) a b in (
        λ e. let (front, none, told) = exactly.0 e in (first-hold.0 front, none, told.0, told.1),
        λ (given, none, least, zero-b). exactly.1 (first-hold.1 given, none, (least, zero-b)),
      )

  -- room is refused exactly if the derived plan's replay overfills a track, and only where the limit can be kept; A is the first
  -- step that does, B what it finds there
  pub derive-room-exactly : (a b : ℕ)
      → (derive_answer L n limit size ≡ says 6 a b) ↔
      (DeriveGiven L n limit size × Sortable n limit × Least (OverfullStep (derived_plan n)) a × (b ≡ pull_size (derived_plan n) a))
  unfolding derive_answer
  derive-room-exactly a b =
      let before = first-asks ++ (limit_ask n limit ∷ []) in
      let parted = holds-append first-asks (limit_ask n limit ∷ []) in
      let exactly = refused-at derive-done refl before (room_ask (derived_plan n)) [] (omega arith) derive-sound (omega arith) tt a b in (
        λ e.
            let (front, none, told) = exactly.0 e in
            let (given, sortable) = parted.0 front in
            (first-hold.0 given, sortable.0, told.0, told.1),
        λ (given, sortable, overfull, cars).
            exactly.1 (parted.1 (first-hold.1 given, (sortable, tt)), overfull-full (derived_plan n) a overfull.holds, (overfull, cars)),
      )

  -- where derive answers, it has derived that plan, and it reports its steps and the cars that rolled in, counted one by one
  pub derive-least : (derive_answer L n limit size).number ≡ 0
      → LeastPlan n (derived_plan n) × (derive_answer L n limit size ≡ says 0 (derived_plan n).steps (yard_at (derived_plan n) (derived_plan n).steps).rolled)
  unfolding derive_answer derived_plan passes
  derive-least e =
      let given = (derive-accepts-exactly.0 e).given.given in (
        derived-least n given.lists given.counts.trains.0 given.counts.tracks.0,
        verdict-done (derive_tests L n limit size) derive-done e,
      )

-- ---- demand 3: reported passes are the cars that roll in the replay, counted one by one

pub check-reports : (L : Limits) (p : Plan) → (check_answer L p).number ≡ 0 → check_answer L p ≡ says 0 (yard_at p p.steps).rolled (fullest_pull p)
unfolding check_answer passes
check-reports L p e = verdict-done (check_tests L p) (says 0 (passes p p.steps) (fullest_pull p)) e

pub replay-reports : (L : Limits) (p : Plan) (stage track_size place_size : ℕ)
    → (replay_answer L p stage track_size place_size).number ≡ 0
    → replay_answer L p stage track_size place_size ≡ says 0 (yard_at p stage).rolled 0
unfolding replay_answer passes
replay-reports L p stage track_size place_size e = verdict-done (replay_tests L p stage track_size place_size) (says 0 (passes p stage) 0) e

-- ---- each call has one outcome for each input: one answer, and one content of every lent buffer

pub derive-one : (n : Night) (limit : ℕ) (before : List ℕ) (r s : Answer) (after other : List ℕ)
    → Derives n limit before r after
    → Derives n limit before s other
    → (r ≡ s) × (after ≡ other)
derive-one n limit before r s after other x y = (x.answer ∙ sym y.answer, x.codes ∙ sym y.codes)

pub check-one : (p : Plan) (r s : Answer) → Checks p r → Checks p s → r ≡ s
check-one p r s x y = x.answer ∙ sym y.answer

pub replay-one : (p : Plan) (stage : ℕ) (tracks₀ places₀ : List ℕ) (r s : Answer) (tracks₁ tracks₂ places₁ places₂ : List ℕ)
    → Replays p stage tracks₀ places₀ r tracks₁ places₁
    → Replays p stage tracks₀ places₀ s tracks₂ places₂
    → (r ≡ s) × (tracks₁ ≡ tracks₂) × (places₁ ≡ places₂)
replay-one p stage tracks₀ places₀ r s tracks₁ tracks₂ places₁ places₂ x y =
    (x.answer ∙ sym y.answer, x.tracks ∙ sym y.tracks, x.places ∙ sym y.places)
