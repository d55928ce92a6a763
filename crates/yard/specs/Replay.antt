-- The replay on physical tracks: cars roll in one by one and are counted, step k takes everything that stands on track k mod W,
-- and what it took rolls in again.
use Rattle.std.specs.Prelude.{ℕ, zero, suc, ◌+◌, ◌-◌, ◌/◌, ◌%◌, ◌^◌, Bool, cond, not, ◌&&◌, List, [], ◌∷◌, ◌++◌, leb, ltb, eqb, length}
use Rattle.yard.specs.Words.{tally, total, most, every, listed, place, same, up_from, first}
use Rattle.yard.specs.Night.{Night, Plan, item_of, train_of, cars_of}

-- What stands on each track, front first, and how many cars have rolled in so far. Sorting tracks are 0 to W - 1, the destination of train t is W + t - 1.
pub record Yard : Type 0 where
  pub standing : ℕ → List ℕ
  pub rolled : ℕ

-- bit k of a code is set: this car is pulled in step k
abbrev pub bit : ℕ → ℕ → Bool
bit k code = eqb (code / 2 ^ k % 2) 1

-- the first step from s on that a code of h steps names, or h where there is none
abbrev pub next_step : ℕ → ℕ → ℕ → ℕ
next_step h code s = first (λ k. bit k code) (h - s) s

-- the yard with a track emptied
abbrev pub emptied : ℕ → Yard → Yard
emptied t yard = record { standing = λ track. cond (eqb track t) [] (yard.standing track); rolled = yard.rolled }

-- W tracks, h steps; each car's code and destination track
module _ (W h : ℕ) (code dest : ℕ → ℕ) where
  -- the track to which a car rolls when the steps from s on are still to come: a car bound for step l goes to track l mod W
  abbrev pub target : ℕ → ℕ → ℕ
  target s car =
      let l = next_step h (code car) s in
      cond (ltb l h) (l % W) (dest car)

  -- a car rolls in behind the cars already on its track, and is counted
  abbrev pub roll_car : ℕ → Yard → ℕ → Yard
  roll_car s yard car =
      record { standing = λ track. yard.standing track ++ cond (eqb track (target s car)) (car ∷ []) []; rolled = suc yard.rolled }

  -- cars roll in one after the other, first in, first over the hump
  abbrev pub roll_in : ℕ → Yard → List ℕ → Yard
  roll_in s yard [] = yard
  roll_in s yard (car ∷ others) = roll_in s (roll_car s yard car) others

  -- step k pulls every car on track k mod W; they roll in again in the order in which they stood
  abbrev pub step : ℕ → Yard → Yard
  step k yard = roll_in (suc k) (emptied (k % W) yard) (yard.standing (k % W))

  -- stage 0 is the yard after the first roll-in, stage s after s steps
  abbrev pub stage : List ℕ → ℕ → Yard
  stage inbound zero = roll_in 0 (record { standing = λ _. []; rolled = 0 }) inbound
  stage inbound (suc s) = step s (stage inbound s)

-- the same of a plan
abbrev pub code_of : Plan → ℕ → ℕ
code_of p car = item_of p.codes car

abbrev pub destination : Night → ℕ → ℕ
destination n car = n.tracks + train_of n.lengths car - 1

unfoldable pub yard_at : Plan → ℕ → Yard
yard_at p s = stage p.night.tracks p.steps (code_of p) (destination p.night) p.night.inbound s

-- hump passes up to a stage: all cars that rolled in
unfoldable pub passes : Plan → ℕ → ℕ
passes p s = (yard_at p s).rolled

-- what step k takes from its track, and how much that is: the base counts 1 for each car
unfoldable pub pulled : Plan → ℕ → List ℕ
pulled p k = (yard_at p k).standing (k % p.night.tracks)

unfoldable pub pull_size : Plan → ℕ → ℕ
pull_size p k = total (λ car. 1) (pulled p k)

unfoldable pub fullest_pull : Plan → ℕ
fullest_pull p = most (pull_size p) (up_from 0 p.steps)

-- the pull-outs, where a step that finds its track empty is not counted as one: the steps that pull at least one car
unfoldable pub pull_outs : Plan → ℕ
pull_outs p = total (λ k. tally (ltb 0 (length (pulled p k)))) (up_from 0 p.steps)

-- step k takes this car early; takes some car early, and the lowest; the first such step, h where there is none
unfoldable pub early : Plan → ℕ → ℕ → Bool
early p k car = listed car (pulled p k) && not (bit k (code_of p car))

unfoldable pub lowest_early : Plan → ℕ → ℕ
lowest_early p k = first (early p k) (length p.night.inbound) 1

unfoldable pub first_early : Plan → ℕ
first_early p = first (λ k. leb (lowest_early p k) (length p.night.inbound)) p.steps 0

-- the first step that finds its track overfilled, h where there is none
unfoldable pub first_overfull : Plan → ℕ
first_overfull p = first (λ k. ltb p.night.room (pull_size p k)) p.steps 0

-- the train as the replay built it, front first; all trains stand in order
unfoldable pub built : Plan → ℕ → List ℕ
built p train = (yard_at p p.steps).standing (p.night.tracks + train - 1)

unfoldable pub in_order : Plan → Bool
in_order p = every (λ t. same (built p t) (cars_of p.night.lengths t)) (up_from 1 (length p.night.lengths))

-- the track on which a car stands at a stage, and its place there from 0, the front
unfoldable pub track_of : Plan → ℕ → ℕ → ℕ
track_of p s car = first (λ track. listed car ((yard_at p s).standing track)) (p.night.tracks + length p.night.lengths) 0

unfoldable pub place_of : Plan → ℕ → ℕ → ℕ
place_of p s car = place car ((yard_at p s).standing (track_of p s car))
