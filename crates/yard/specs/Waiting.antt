-- An early pull as the codes alone tell it: a car waits on the track of a step that its code does not name.
-- The replay itself is the standard (Replay.antt); that both find the same is a law, `early-test` in proofs/yards/EarlySearch.antt.
use Rattle.std.specs.Prelude.{ℕ, ◌%◌, Bool, not, ◌&&◌, List, leb, ltb, eqb, length}
use Rattle.yard.specs.Words.{first}
use Rattle.yard.specs.Night.{item_of}
use Rattle.yard.specs.Replay.{bit, next_step}

-- a car with code x waits at step s on the track of that step, bound for a later one
abbrev pub waits : ℕ → ℕ → ℕ → ℕ → Bool
waits W h x s = not (bit s x) && (ltb (next_step h x s) h && eqb (next_step h x s % W) (s % W))

-- the lowest car that waits at step k, past the last where there is none; the first step at which one waits, h where there is none
abbrev pub lowest_waiting : ℕ → ℕ → List ℕ → ℕ → ℕ
lowest_waiting W h codes k = first (λ car. waits W h (item_of codes car) k) (length codes) 1

abbrev pub some_waits : ℕ → ℕ → List ℕ → ℕ → Bool
some_waits W h codes k = leb (lowest_waiting W h codes k) (length codes)

abbrev pub first_waiting : ℕ → ℕ → List ℕ → ℕ
first_waiting W h codes = first (some_waits W h codes) h 0
