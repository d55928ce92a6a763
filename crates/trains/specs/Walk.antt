-- A walk over the trains: how many cars the first trains have, and where the next one ends.
use Rattle.std.specs.Prelude.{ℕ, ◌+◌, ◌≤◌, ◌≡◌, List, [], ◌∷◌, length, get_or, take}
use Rattle.std.specs.declared.ops.Range.{Range}
use Rattle.yard.specs.Night.{sum}

-- the first t trains have so many cars
pub record Walked (lengths : List ℕ) (t cars : ℕ) : Type 0 where
  pub upto : t ≤ length lengths
  pub held : cars ≡ sum (take t lengths)

-- the train behind the first t ends with this car, which is one of the night, and the walk goes on from there
pub record Ends (lengths : List ℕ) (t before end : ℕ) : Type 0 where
  pub car : end ≡ before + get_or lengths t 0
  pub within : end ≤ sum lengths
  pub walked : Walked lengths (t + 1) end

-- the ranges of the cars of trains that begin with this car, by their lengths
abbrev pub ranges : ℕ → List ℕ → List (Range ℕ)
ranges before [] = []
ranges before (l ∷ lengths) = record { start = before; end = before + l } ∷ ranges (before + l) lengths
