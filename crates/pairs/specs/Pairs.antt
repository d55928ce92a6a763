-- The rule on neighbouring pairs, by the lists of places and codes in car order.
use Rattle.std.specs.Prelude.{ℕ, suc, ◌≤◌, ◌≡◌, Bool, not, ◌&&◌, List, length}
use Rattle.yard.specs.Limits.{limits}
use Rattle.yard.specs.Night.{sum, item_of, pair}
use Rattle.yard.specs.Answers.{ruled}
use Rattle.yard.specs.Demands.{NoneEmpty}
use Rattle.trains.specs.Turned.{turned}

-- cars j and j + 1 break the rule that holds for a pair of one train
abbrev pub unruled_by : List ℕ → List ℕ → ℕ → Bool
unruled_by places codes j = not (ruled (item_of codes j) (item_of codes (suc j)) (turned places j))

-- and they are such a pair
abbrev pub unruled_at : List ℕ → List ℕ → List ℕ → ℕ → Bool
unruled_at lengths places codes j = pair lengths j && unruled_by places codes j

-- trains that hold all cars, with a place and a code for each
pub record Ordering (lengths places codes : List ℕ) : Type 0 where
  pub some : 1 ≤ length codes
  pub full : NoneEmpty lengths
  pub all : sum lengths ≡ length codes
  pub place : length places ≡ length codes
  pub few : length codes ≤ limits.cars
