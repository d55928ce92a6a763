-- Sums over a list of codes: what the laws of the replay say of passes and pulls.
use Rattle.std.specs.Prelude.{ℕ, ◌%◌, ◌^◌, Bool, List, ltb}
use Rattle.std.specs.Int.Count.{ones}
use Rattle.yard.specs.Words.{tally, total, most, first, up_from}
use Rattle.yard.specs.Replay.{bit}

-- how many codes name step k
abbrev pub pull_of : List ℕ → ℕ → ℕ
pull_of codes k = total (λ x. tally (bit k x)) codes

-- the set bits below s of all codes
abbrev pub set_below : ℕ → List ℕ → ℕ
set_below s codes = total (λ x. ones (x % 2 ^ s)) codes

-- the first of h steps that more than C codes name, and the most codes that name one step
abbrev pub above : ℕ → List ℕ → ℕ → Bool
above C codes k = ltb C (pull_of codes k)

abbrev pub first_above : ℕ → List ℕ → ℕ → ℕ
first_above C codes h = first (above C codes) h 0

abbrev pub fullest_of : List ℕ → ℕ → ℕ
fullest_of codes h = most (pull_of codes) (up_from 0 h)
