-- Lists in car order: by the place of each car in the inbound list, the breaks before it in its train.
use Rattle.std.specs.Prelude.{ℕ, suc, ◌+◌, ◌-◌, ◌≤◌, ◌<◌, ◌≡◌, List, map, length, get_or, take}
use Rattle.yard.specs.Words.{tally, total, up_from}
use Rattle.yard.specs.Night.{cars, breaks_before, most_breaks}
use Rattle.yard.specs.Limits.{limits}
use Rattle.yard.specs.Demands.{Listed}
use Rattle.trains.specs.Turned.{turned}

-- how often a pair is turned among the n pairs from j, j + 1 on
abbrev pub turns : List ℕ → ℕ → ℕ → ℕ
turns places j n = total (λ k. tally (turned places k)) (up_from j n)

-- one train, behind the first b cars and up to the first e: its breaks, and those before each of its cars; what stands for the first b stays
pub record Train (places : List ℕ) (b e : ℕ) (before : List ℕ) (r : ℕ) (after : List ℕ) : Type 0 where
  pub breaks : r ≡ turns places (suc b) (e - suc b)
  pub fewer : b + r < e
  pub car : (i : ℕ) → i < e → b ≤ i → get_or after i 0 ≡ turns places (suc b) (i - b)
  pub stays : (i : ℕ) → i < b → get_or after i 0 ≡ get_or before i 0

-- what a count of all trains asks: lists that are well formed, and room for each car among the places and among the numbers
pub record Countable (lengths inbound : List ℕ) (places into : ℕ) : Type 0 where
  pub lists : Listed lengths inbound
  pub cars : length inbound ≤ limits.cars
  pub placed : length inbound ≤ places
  pub room : length inbound ≤ into

-- all trains: the most breaks in one, and those before each car
pub record Numbers (lengths inbound : List ℕ) (r : ℕ) (after : List ℕ) : Type 0 where
  pub most : r ≡ most_breaks lengths inbound
  pub few : r ≤ length inbound - 1
  pub listed : take (length inbound) after ≡ map (breaks_before lengths inbound) (cars (length inbound))
