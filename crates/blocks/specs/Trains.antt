-- The parts of the work. A block is a run of a train's cars with no break among them: its cars have as many breaks before them, and that is
-- the block's number. The work begins with the number of each car's block, puts in its place the number of an allowed code, the same for all
-- cars of a block, and at last the code itself.
use Rattle.std.specs.Prelude.{ℕ, suc, ◌-◌, ◌^◌, ◌≤◌, ◌<◌, ◌≡◌, List, map, length, get_or, take, drop}
use Rattle.std.specs.Int.Count.{ones}
use Rattle.yard.specs.Limits.{first_limits}
use Rattle.yard.specs.Words.{count, up_from}
use Rattle.yard.specs.Night.{sum}
use Rattle.choice.specs.Choice.{Cheapest}

-- the number of a train's last car, whose block is the last
abbrev pub last_of : List ℕ → ℕ
last_of numbers = get_or numbers (length numbers - 1) 0

-- the weight of each block of a train, from the numbers of its cars: how many cars have its number
abbrev pub weights_of : List ℕ → List ℕ
weights_of numbers = map (λ b. count b numbers) (up_from 0 (suc (last_of numbers)))

-- a table has the weights of the blocks below n
abbrev pub Weighed : ℕ → List ℕ → List ℕ → Type 0
Weighed n numbers table = (b : ℕ) → b < n → get_or table b 0 ≡ count b numbers

-- the block of each car of a train: there is a car at least and no more than the limit, no block is above the last car's, and that is
-- below K
pub record Blocked (K : ℕ) (numbers : List ℕ) : Type 0 where
  pub some : 1 ≤ length numbers
  pub few : length numbers ≤ first_limits.cars
  pub upto : (i : ℕ) → i < length numbers → get_or numbers i 0 ≤ last_of numbers
  pub below : last_of numbers < K

-- what the numbers of allowed codes cost
pub record Costs (costs : List ℕ) : Type 0 where
  pub numbers : length costs ≤ 2 ^ first_limits.steps
  pub bits : (i : ℕ) → i < length costs → get_or costs i 0 ≤ first_limits.steps

-- each car of a train has in place of its block's number the number that the cheapest choice gives the block
pub record Chosen (costs before after : List ℕ) : Type 0 where
  pub choice : ℕ → ℕ
  pub cheapest : Cheapest (weights_of before) costs choice
  pub given : after ≡ map choice before

-- the part of a list by car that belongs to the train behind the first t
abbrev pub part_of : List ℕ → List ℕ → ℕ → List ℕ
part_of lengths l t = take (get_or lengths t 0) (drop (sum (take t lengths)) l)

-- train by train
pub record AllBlocked (lengths : List ℕ) (K : ℕ) (numbers : List ℕ) : Type 0 where
  pub all : sum lengths ≡ length numbers
  pub few : length numbers ≤ first_limits.cars
  pub train : (t : ℕ) → t < length lengths → Blocked K (part_of lengths numbers t)

abbrev pub AllChosen : List ℕ → List ℕ → List ℕ → List ℕ → Type 0
AllChosen lengths costs before after = (t : ℕ) → t < length lengths → Chosen costs (part_of lengths before t) (part_of lengths after t)

-- the same, with the code of each number in its place
pub record Coded (lengths allowed before after : List ℕ) : Type 0 where
  pub numbers : List ℕ
  pub chosen : AllChosen lengths (map (λ x. ones x) allowed) before numbers
  pub size : length numbers ≡ length before
  pub coded : after ≡ map (λ q. get_or allowed q 0) numbers
