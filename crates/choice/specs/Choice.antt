-- The cheapest rising choice: blocks in a row, each of a weight, take numbers that rise from block to block, and each number costs
-- something. Blocks and numbers count from 0.
use Rattle.std.specs.Prelude.{ℕ, suc, ◌+◌, ◌*◌, ◌/◌, ◌^◌, ◌≤◌, ◌<◌, ◌≡◌, List, length, get_or}
use Rattle.yard.specs.Words.{total, up_from}
use Rattle.yard.specs.Limits.{first_limits}
use Rattle.yard.specs.Night.{sum}

-- a choice: each of B blocks takes a number below K, and each a greater one than the block before
pub record Rising (K B : ℕ) (x : ℕ → ℕ) : Type 0 where
  pub below : (b : ℕ) → b < B → x b < K
  pub rises : (b : ℕ) → suc b < B → x b < x (suc b)

-- what it costs: for each block its weight times what its number costs
abbrev pub bill : (ℕ → ℕ) → (ℕ → ℕ) → ℕ → (ℕ → ℕ) → ℕ
bill weight cost B x = total (λ b. weight b * cost (x b)) (up_from 0 B)

abbrev pub bill_of : List ℕ → List ℕ → (ℕ → ℕ) → ℕ
bill_of weights costs x = bill (λ b. get_or weights b 0) (λ i. get_or costs i 0) (length weights) x

-- the cheapest choice: none costs less, and of those that cost as much none is smaller at the first block where they differ
pub record Cheapest (weights costs : List ℕ) (x : ℕ → ℕ) : Type 0 where
  pub rising : Rising (length costs) (length weights) x
  pub least : (y : ℕ → ℕ) → Rising (length costs) (length weights) y → bill_of weights costs x ≤ bill_of weights costs y
  pub smallest : (y : ℕ → ℕ) → Rising (length costs) (length weights) y → bill_of weights costs y ≡ bill_of weights costs x →
      (b : ℕ) → b < length weights → ((c : ℕ) → c < b → y c ≡ x c) → x b ≤ y b

-- the most places that a table of picks takes: blocks times the choices of one, which together are one more than the numbers of the most steps
abbrev pub half_of_numbers : ℕ
half_of_numbers = 2 ^ first_limits.steps / 2

abbrev pub picks_most : ℕ
picks_most = half_of_numbers * (half_of_numbers + 1)

-- blocks and numbers as the codes and cars of a night make them: at least one block, a number for each, and nothing beyond document 01's limits
pub record Choosable (weights costs : List ℕ) : Type 0 where
  pub some : 1 ≤ length weights
  pub enough : length weights ≤ length costs
  pub numbers : length costs ≤ 2 ^ first_limits.steps
  pub bits : (i : ℕ) → i < length costs → get_or costs i 0 ≤ first_limits.steps
  pub cars : sum weights ≤ first_limits.cars
