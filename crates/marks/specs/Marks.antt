-- Marks by car, one bit for each in words of 64 bits: which cars were met, and for how many there is room. Cars count from 1.
use Rattle.std.specs.Prelude.{ℕ, ◌+◌, ◌-◌, ◌*◌, ◌/◌, ◌%◌, ◌≤◌, ◌≡◌, Bool, true, false, ◌||◌, List, eqb, length, get_or, take}
use Rattle.yard.specs.Words.{listed, first}
use Rattle.yard.specs.Replay.{bit}
use Rattle.yard.specs.Answers.{bad_place, first_bad}

-- the cars for which there is room
unfoldable pub markable : List ℕ → ℕ
markable words = 64 * length words

-- Cars are dealt out to the words in turn, so that neighbours stand in different words; the last car has the place of car 0, which does not exist.
unfoldable pub marked : List ℕ → ℕ → Bool
marked words car = bit (car / length words % 64) (get_or words (car % length words) 0)

-- a car has been marked besides those marked before, and no other
pub record Marks (before : List ℕ) (car : ℕ) (after : List ℕ) : Type 0 where
  pub room : markable after ≡ markable before
  pub now : (x : ℕ) → 1 ≤ x → x ≤ markable before → marked after x ≡ (eqb x car || marked before x)

-- the first i places have been looked at: their cars are marked, and none of them is bad, so that the rest of the search finds what the whole finds
pub record Sought (inbound marks : List ℕ) (i : ℕ) : Type 0 where
  pub room : length inbound ≤ markable marks
  pub met : (x : ℕ) → 1 ≤ x → x ≤ markable marks → marked marks x ≡ listed x (take i inbound)
  pub left : first (bad_place inbound) (length inbound - i) (i + 1) ≡ first_bad inbound

-- one place more has been looked at: it is the first bad one, or the search goes on
pub record Looked (inbound : List ℕ) (i : ℕ) (bad : Bool) (after : List ℕ) : Type 0 where
  pub found : bad ≡ true → i + 1 ≡ first_bad inbound
  pub on : bad ≡ false → Sought inbound after (i + 1)
