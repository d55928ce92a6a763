-- What it means that items are below a bound, and that items are written to the front of a list.
use Rattle.std.specs.Prelude.{ℕ, ◌<◌, ◌≡◌, List, length, get_or}
use Rattle.yard.specs.Answers.{onto}

-- the items of a list are below a bound
abbrev pub Under : ℕ → List ℕ → Type 0
Under bound l = (i : ℕ) → i < length l → get_or l i 0 < bound

-- n items have come to stand at the front of a buffer, and no others changed
pub record Front (items before : List ℕ) (n : ℕ) (after : List ℕ) : Type 0 where
  pub number : n ≡ length items
  pub listed : after ≡ onto items before
