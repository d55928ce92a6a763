-- Which code of a list needs more tracks than there are.
use Rattle.std.specs.Prelude.{ℕ, Bool, List, ltb, length, get_or}
use Rattle.yard.specs.Limits.{limits}
use Rattle.yard.specs.Words.{first}
use Rattle.yard.specs.Codes.{fewest_tracks}

-- the code at this index needs more tracks than these to be never pulled early; the first such index
abbrev pub wider : ℕ → List ℕ → ℕ → Bool
wider W codes i = ltb W (fewest_tracks limits.steps (get_or codes i 0))

abbrev pub first_wider : ℕ → List ℕ → ℕ
first_wider W codes = first (wider W codes) (length codes) 0
