-- How many codes each step loses, and the ring of one slot for each track that tells it.
use Rattle.std.specs.Prelude.{ℕ, ◌+◌, ◌-◌, ◌%◌, ◌≤◌, ◌<◌, ◌≡◌, cond, List, leb, get_or}
use Rattle.yard.specs.Codes.{F}

-- the codes that a step more cannot double: those more than W steps short
abbrev pub lost : ℕ → ℕ → ℕ
lost W h = cond (leb W h) (F W (h - W)) 0

-- slot j mod W holds what step j loses, for the W steps from h on
abbrev pub Ring : ℕ → List ℕ → ℕ → Type 0
Ring W ring h = (j : ℕ) → h ≤ j → j < h + W → get_or ring (j % W) 0 ≡ lost W j
