-- A break as the places of the cars tell it.
use Rattle.std.specs.Prelude.{ℕ, suc, Bool, List, ltb}
use Rattle.yard.specs.Night.{item_of}

-- by their places, car j + 1 comes in before car j
abbrev pub turned : List ℕ → ℕ → Bool
turned places j = ltb (item_of places (suc j)) (item_of places j)
