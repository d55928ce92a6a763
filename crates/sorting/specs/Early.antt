-- What the search for the first early pull finds.
use Rattle.std.specs.Prelude.{ℕ, cond, List, leb, Option, Some, None}
use Rattle.sorting.specs.declared.early.EarlyPull.{EarlyPull}
use Rattle.yard.specs.Waiting.{lowest_waiting, first_waiting}

-- the first step at which a car waits, and the lowest such car
abbrev pub early_found : ℕ → ℕ → List ℕ → Option EarlyPull
early_found W h codes =
    cond (leb h (first_waiting W h codes)) None
    (Some (record { step = first_waiting W h codes; car = lowest_waiting W h codes (first_waiting W h codes) }))
