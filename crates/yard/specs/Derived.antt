-- The derived plan of a night: the fewest steps, and for a car with q breaks before it in its train the allowed code number q.
use Rattle.std.specs.Prelude.{ℕ, ◌+◌, List, map, length}
use Rattle.yard.specs.Words.{tally}
use Rattle.yard.specs.Night.{Night, Plan, cars, breaks_before, most_breaks}
use Rattle.yard.specs.Codes.{code_number, fewest_steps}

-- the least h that gives c + 1 allowed codes: F(h) is at least c + 1, or F(h) - 1 where the night is closed
unfoldable pub steps_needed : Night → ℕ
steps_needed n = fewest_steps n.tracks (most_breaks n.lengths n.inbound + tally n.closed)

unfoldable pub derived_codes : Night → List ℕ
derived_codes n =
    map (λ car. code_number n.closed n.tracks (steps_needed n) (breaks_before n.lengths n.inbound car)) (cars (length n.inbound))

unfoldable pub derived_plan : Night → Plan
derived_plan n = record { night = n; steps = steps_needed n; codes = derived_codes n }
