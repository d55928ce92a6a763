-- The night and the plan that a call is lent, and the counts that it tests.
use Rattle.std.specs.Prelude.{ℕ}
use Rattle.yard.specs.declared.Night.{Night as LentNight}
use Rattle.yard.specs.declared.Plan.{Plan as LentPlan}
use Rattle.yard.specs.declared.Sizes.{Sizes}
use Rattle.yard.specs.Night.{Night, Plan, night_of}

abbrev pub the_night : LentNight → Night
the_night n = night_of n.lengths.now n.inbound.now n.closed n.tracks n.room

abbrev pub the_plan : LentPlan → Plan
the_plan p = record { night = the_night p.night; steps = p.steps; codes = p.codes.now }

abbrev pub sizes_of : ℕ → ℕ → ℕ → ℕ → ℕ → Sizes
sizes_of n m W C h = record { cars = n; trains = m; tracks = W; room = C; steps = h }
