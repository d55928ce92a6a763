-- The ranges of the trains that are left.
use Rattle.std.specs.Prelude.{ℕ, List}
use Rattle.std.specs.declared.ops.Range.{Range}
use Rattle.trains.specs.declared.Trains.{Trains}
use Rattle.trains.specs.Walk.{ranges}

abbrev pub ranges_left : Trains → List (Range ℕ)
ranges_left s = ranges s.before s.lengths.now
