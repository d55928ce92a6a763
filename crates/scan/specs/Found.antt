-- What a search tells that ended at place k: the place, or none where it went to the end.
use Rattle.std.specs.Prelude.{ℕ, Option, Some, None, nat_lt, if◌then◌else◌}

abbrev pub found : ℕ → ℕ → Option ℕ
found end k = if nat_lt k end then Some k else None
