-- The limits that the code has are those of the meaning.
use mathlib.Core.Path.{◌≡◌, refl}
use Rattle.yard.specs.declared.TheConstants.{LIMITS, FIRST_LIMITS}
use Rattle.yard.specs.Limits.{limits, first_limits}

pub limits-are : LIMITS ≡ limits
limits-are = refl

pub first-limits-are : FIRST_LIMITS ≡ first_limits
first-limits-are = refl
