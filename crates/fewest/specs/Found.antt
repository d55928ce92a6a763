-- What the plan of the call answers and writes.
use Rattle.std.specs.Prelude.{ℕ, List}
use Rattle.yard.specs.declared.Answer.{Answer}
use Rattle.yard.specs.Night.{Night}
use Rattle.yard.specs.Derived.{steps_needed}
use Rattle.derive.specs.Plans.{Planned}
use Rattle.fewest.specs.Fewest.{plan_in, SortedIn, FewestPasses}

-- 5, 6, or else the steps and the passes, of the codes found
pub record Found (n : Night) (h : ℕ) (before : List ℕ) (r : Answer) (after : List ℕ) : Type 0 where
  pub codes : List ℕ
  pub fewest : SortedIn n h → FewestPasses n h codes
  pub planned : Planned (plan_in n h codes) (steps_needed n) h before r after
