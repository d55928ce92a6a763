-- The allowed codes as a part of a table.
use Rattle.std.specs.Prelude.{ℕ, ◌-◌, ◌≤◌, ◌≡◌, Bool, List, length, take, drop}
use Rattle.yard.specs.Codes.{allowed_codes}
use Rattle.codes.specs.declared.Part.{Part}

-- the part lies within the table, and has the codes that a night allows
pub record AllowedPart (closed : Bool) (W h : ℕ) (table : List ℕ) (part : Part) : Type 0 where
  pub begins : part.from ≤ part.to
  pub ends : part.to ≤ length table
  pub listed : take (part.to - part.from) (drop part.from table) ≡ allowed_codes closed W h
