-- What an eye is on, as the contracts speak of it: some bytes, and a place in their bits.
use Rattle.std.specs.Prelude.{ℕ, ◌-◌, ◌*◌, List}
use Rattle.bits.specs.declared.fields.Eye.{Eye}

-- the bytes that an eye is on, and the place of the bit that it reads next
pub record Sight : Type 0 where
  pub bytes : List ℕ
  pub at : ℕ

abbrev pub sight : List ℕ → ℕ → Sight
sight bytes at = record { bytes = bytes; at = at }

-- the place of the first bit that an eye holds, and its sight
abbrev pub place : Eye → ℕ
place e = e.next * 8 - e.held

unfoldable pub sight_of : Eye → Sight
sight_of e = sight e.bytes.now (place e)
