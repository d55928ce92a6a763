-- An eye reads the bits of bytes in order, some whole bytes ahead of its place.
use Rattle.std.specs.Prelude.{ℕ, ◌-◌, ◌*◌, ◌%◌, ◌^◌, ◌≤◌, ◌≡◌, List}
use Rattle.bits.specs.Fields.{field_at}

-- the lowest `held` bits of a word are those before the byte that is read next
pub record Sees (bytes : List ℕ) (next held word : ℕ) : Type 0 where
  pub bits : word % 2 ^ held ≡ field_at bytes (next * 8 - held) held
  pub behind : held ≤ next * 8
  pub few : held ≤ 47
