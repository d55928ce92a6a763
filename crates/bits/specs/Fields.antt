-- Numbers in the bits of bytes, by the place of their first bit.
use Rattle.std.specs.Prelude.{ℕ, Bool, ◌&&◌, List, eqb, length, drop, replicate}
use Rattle.yard.specs.Words.{every}
use Rattle.yard.specs.Bits.{from_bits, unpacked, whole_bytes, bits_of}

-- the bits that an eye can reach: more than any card has
abbrev pub longest : ℕ
longest = 8388608

-- the number of w bits at a place, and the n numbers of w bits each from a place on
unfoldable pub field_at : List ℕ → ℕ → ℕ → ℕ
field_at bytes at w = from_bits w (drop at (bits_of bytes))

unfoldable pub fields_at : List ℕ → ℕ → ℕ → ℕ → List ℕ
fields_at bytes at w n = unpacked (replicate n w) (drop at (bits_of bytes))

-- bytes whose fields end at a place: the bits behind it are all 0, and there is no byte more
unfoldable pub ends_at : List ℕ → ℕ → Bool
ends_at bytes at = every (λ b. eqb b 0) (drop at (bits_of bytes)) && eqb (length bytes) (whole_bytes at)
