-- Numbers in bits and bits in bytes, most significant first.
use Rattle.std.specs.Prelude.{ℕ, zero, suc, ◌+◌, ◌*◌, ◌/◌, ◌%◌, ◌^◌, ◌<◌, List, [], ◌∷◌, ◌++◌, length, get_or, drop, replicate}

-- a list of bytes, as every slice of bytes is
abbrev pub Bytes : List ℕ → Type 0
Bytes l = (i : ℕ) → get_or l i 0 < 256

-- a number in w bits, most significant first, and the number of the first w bits of a list, 0 standing for bits that are missing
abbrev pub to_bits : ℕ → ℕ → List ℕ
to_bits zero x = []
to_bits (suc w) x = x / 2 ^ w % 2 ∷ to_bits w x

abbrev pub from_bits : ℕ → List ℕ → ℕ
from_bits zero bits = 0
from_bits (suc w) [] = 0
from_bits (suc w) (b ∷ bits) = b * 2 ^ w + from_bits w bits

-- fields of given widths, one behind the other, as bits; and back
abbrev pub packed : List ℕ → List ℕ → List ℕ
packed [] xs = []
packed (w ∷ ws) [] = []
packed (w ∷ ws) (x ∷ xs) = to_bits w x ++ packed ws xs

abbrev pub unpacked : List ℕ → List ℕ → List ℕ
unpacked [] bits = []
unpacked (w ∷ ws) bits = from_bits w bits ∷ unpacked ws (drop w bits)

-- bits in bytes, with zero bits to the byte, and the bits of bytes: fields of eight bits each
abbrev pub whole_bytes : ℕ → ℕ
whole_bytes bits = (bits + 7) / 8

abbrev pub to_bytes : List ℕ → List ℕ
to_bytes bits = unpacked (replicate (whole_bytes (length bits)) 8) bits

abbrev pub bits_of : List ℕ → List ℕ
bits_of bytes = packed (replicate (length bytes) 8) bytes
