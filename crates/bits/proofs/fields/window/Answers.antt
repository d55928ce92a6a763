-- The proof of `window`: four bytes are one number of 32 bits, within the card and at its end.
use native.Mathlib.Omega.{arith}
use Rattle.bits.proofs.Places.{four_bytes}
use Rattle.bits.proofs.fields.window.Goals as goal

pub returns-then-i-bytes : goal.returns-then-i-bytes
returns-then-i-bytes c =
    rw c.from_be_bytes.ensures (omega (arith, four_bytes c.args.bytes.now (λ i. (c.type_inv.bytes i).fits) c.args.i))

pub returns-else-i-bytes : goal.returns-else-i-bytes
returns-else-i-bytes c =
    rw c.from_be_bytes-else-i-bytes.ensures (omega (arith, four_bytes c.args.bytes.now (λ i. (c.type_inv.bytes i).fits) c.args.i))
