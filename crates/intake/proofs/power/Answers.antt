-- The proof of `power`: 2 to the 16 fits.
use native.Mathlib.Nat.{one-mul, mod-eq_of_lt, lt_of_le_of_lt}
use lib.Dec.{lit<}
use lib.Pow.{pow_mono}
use Rattle.intake.proofs.power.Goals as goal

pub returns : goal.returns
returns c = rw (one-mul, mod-eq_of_lt (lt_of_le_of_lt (pow_mono c.requires) (lit< tt)))
