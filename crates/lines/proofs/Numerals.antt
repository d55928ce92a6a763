-- A number in decimal: the fewest digits that hold it are as many as its numeral has.
use Prim.Native.Nat.{ℕ, ◌-◌, ◌^◌, ◌≤◌, ◌<◌}
use mathlib.Core.Path.{◌≡◌, sym, ap}
use mathlib.Core.Logic.{⊎_elim}
use native.Mathlib.Omega.{arith}
use native.Mathlib.Nat.{le_trans, pow-le-pow_right}
use lib.Dec.{ltb}
use borrow.Author.Tests.{lt-ltb, le-ltb}
use Rattle.io.specs.Digits.{last_digits, IsDigitCount}
use Rattle.yard.proofs.general.First.{first_found}
use Rattle.yard.proofs.general.Numbers.{le-or-lt}
use Rattle.lines.specs.Text.{width, numeral}

-- a number of 64 bits has no more than twenty digits
fewest-most : (n k : ℕ) → n < 2 ^ 64 → IsDigitCount 10 1 n k → k ≤ 20
fewest-most n k w f =
    ⊎_elim (λ l. l)
    (λ l.
    let long : 10 ^ 20 ≤ n = le_trans (pow-le-pow_right {n = 10} (omega arith) {i = 20} {j = k - 1} (omega arith)) (f.2 (omega arith)) in
    absurd (omega (arith, long, w)))
    (le-or-lt k 20)

fewest-width : (n k : ℕ) → k ≤ 20 → IsDigitCount 10 1 n k → k ≡ width n
fewest-width n k most f =
    sym
    (first_found (λ j. ltb n (10 ^ j)) 20 1 k f.0 (omega arith) (lt-ltb n (10 ^ k) f.1)
    (λ j low less. le-ltb n (10 ^ j) (le_trans (pow-le-pow_right {n = 10} (omega arith) {i = j} {j = k - 1} (omega arith)) (f.2 (omega arith)))))

-- the fewest digits that hold a number are its numeral
pub digits-numeral : (n k : ℕ) → n < 2 ^ 64 → IsDigitCount 10 1 n k → last_digits 10 k n ≡ numeral n
unfolding numeral
digits-numeral n k w f = ap (λ j. last_digits 10 j n) (fewest-width n k (fewest-most n k w f) f)
