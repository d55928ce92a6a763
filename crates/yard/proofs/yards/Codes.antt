-- Laws of a code's bits: the low s bits, and how many of them are set.
use mathlib.Core.Path.{◌≡◌, refl, sym, ap, ◌∙◌}
use mathlib.Core.Bool.{Bool, true, false}
use Prim.Native.Nat.{ℕ, zero, suc, ◌+◌, ◌*◌, ◌/◌, ◌%◌, ◌^◌, ◌<◌}
use native.Mathlib.Nat.{mod-lt, mod-eq_of_lt, mod-one, pow-succ', div-eq_of_lt, add-zero, zero-add, add-suc, suc-add}
use native.Mathlib.Omega.{arith}
use lib.Dec.{eqb, lit<}
use lib.Count.{ones, ones_cat}
use lib.Arith.{mod-mul}
use lib.Pow.{pow_pos}
use Rattle.yard.specs.Words.{tally, total, up_from}
use Rattle.yard.specs.Replay.{bit}

pub tally-bit : (s x : ℕ) → tally (bit s x) ≡ x / 2 ^ s % 2
tally-bit s x = go (x / 2 ^ s % 2) (mod-lt (x / 2 ^ s) (lit< tt))
  where
    go : (d : ℕ) → d < 2 → tally (eqb d 1) ≡ d
    go zero m = refl
    go (suc zero) m = refl
    go (suc (suc d)) m = absurd (omega arith)

-- one bit more: the low s + 1 bits are bit s and the low s bits
pub low-suc : (s x : ℕ) → x % 2 ^ suc s ≡ tally (bit s x) * 2 ^ s + x % 2 ^ s
low-suc s x =
    ap (λ (k : ℕ). x % k) (pow-succ' 2 s) ∙
    (mod-mul x (lit< tt) (pow_pos s) ∙ ap (λ (k : ℕ). k * 2 ^ s + x % 2 ^ s) (sym (tally-bit s x)))

pub low-zero : (x : ℕ) → x % 2 ^ 0 ≡ 0
low-zero x = mod-one x

pub low-all : (h x : ℕ) → x < 2 ^ h → x % 2 ^ h ≡ x
low-all h x m = mod-eq_of_lt m

-- a bit above a number's length is not set
pub bit-above : (k x : ℕ) → x < 2 ^ k → bit k x ≡ false
bit-above k x m = ap (λ (q : ℕ). eqb (q % 2) 1) (div-eq_of_lt m)

-- a sum over the numbers from a on, with the last one split off
pub total-last : (f : ℕ → ℕ) (a n : ℕ) → total f (up_from a (suc n)) ≡ total f (up_from a n) + f (a + n)
total-last f a zero = omega (arith, ap f (add-zero a))
total-last f a (suc n) = omega (arith, total-last f (suc a) n, ap f (suc-add a n ∙ sym (add-suc a n)))

pub total-next : (f : ℕ → ℕ) (n : ℕ) → total f (up_from 0 (suc n)) ≡ total f (up_from 0 n) + f n
total-next f n = total-last f 0 n ∙ ap (λ (k : ℕ). total f (up_from 0 n) + f k) (zero-add n)

-- how many of the bits below s are set
abbrev pub set_bits : ℕ → ℕ → ℕ
set_bits s x = total (λ k. tally (bit k x)) (up_from 0 s)

pub set_bits-suc : (s x : ℕ) → set_bits (suc s) x ≡ set_bits s x + tally (bit s x)
set_bits-suc s x = total-next (λ k. tally (bit k x)) s

ones-tally : (b : Bool) → ones (tally b) ≡ tally b
unfolding ones
ones-tally true = refl
ones-tally false = refl

-- the machine's count of ones is the count of set bits
pub ones-set_bits : (s x : ℕ) → ones (x % 2 ^ s) ≡ set_bits s x
ones-set_bits zero x = ap ones (low-zero x) ∙ ones-tally false
ones-set_bits (suc s) x =
    ap ones (low-suc s x) ∙
    (ones_cat s (tally (bit s x)) (x % 2 ^ s) (mod-lt x (pow_pos s)) ∙
    omega (arith, ones-tally (bit s x), ones-set_bits s x, set_bits-suc s x))

pub ones-code : (h x : ℕ) → x < 2 ^ h → ones x ≡ set_bits h x
ones-code h x m = ap ones (sym (low-all h x m)) ∙ ones-set_bits h x
