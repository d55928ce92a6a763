-- Laws of one bit of a word: setting it changes no other, and changes the word exactly if it was not set.
use mathlib.Core.Path.{◌≡◌, refl, sym, ap, ◌∙◌}
use mathlib.Core.Bool.{Bool, ◌||◌, or_comm}
use Prim.Native.Nat.{ℕ, zero, suc, ◌+◌, ◌*◌, ◌/◌, ◌%◌, ◌^◌, ◌<◌}
use native.Mathlib.Nat.{mod-lt, add-zero, zero-div, one-mul}
use native.Mathlib.Omega.{arith}
use lib.Dec.{eqb, lit<}
use lib.Pow.{pow_pos, pow-lt, high_ones, shl_exact}
use lib.Bits.{bit_or, bit_and, or_shr, or_mod, or_add_and, and_high}
use borrow.Author.Tests.{eq-eqb, ne_eqb}
use Rattle.yard.specs.Replay.{bit}
use Rattle.yard.proofs.general.Numbers.{compared}
use Rattle.yard.proofs.yards.Codes.{bit-above}
use Rattle.yard.proofs.yards.Counting.{bit-top, bit-under}

-- a bit is set in one number or the other
bit-or : (k a b : ℕ) → bit k (bit_or a b) ≡ (bit k a || bit k b)
bit-or k a b =
    ap (λ (q : ℕ). eqb (q % 2) 1) (or_shr a b k)
    ∙ ap (λ (d : ℕ). eqb d 1) (or_mod (a / 2 ^ k) (b / 2 ^ k) 1)
    ∙ digits (a / 2 ^ k % 2) (b / 2 ^ k % 2) (mod-lt (a / 2 ^ k) (lit< tt)) (mod-lt (b / 2 ^ k) (lit< tt))
  where
    digits : (x y : ℕ) → x < 2 → y < 2 → eqb (bit_or x y) 1 ≡ (eqb x 1 || eqb y 1)
    digits zero y l m = refl
    digits (suc zero) zero l m = refl
    digits (suc zero) (suc zero) l m = refl
    digits (suc zero) (suc (suc y)) l m = absurd (omega arith)
    digits (suc (suc x)) y l m = absurd (omega arith)

-- one power of two has one bit
bit-power : (k s : ℕ) → bit k (2 ^ s) ≡ eqb k s
bit-power k s = compared (bit k (2 ^ s) ≡ eqb k s) k s under at above
  where
    alone : 2 ^ s ≡ 2 ^ s + 0
    alone = sym (add-zero (2 ^ s))

    under : k < s → bit k (2 ^ s) ≡ eqb k s
    under l =
        ap (bit k) alone ∙ bit-under s 0 k (pow_pos s) l ∙ ap (λ (q : ℕ). eqb (q % 2) 1) (zero-div (2 ^ k))
        ∙ sym (ne_eqb k s (λ e. omega arith))

    at : k ≡ s → bit k (2 ^ s) ≡ eqb k s
    at e = ap (λ (j : ℕ). bit j (2 ^ s)) e ∙ ap (bit s) alone ∙ bit-top s 0 (pow_pos s) ∙ sym (eq-eqb k s e)

    above : s < k → bit k (2 ^ s) ≡ eqb k s
    above l = bit-above k (2 ^ s) (pow-lt l) ∙ sym (ne_eqb k s (λ e. omega arith))

pub bit-set : (k word s : ℕ) → bit k (bit_or word (2 ^ s)) ≡ (eqb k s || bit k word)
bit-set k word s = bit-or k word (2 ^ s) ∙ or_comm (bit k word) (bit k (2 ^ s)) ∙ ap (λ (b : Bool). b || bit k word) (bit-power k s)

-- the word stays as it is exactly if the bit was set
pub bit-was-set : (word s : ℕ) → eqb word (bit_or word (2 ^ s)) ≡ bit s word
bit-was-set word s = go (word / 2 ^ s % 2) (mod-lt (word / 2 ^ s) (lit< tt)) both
  where
    common : bit_and word (2 ^ s) ≡ (word / 2 ^ s % 2) * 2 ^ s
    common = ap (bit_and word) (sym (high_ones 1 s ∙ one-mul (2 ^ s))) ∙ and_high word 1 s

    both : bit_or word (2 ^ s) + (word / 2 ^ s % 2) * 2 ^ s ≡ word + 2 ^ s
    both = ap (λ (z : ℕ). bit_or word (2 ^ s) + z) (sym common) ∙ or_add_and word (2 ^ s)

    go : (d : ℕ) → d < 2 → bit_or word (2 ^ s) + d * 2 ^ s ≡ word + 2 ^ s → eqb word (bit_or word (2 ^ s)) ≡ eqb d 1
    go zero l e = ne_eqb word (bit_or word (2 ^ s)) (λ q. omega (arith, pow_pos s))
    go (suc zero) l e = eq-eqb word (bit_or word (2 ^ s)) (omega arith)
    go (suc (suc d)) l e = absurd (omega arith)

-- one bit of a word, as it is made by a shift
pub one_bit : (x : ℕ) → 1 * 2 ^ (x % 64) % 2 ^ 64 ≡ 2 ^ (x % 64)
one_bit x =
    let below : x % 64 < 64 = mod-lt x (lit< tt) in
    shl_exact 1 (x % 64) 64 (lit< tt) (omega arith) ∙ one-mul (2 ^ (x % 64))
