-- Doubles by their value: one value is one double, order is that of the fractions, and an exact product is rounded once.
use Prim.Native.Nat.{ℕ, ◌+◌, ◌-◌, ◌*◌, ◌/◌, ◌^◌, ◌<◌}
use native.Mathlib.Nat.{mul-pos, mul_assoc, mul_right_comm, mul-mul-mul_comm, mul-lt-mul_of_pos_right, lt_of_mul-lt-mul_right, eq_of_mul-eq-mul_right}
use native.Mathlib.Nat.{le_of_lt, le_of_eq, le_antisymm}
use mathlib.Core.Path.{◌≡◌, refl, sym, ap, ◌∙◌}
use mathlib.Core.Logic.{⊎_elim}
use mathlib.Core.Bool.{Bool, true, false, not, ◌&&◌, ◌||◌, cond}
use lib.Dec.{T, leb, ltb, eqb}
use lib.Ieee.{Float, nan, inf, fin, Format, prec, low, hid, top, up, down, size, unlike, below, level, round, mul, lt, eq, le, fits, is_nan, to_bits, of_bits}
use lib.Ieee.Fits.{down_pos}
use lib.Ieee.Exact.{HasValue}
use lib.Ieee.Nearest.{div_same}
use lib.Ieee.Scale.{round_same}
use lib.Ieee.Bits.{of_bits-to_bits}
use borrow.Author.Tests.{ltb-true, leb-true, eqb-true, lt-ltb, le-ltb, le-leb, eq-eqb}
use Rattle.yard.proofs.general.Bools.{same_test}
use Rattle.yard.proofs.general.Numbers.{le-or-lt}

-- the bits of n of the smallest values
abbrev bits_at : Format → Bool → ℕ → ℕ
bits_at f s n = cond s (top f) 0 + (size n - prec f) * hid f + n / 2 ^ (size n - prec f)

bits_of : (f : Format) (x : Float) (s : Bool) (a c : ℕ) → 0 < c → HasValue x s a c → to_bits f x ≡ bits_at f s (a * 2 ^ low f / c)
unfolding to_bits
bits_of f nan s a c C v = elim v [ ]
bits_of f (inf _) s a c C v = elim v [ ]
bits_of f (fin t m e) s a c C v =
    let l = 2 ^ low f in
    let same : m * up e * l * c ≡ a * l * down e = mul_right_comm (m * up e) l c ∙ ap (λ (z : ℕ). z * l) v.1 ∙ mul_right_comm a (down e) l in
    λ i. bits_at f (v.0 i) (div_same (m * up e * l) (down e) (a * l) c (down_pos e) C same i)

pub value-unique : (f : Format) (x y : Float) (s : Bool) (a c : ℕ) → 0 < c → T (fits f x) → T (fits f y) → HasValue x s a c → HasValue y s a c → x ≡ y
value-unique f x y s a c C p q v w =
    sym (of_bits-to_bits f x p) ∙ ap (of_bits f) (bits_of f x s a c C v ∙ sym (bits_of f y s a c C w)) ∙ of_bits-to_bits f y q

pub value-number : (x : Float) (s : Bool) (a c : ℕ) → HasValue x s a c → T (not (is_nan x))
unfolding is_nan
value-number nan s a c v = elim v [ ]
value-number (inf _) s a c v = elim v [ ]
value-number (fin t m e) s a c v = tt

pub mul-values : (f : Format) (x y : Float) (a c b d : ℕ) → 0 < c → 0 < d → HasValue x false a c → HasValue y false b d
    → mul f x y ≡ round f false (a * b) (c * d)
unfolding mul
mul-values f nan y a c b d C D v w = elim v [ ]
mul-values f (inf _) y a c b d C D v w = elim v [ ]
mul-values f (fin s m e) nan a c b d C D v w = elim w [ ]
mul-values f (fin s m e) (inf _) a c b d C D v w = elim w [ ]
mul-values f (fin s m e) (fin t n g) a c b d C D v w =
    (λ i. round f (unlike (v.0 i) (w.0 i)) (m * up e * (n * up g)) (down e * down g))
    ∙ round_same f false (m * up e * (n * up g)) (down e * down g) (a * b) (c * d) (mul-pos (down_pos e) (down_pos g)) (mul-pos C D)
    (mul-mul-mul_comm (m * up e) (n * up g) c d
    ∙ ap (λ (z : ℕ). z * (n * up g * d)) v.1
    ∙ ap (λ (z : ℕ). a * down e * z) w.1
    ∙ mul-mul-mul_comm a (down e) b (down g))

-- a test of two numbers that a common factor does not change
abbrev Scales : (ℕ → ℕ → Bool) → Type 0
Scales test = (x y c : ℕ) → 0 < c → test (x * c) (y * c) ≡ test x y

ltb-scales : Scales ltb
ltb-scales x y c C =
    same_test (ltb (x * c) (y * c)) (ltb x y)
    (λ e. lt-ltb x y (lt_of_mul-lt-mul_right c (ltb-true (x * c) (y * c) e)))
    (λ e. lt-ltb (x * c) (y * c) (mul-lt-mul_of_pos_right (ltb-true x y e) C))

eqb-scales : Scales eqb
eqb-scales x y c C =
    same_test (eqb (x * c) (y * c)) (eqb x y)
    (λ e. eq-eqb x y (eq_of_mul-eq-mul_right c C x y (eqb-true (x * c) (y * c) e)))
    (λ e. eq-eqb (x * c) (y * c) (ap (λ (z : ℕ). z * c) (eqb-true x y e)))

-- so x / p and y / q compare as a / c and b / c, which they equal
crossed : (test : ℕ → ℕ → Bool) → Scales test → (x y p q a b c : ℕ) → 0 < p → 0 < q → 0 < c → x * c ≡ a * p → y * c ≡ b * q → test (x * q) (y * p) ≡ test a b
crossed test scales x y p q a b c P Q C v w =
    sym (scales (x * q) (y * p) c C)
    ∙ (λ i. test ((mul_right_comm x q c ∙ ap (λ (z : ℕ). z * q) v ∙ mul_assoc a p q) i)
    ((mul_right_comm y p c ∙ ap (λ (z : ℕ). z * p) w ∙ mul_right_comm b q p ∙ mul_assoc b p q) i))
    ∙ scales a b (p * q) (mul-pos P Q)

-- two doubles that are not negative compare as their values do
abbrev pub Compares : (Float → Float → Bool) → (ℕ → ℕ → Bool) → Type 0
Compares doubles numbers = (x y : Float) (a b c : ℕ) → 0 < c → HasValue x false a c → HasValue y false b c → doubles x y ≡ numbers a b

pub lt-values : Compares lt ltb
unfolding lt
lt-values nan y a b c C v w = elim v [ ]
lt-values (inf _) y a b c C v w = elim v [ ]
lt-values (fin s m e) nan a b c C v w = elim w [ ]
lt-values (fin s m e) (inf _) a b c C v w = elim w [ ]
lt-values (fin s m e) (fin t n g) a b c C v w =
    (λ i. below (v.0 i) (m * up e * down g) (w.0 i) (n * up g * down e))
    ∙ crossed ltb ltb-scales (m * up e) (n * up g) (down e) (down g) a b c (down_pos e) (down_pos g) C v.1 w.1

and-true : (p : Bool) → p && true ≡ p
and-true true = refl
and-true false = refl

pub eq-values : Compares eq eqb
unfolding eq
eq-values nan y a b c C v w = elim v [ ]
eq-values (inf _) y a b c C v w = elim v [ ]
eq-values (fin s m e) nan a b c C v w = elim w [ ]
eq-values (fin s m e) (inf _) a b c C v w = elim w [ ]
eq-values (fin s m e) (fin t n g) a b c C v w =
    (λ i. level (v.0 i) (m * up e * down g) (w.0 i) (n * up g * down e))
    ∙ and-true (eqb (m * up e * down g) (n * up g * down e))
    ∙ crossed eqb eqb-scales (m * up e) (n * up g) (down e) (down g) a b c (down_pos e) (down_pos g) C v.1 w.1

less-or-same : (a b : ℕ) → ltb a b || eqb a b ≡ leb a b
less-or-same a b =
    ⊎_elim
    (λ h.
    rw (le-ltb a b h)
    (same_test (eqb a b) (leb a b) (λ e. le-leb a b (le_of_eq (eqb-true a b e))) (λ e. eq-eqb a b (le_antisymm (leb-true a b e) h))))
    (λ h. rw (lt-ltb a b h, le-leb a b (le_of_lt h)))
    (le-or-lt b a)

pub le-values : Compares le leb
unfolding le
le-values x y a b c C v w = (λ i. lt-values x y a b c C v w i || eq-values x y a b c C v w i) ∙ less-or-same a b
