-- Fields packed in bits and read back: one law over any list of widths, cited for bytes and for the card's fields alike.
use Prim.Native.Nat.{ℕ, zero, suc, ◌+◌, ◌-◌, ◌*◌, ◌/◌, ◌%◌, ◌^◌, ◌≤◌, ◌<◌}
use mathlib.Core.Path.{◌≡◌, refl, sym, ap, ◌∙◌}
use mathlib.Core.List.{List, [], ◌∷◌, ◌++◌, append_assoc, append-nil}
use native.Mathlib.Nat.{zero-mul, zero-add, le_refl, le_of_suc-le-suc, not-suc-le-zero, add-sub_of_le, suc-add, mul_assoc, mod-lt, mod-one}
use native.Mathlib.Nat.{mod-eq_of_lt, pow-succ', suc-mul, suc_inj, suc-ne-zero, mul-add-div_right, mul-add-mod_self_right}
use native.Mathlib.Numerals.{one-add}
use native.Mathlib.Omega.{arith}
use lib.Arith.{digits_lt, mod-mul}
use lib.ListN.{length, get_or, take, drop, replicate, length-append, length-replicate}
use lib.Pow.{pow_pos, high}
use lib.Seq.{drop_at, drop-drop, drop-length, get_or-drop, take-length}
use Rattle.yard.specs.Night.{sum}
use Rattle.yard.specs.Bits.{to_bits, from_bits, packed, unpacked, whole_bytes, to_bytes, bits_of}

-- every item of a list is below k
abbrev pub Below : ℕ → List ℕ → Type 0
Below k l = (i : ℕ) → get_or l i 0 < k

pub below-cons : {k x : ℕ} (l : List ℕ) → x < k → Below k l → Below k (x ∷ l)
below-cons l h b zero = h
below-cons l h b (suc i) = b i

pub below-append : {k : ℕ} (l m : List ℕ) → Below k l → Below k m → Below k (l ++ m)
below-append [] m bl bm = bm
below-append (x ∷ l) m bl bm = below-cons (l ++ m) (bl 0) (below-append l m (λ i. bl (suc i)) bm)

-- as many fields as widths, and each fits its width
abbrev pub Fits : List ℕ → List ℕ → Type 0
Fits [] [] = Unit {0}
Fits [] (x ∷ xs) = ⊥
Fits (w ∷ ws) [] = ⊥
Fits (w ∷ ws) (x ∷ xs) = (x < 2 ^ w) × Fits ws xs

pub fits-append : (ws xs vs ys : List ℕ) → Fits ws xs → Fits vs ys → Fits (ws ++ vs) (xs ++ ys)
fits-append [] [] vs ys f g = g
fits-append [] (x ∷ xs) vs ys f g = absurd f
fits-append (w ∷ ws) [] vs ys f g = absurd f
fits-append (w ∷ ws) (x ∷ xs) vs ys f g = (f.0, fits-append ws xs vs ys f.1 g)

-- fields of one width
pub fits-run : (n w : ℕ) (xs : List ℕ) → length xs ≡ n → Below (2 ^ w) xs → Fits (replicate n w) xs
fits-run zero w [] e b = tt
fits-run zero w (x ∷ xs) e b = absurd (suc-ne-zero (length xs) e)
fits-run (suc n) w [] e b = absurd (suc-ne-zero n (sym e))
fits-run (suc n) w (x ∷ xs) e b = (b 0, fits-run n w xs (suc_inj e) (λ i. b (suc i)))

pub fits_below : (n w : ℕ) (xs : List ℕ) → Fits (replicate n w) xs → Below (2 ^ w) xs
fits_below zero w [] f = λ i. pow_pos w
fits_below zero w (x ∷ xs) f = absurd f
fits_below (suc n) w [] f = absurd f
fits_below (suc n) w (x ∷ xs) f = below-cons xs f.0 (fits_below n w xs f.1)

pub fits-split : (ws vs xs : List ℕ) → Fits (ws ++ vs) xs → Fits ws (take (length ws) xs) × Fits vs (drop (length ws) xs)
fits-split [] vs xs f = (tt, f)
fits-split (w ∷ ws) vs [] f = absurd f
fits-split (w ∷ ws) vs (x ∷ xs) f =
    let rest = fits-split ws vs xs f.1 in
    ((f.0, rest.0), rest.1)

pub sum-replicate : (n w : ℕ) → sum (replicate n w) ≡ n * w
sum-replicate zero w = sym (zero-mul w)
sum-replicate (suc n) w = omega (arith, sum-replicate n w, suc-mul n w)

-- Lengths.
pub length-to_bits : (w x : ℕ) → length (to_bits w x) ≡ w
length-to_bits zero x = refl
length-to_bits (suc w) x = ap suc (length-to_bits w x)

pub length-packed : (ws xs : List ℕ) → length xs ≡ length ws → length (packed ws xs) ≡ sum ws
length-packed [] xs e = refl
length-packed (w ∷ ws) [] e = absurd (suc-ne-zero (length ws) (sym e))
length-packed (w ∷ ws) (x ∷ xs) e =
    omega (arith, length-append (to_bits w x) (packed ws xs), length-to_bits w x, length-packed ws xs (suc_inj e))

pub length-unpacked : (ws bits : List ℕ) → length (unpacked ws bits) ≡ length ws
length-unpacked [] bits = refl
length-unpacked (w ∷ ws) bits = ap suc (length-unpacked ws (drop w bits))

-- Fields of some widths, then those of others.
pub packed-append : (ws vs xs ys : List ℕ) → length xs ≡ length ws → packed (ws ++ vs) (xs ++ ys) ≡ packed ws xs ++ packed vs ys
packed-append [] vs [] ys e = refl
packed-append [] vs (x ∷ xs) ys e = absurd (suc-ne-zero (length xs) e)
packed-append (w ∷ ws) vs [] ys e = absurd (suc-ne-zero (length ws) (sym e))
packed-append (w ∷ ws) vs (x ∷ xs) ys e =
    ap (λ l. to_bits w x ++ l) (packed-append ws vs xs ys (suc_inj e)) ∙ sym (append_assoc (to_bits w x) (packed ws xs) (packed vs ys))

pub unpacked-append : (ws vs bits : List ℕ) → unpacked (ws ++ vs) bits ≡ unpacked ws bits ++ unpacked vs (drop (sum ws) bits)
unpacked-append [] vs bits = refl
unpacked-append (w ∷ ws) vs bits =
    ap (λ l. from_bits w bits ∷ l) (unpacked-append ws vs (drop w bits) ∙ ap (λ l. unpacked ws (drop w bits) ++ unpacked vs l) (drop-drop (sum ws) w bits))

-- Bits are 0 or 1, and so is every bit of a packed list.
pub to_bits-below : (w x : ℕ) → Below 2 (to_bits w x)
to_bits-below zero x = λ i. omega arith
to_bits-below (suc w) x = below-cons (to_bits w x) (mod-lt (x / 2 ^ w) (omega arith)) (to_bits-below w x)

pub packed-below : (ws xs : List ℕ) → Below 2 (packed ws xs)
packed-below [] xs = λ i. omega arith
packed-below (w ∷ ws) [] = λ i. omega arith
packed-below (w ∷ ws) (x ∷ xs) = below-append (to_bits w x) (packed ws xs) (to_bits-below w x) (packed-below ws xs)

-- Packed, then read: the fields, whatever follows.
from_bits-to_bits-mod : (w x : ℕ) (rest : List ℕ) → from_bits w (to_bits w x ++ rest) ≡ x % 2 ^ w
from_bits-to_bits-mod zero x rest = sym (mod-one x)
from_bits-to_bits-mod (suc w) x rest =
    ap (λ r. x / 2 ^ w % 2 * 2 ^ w + r) (from_bits-to_bits-mod w x rest)
    ∙ sym (mod-mul x (omega arith) (pow_pos w))
    ∙ ap (λ k. x % k) (sym (pow-succ' 2 w))

pub from_bits-to_bits : (w x : ℕ) (rest : List ℕ) → x < 2 ^ w → from_bits w (to_bits w x ++ rest) ≡ x
from_bits-to_bits w x rest h = from_bits-to_bits-mod w x rest ∙ mod-eq_of_lt h

pub unpacked-packed : (ws xs rest : List ℕ) → Fits ws xs → unpacked ws (packed ws xs ++ rest) ≡ xs
unpacked-packed [] [] rest f = refl
unpacked-packed [] (x ∷ xs) rest f = absurd f
unpacked-packed (w ∷ ws) [] rest f = absurd f
unpacked-packed (w ∷ ws) (x ∷ xs) rest f =
    ap (unpacked (w ∷ ws)) (append_assoc (to_bits w x) (packed ws xs) rest)
    ∙ ap (λ y. y ∷ unpacked ws (drop w (to_bits w x ++ (packed ws xs ++ rest)))) (from_bits-to_bits w x (packed ws xs ++ rest) f.0)
    ∙ ap (λ l. x ∷ unpacked ws l) (drop_at (to_bits w x) (packed ws xs ++ rest) w (length-to_bits w x))
    ∙ ap (λ l. x ∷ l) (unpacked-packed ws xs rest f.1)

pub unpacked-packed-alone : (ws xs : List ℕ) → Fits ws xs → unpacked ws (packed ws xs) ≡ xs
unpacked-packed-alone ws xs f = ap (unpacked ws) (sym (append-nil (packed ws xs))) ∙ unpacked-packed ws xs [] f

-- Read, then packed: the bits themselves, 0 standing for those that are missing.
abbrev pub padded : ℕ → List ℕ → List ℕ
padded zero bits = []
padded (suc n) bits = get_or bits 0 0 ∷ padded n (drop 1 bits)

pub padded-add : (n m : ℕ) (bits : List ℕ) → padded (n + m) bits ≡ padded n bits ++ padded m (drop n bits)
padded-add zero m bits = ap (λ k. padded k bits) (zero-add m)
padded-add (suc n) m bits =
    ap (λ k. padded k bits) (suc-add n m)
    ∙ ap (λ l. get_or bits 0 0 ∷ l) (padded-add n m (drop 1 bits))
    ∙ ap (λ l. padded (suc n) bits ++ padded m l) (drop-drop n 1 bits ∙ ap (λ k. drop k bits) (one-add n))

-- enough bits: the first n; too few: all of them, and zero bits behind
pub padded-enough : (n : ℕ) (bits : List ℕ) → n ≤ length bits → padded n bits ≡ take n bits
padded-enough zero bits h = refl
padded-enough (suc n) [] h = absurd (not-suc-le-zero h)
padded-enough (suc n) (b ∷ bits) h = ap (λ l. b ∷ l) (padded-enough n bits (le_of_suc-le-suc h))

padded-none : (n : ℕ) → padded n [] ≡ replicate n 0
padded-none zero = refl
padded-none (suc n) = ap (λ l. 0 ∷ l) (padded-none n)

pub padded-short : (n : ℕ) (bits : List ℕ) → padded (length bits + n) bits ≡ bits ++ replicate n 0
padded-short n bits =
    padded-add (length bits) n bits
    ∙ ap (λ l. l ++ padded n (drop (length bits) bits)) (padded-enough (length bits) bits (le_refl (length bits)) ∙ take-length bits)
    ∙ ap (λ l. bits ++ padded n l) (drop-length bits)
    ∙ ap (λ l. bits ++ l) (padded-none n)

-- a number read from bits, bit by bit, missing ones too
from_bits-none : (w : ℕ) → from_bits w [] ≡ 0
from_bits-none zero = refl
from_bits-none (suc w) = refl

pub from_bits-step : (w : ℕ) (bits : List ℕ) → from_bits (suc w) bits ≡ get_or bits 0 0 * 2 ^ w + from_bits w (drop 1 bits)
from_bits-step w [] = sym (ap (λ r. 0 * 2 ^ w + r) (from_bits-none w) ∙ omega (arith, zero-mul (2 ^ w)))
from_bits-step w (b ∷ bits) = refl

pub below-drop : {k : ℕ} (n : ℕ) (l : List ℕ) → Below k l → Below k (drop n l)
below-drop n l b i = rw (get_or-drop n l i 0) (b (n + i))

pub from_bits-below : (w : ℕ) (bits : List ℕ) → Below 2 bits → from_bits w bits < 2 ^ w
from_bits-below zero bits b = omega arith
from_bits-below (suc w) bits b = rw (from_bits-step w bits, pow-succ' 2 w) (digits_lt (b 0) (from_bits-below w (drop 1 bits) (below-drop 1 bits b)))

-- bits above the w lowest are not written
pub to_bits-low : (w q r : ℕ) → to_bits w (q * 2 ^ w + r) ≡ to_bits w r
to_bits-low zero q r = refl
to_bits-low (suc w) q r =
    ap (λ k. to_bits (suc w) (k + r)) (ap (λ k. q * k) (pow-succ' 2 w) ∙ sym (mul_assoc q 2 (2 ^ w)))
    ∙ ap (λ k. k % 2 ∷ to_bits w (q * 2 * 2 ^ w + r)) (mul-add-div_right (pow_pos w) (q * 2) r)
    ∙ ap (λ k. k ∷ to_bits w (q * 2 * 2 ^ w + r)) (mul-add-mod_self_right q 2 (r / 2 ^ w))
    ∙ ap (λ l. r / 2 ^ w % 2 ∷ l) (to_bits-low w (q * 2) r)

pub to_bits-from_bits : (w : ℕ) (bits : List ℕ) → Below 2 bits → to_bits w (from_bits w bits) ≡ padded w bits
to_bits-from_bits zero bits b = refl
to_bits-from_bits (suc w) bits b =
    let rest = from_bits w (drop 1 bits) in
    let small = from_bits-below w (drop 1 bits) (below-drop 1 bits b) in
    ap (to_bits (suc w)) (from_bits-step w bits)
    ∙ ap (λ k. k % 2 ∷ to_bits w (get_or bits 0 0 * 2 ^ w + rest)) (high (get_or bits 0 0) w small)
    ∙ ap (λ k. k ∷ to_bits w (get_or bits 0 0 * 2 ^ w + rest)) (mod-eq_of_lt (b 0))
    ∙ ap (λ l. get_or bits 0 0 ∷ l) (to_bits-low w (get_or bits 0 0) rest ∙ to_bits-from_bits w (drop 1 bits) (below-drop 1 bits b))

pub packed-unpacked : (ws bits : List ℕ) → Below 2 bits → packed ws (unpacked ws bits) ≡ padded (sum ws) bits
packed-unpacked [] bits b = refl
packed-unpacked (w ∷ ws) bits b =
    ap (λ l. l ++ packed ws (unpacked ws (drop w bits))) (to_bits-from_bits w bits b)
    ∙ ap (λ l. padded w bits ++ l) (packed-unpacked ws (drop w bits) (below-drop w bits b))
    ∙ sym (padded-add w (sum ws) bits)

pub packed-unpacked-enough : (ws bits : List ℕ) → Below 2 bits → sum ws ≤ length bits → packed ws (unpacked ws bits) ≡ take (sum ws) bits
packed-unpacked-enough ws bits b h = packed-unpacked ws bits b ∙ padded-enough (sum ws) bits h

pub unpacked-fits : (ws bits : List ℕ) → Below 2 bits → Fits ws (unpacked ws bits)
unpacked-fits [] bits b = tt
unpacked-fits (w ∷ ws) bits b = (from_bits-below w bits b, unpacked-fits ws (drop w bits) (below-drop w bits b))

-- zero bits behind change nothing of what is read
abbrev Alike : List ℕ → List ℕ → Type 0
Alike l m = (i : ℕ) → get_or l i 0 ≡ get_or m i 0

alike-zeros : (k : ℕ) (l : List ℕ) → Alike (l ++ replicate k 0) l
alike-zeros zero [] i = refl
alike-zeros (suc k) [] zero = refl
alike-zeros (suc k) [] (suc i) = alike-zeros k [] i
alike-zeros k (x ∷ l) zero = refl
alike-zeros k (x ∷ l) (suc i) = alike-zeros k l i

alike-drop : (n : ℕ) (l m : List ℕ) → Alike l m → Alike (drop n l) (drop n m)
alike-drop n l m a i = get_or-drop n l i 0 ∙ a (n + i) ∙ sym (get_or-drop n m i 0)

from_bits-alike : (w : ℕ) (l m : List ℕ) → Alike l m → from_bits w l ≡ from_bits w m
from_bits-alike zero l m a = refl
from_bits-alike (suc w) l m a =
    from_bits-step w l
    ∙ ap (λ b. b * 2 ^ w + from_bits w (drop 1 l)) (a 0)
    ∙ ap (λ r. get_or m 0 0 * 2 ^ w + r) (from_bits-alike w (drop 1 l) (drop 1 m) (alike-drop 1 l m a))
    ∙ sym (from_bits-step w m)

unpacked-alike : (ws l m : List ℕ) → Alike l m → unpacked ws l ≡ unpacked ws m
unpacked-alike [] l m a = refl
unpacked-alike (w ∷ ws) l m a =
    ap (λ x. x ∷ unpacked ws (drop w l)) (from_bits-alike w l m a)
    ∙ ap (λ xs. from_bits w m ∷ xs) (unpacked-alike ws (drop w l) (drop w m) (alike-drop w l m a))

pub unpacked-zeros : (ws bits : List ℕ) (k : ℕ) → unpacked ws (bits ++ replicate k 0) ≡ unpacked ws bits
unpacked-zeros ws bits k = unpacked-alike ws (bits ++ replicate k 0) bits (alike-zeros k bits)

-- Bytes: fields of eight bits.
pub whole_bytes-enough : (n : ℕ) → n ≤ whole_bytes n * 8
whole_bytes-enough n = omega arith

pub whole_bytes-exact : (k : ℕ) → whole_bytes (k * 8) ≡ k
whole_bytes-exact k = omega arith

pub length-bits_of : (bytes : List ℕ) → length (bits_of bytes) ≡ length bytes * 8
length-bits_of bytes =
    length-packed (replicate (length bytes) 8) bytes (sym (length-replicate (length bytes) 8)) ∙ sum-replicate (length bytes) 8

pub length-to_bytes : (bits : List ℕ) → length (to_bytes bits) ≡ whole_bytes (length bits)
length-to_bytes bits =
    length-unpacked (replicate (whole_bytes (length bits)) 8) bits ∙ length-replicate (whole_bytes (length bits)) 8

pub bits_of-below : (bytes : List ℕ) → Below 2 (bits_of bytes)
bits_of-below bytes = packed-below (replicate (length bytes) 8) bytes

pub to_bytes-below : (bits : List ℕ) → Below 2 bits → Below 256 (to_bytes bits)
to_bytes-below bits b = fits_below (whole_bytes (length bits)) 8 (to_bytes bits) (unpacked-fits (replicate (whole_bytes (length bits)) 8) bits b)

-- the zero bits to the byte
pub bits_of-to_bytes : (bits : List ℕ) → Below 2 bits → bits_of (to_bytes bits) ≡ bits ++ replicate (whole_bytes (length bits) * 8 - length bits) 0
bits_of-to_bytes bits b =
    ap (λ k. packed (replicate k 8) (to_bytes bits)) (length-to_bytes bits)
    ∙ packed-unpacked (replicate (whole_bytes (length bits)) 8) bits b
    ∙ ap (λ k. padded k bits) (sum-replicate (whole_bytes (length bits)) 8 ∙ sym (add-sub_of_le (whole_bytes-enough (length bits))))
    ∙ padded-short (whole_bytes (length bits) * 8 - length bits) bits

pub to_bytes-bits_of : (bytes : List ℕ) → Below 256 bytes → to_bytes (bits_of bytes) ≡ bytes
to_bytes-bits_of bytes b =
    ap (λ k. unpacked (replicate k 8) (bits_of bytes)) (ap whole_bytes (length-bits_of bytes) ∙ whole_bytes-exact (length bytes))
    ∙ unpacked-packed-alone (replicate (length bytes) 8) bytes (fits-run (length bytes) 8 bytes refl b)

-- zero bits behind that fill no byte more change nothing
pub to_bytes-zeros : (bits : List ℕ) (k : ℕ) → whole_bytes (length bits + k) ≡ whole_bytes (length bits) → to_bytes (bits ++ replicate k 0) ≡ to_bytes bits
to_bytes-zeros bits k e =
    ap (λ n. unpacked (replicate (whole_bytes n) 8) (bits ++ replicate k 0))
    (length-append bits (replicate k 0) ∙ ap (λ n. length bits + n) (length-replicate k 0))
    ∙ ap (λ n. unpacked (replicate n 8) (bits ++ replicate k 0)) e
    ∙ unpacked-zeros (replicate (whole_bytes (length bits)) 8) bits k
