-- Laws of bit places: a number is read from the bits at any place by the bytes that hold them, whatever its width.
use Prim.Native.Nat.{ℕ, zero, suc, ◌+◌, ◌-◌, ◌*◌, ◌^◌, ◌<◌}
use mathlib.Core.Path.{◌≡◌, refl, sym, ap, ◌∙◌}
use mathlib.Core.Bool.{Bool, true, false, ◌&&◌}
use mathlib.Core.List.{List, [], ◌∷◌, ◌++◌}
use native.Mathlib.Nat.{zero-mul, zero-add, add-zero, suc-add, suc-mul, add-mul, mul_assoc, add_assoc, suc-ne-zero}
use native.Mathlib.Numerals.{one-add, add-one}
use native.Mathlib.Omega.{arith}
use lib.Dec.{eqb}
use lib.ListN.{length, get_or, take, drop, set, replicate, length-drop, length-replicate, replicate-append-replicate}
use lib.Pow.{pow_pos, pow-add}
use lib.Seq.{drop-drop, drop-nil, drop-cons, drop-append-add, set_at, take_at, get_or-drop, append_snoc}
use borrow.Author.Tests.{eq-eqb, ne_eqb}
use Rattle.yard.specs.Words.{every}
use Rattle.yard.specs.Bits.{to_bits, from_bits, unpacked, whole_bytes, bits_of}
use Rattle.yard.proofs.cards.Bits.{Below, below-drop, from_bits-step, from_bits-to_bits, from_bits-below, bits_of-below, length-bits_of, length-unpacked}
use Rattle.yard.proofs.cards.Bits.{unpacked-append, sum-replicate}
use Rattle.bits.specs.Fields.{field_at, fields_at, ends_at}

-- A number of v + w bits is one of v bits before one of w.
pub from_bits-add : (v w : ℕ) (bits : List ℕ) → from_bits (v + w) bits ≡ from_bits v bits * 2 ^ w + from_bits w (drop v bits)
from_bits-add zero w bits = ap (λ k. from_bits k bits) (zero-add w) ∙ sym (ap (λ k. k + from_bits w bits) (zero-mul (2 ^ w)) ∙ zero-add (from_bits w bits))
from_bits-add (suc v) w bits =
    let b = get_or bits 0 0 in
    let later = drop 1 bits in
    let behind : drop v (drop 1 bits) ≡ drop (suc v) bits = drop-drop v 1 bits ∙ ap (λ k. drop k bits) (one-add v) in
    let parts : b * 2 ^ (v + w) + from_bits v later * 2 ^ w ≡ (b * 2 ^ v + from_bits v later) * 2 ^ w =
    ap (λ k. b * k + from_bits v later * 2 ^ w) (pow-add 2 v w)
    ∙ ap (λ k. k + from_bits v later * 2 ^ w) (sym (mul_assoc b (2 ^ v) (2 ^ w)))
    ∙ sym (add-mul (b * 2 ^ v) (from_bits v later) (2 ^ w)) in
    ap (λ k. from_bits k bits) (suc-add v w)
    ∙ from_bits-step (v + w) bits
    ∙ ap (λ k. b * 2 ^ (v + w) + k) (from_bits-add v w later)
    ∙ sym (add_assoc (b * 2 ^ (v + w)) (from_bits v later * 2 ^ w) (from_bits w (drop v later)))
    ∙ ap (λ k. k + from_bits w (drop v later)) parts
    ∙ ap (λ l. (b * 2 ^ v + from_bits v later) * 2 ^ w + from_bits w l) behind
    ∙ ap (λ k. k * 2 ^ w + from_bits w (drop (suc v) bits)) (sym (from_bits-step v bits))

-- so the field at a place is one of v bits before one of w, and a number of its width
pub field-add : (bytes : List ℕ) (at v w : ℕ) → field_at bytes at (v + w) ≡ field_at bytes at v * 2 ^ w + field_at bytes (at + v) w
unfolding field_at
field-add bytes at v w =
    let bits = drop at (bits_of bytes) in
    from_bits-add v w bits ∙ ap (λ l. from_bits v bits * 2 ^ w + from_bits w l) (drop-drop v at (bits_of bytes))

pub field_below : (bytes : List ℕ) (at w : ℕ) → field_at bytes at w < 2 ^ w
unfolding field_at
field_below bytes at w = from_bits-below w (drop at (bits_of bytes)) (below-drop at (bits_of bytes) (bits_of-below bytes))

-- Bytes: the bits from a byte on are those of the bytes from there on.
pub bits_of-drop : (i : ℕ) (bytes : List ℕ) → drop (i * 8) (bits_of bytes) ≡ bits_of (drop i bytes)
bits_of-drop zero bytes = refl
bits_of-drop (suc i) [] = drop-nil (suc i * 8)
bits_of-drop (suc i) (b ∷ bytes) =
    let e : suc i * 8 ≡ 8 + i * 8 = omega arith in
    ap (λ k. drop k (bits_of (b ∷ bytes))) e ∙ drop-append-add (to_bits 8 b) (bits_of bytes) (i * 8) ∙ bits_of-drop i bytes

first_byte : (bytes : List ℕ) → Below 256 bytes → from_bits 8 (bits_of bytes) ≡ get_or bytes 0 0
first_byte [] small = refl
first_byte (b ∷ bytes) small = from_bits-to_bits 8 b (bits_of bytes) (small 0)

pub byte_at : (bytes : List ℕ) → Below 256 bytes → (i : ℕ) → from_bits 8 (drop (i * 8) (bits_of bytes)) ≡ get_or bytes i 0
byte_at bytes small i =
    ap (from_bits 8) (bits_of-drop i bytes)
    ∙ first_byte (drop i bytes) (below-drop i bytes small)
    ∙ get_or-drop i bytes 0 0
    ∙ ap (λ k. get_or bytes k 0) (add-zero i)

-- a byte before w bits more
byte-then : (bytes : List ℕ) → Below 256 bytes → (i j w : ℕ)
    → j ≡ i + 1
    → field_at bytes (i * 8) (8 + w) ≡ get_or bytes i 0 * 2 ^ w + field_at bytes (j * 8) w
unfolding field_at
byte-then bytes small i j w next =
    let place : i * 8 + 8 ≡ j * 8 = omega arith in
    field-add bytes (i * 8) 8 w
    ∙ ap (λ k. k * 2 ^ w + field_at bytes (i * 8 + 8) w) (byte_at bytes small i)
    ∙ ap (λ k. get_or bytes i 0 * 2 ^ w + field_at bytes k w) place

-- four bytes as one number
pub four_bytes : (bytes : List ℕ) → Below 256 bytes → (i : ℕ)
    → field_at bytes (i * 8) 32 ≡ get_or bytes i 0 * 16777216 + get_or bytes (i + 1) 0 * 65536 + get_or bytes (i + 2) 0 * 256 + get_or bytes (i + 3) 0
unfolding field_at
four_bytes bytes small i =
    let first = byte-then bytes small i (i + 1) 24 refl in
    let second = byte-then bytes small (i + 1) (i + 2) 16 (omega arith) in
    let third = byte-then bytes small (i + 2) (i + 3) 8 (omega arith) in
    omega (arith, byte_at bytes small (i + 3))

-- Lists of fields.
pub length-fields_at : (bytes : List ℕ) (at w n : ℕ) → length (fields_at bytes at w n) ≡ n
unfolding fields_at
length-fields_at bytes at w n = length-unpacked (replicate n w) (drop at (bits_of bytes)) ∙ length-replicate n w

-- one field more
pub fields_at-next : (bytes : List ℕ) (at w n : ℕ) → fields_at bytes at w (suc n) ≡ fields_at bytes at w n ++ (field_at bytes (at + n * w) w ∷ [])
unfolding fields_at field_at
fields_at-next bytes at w n =
    let bits = drop at (bits_of bytes) in
    ap (λ ws. unpacked ws bits) (sym (replicate-append-replicate n 1 w ∙ ap (λ k. replicate k w) (add-one n)))
    ∙ unpacked-append (replicate n w) (w ∷ []) bits
    ∙ ap (λ k. unpacked (replicate n w) bits ++ (from_bits w (drop k bits) ∷ [])) (sum-replicate n w)
    ∙ ap (λ l. unpacked (replicate n w) bits ++ (from_bits w l ∷ [])) (drop-drop (n * w) at (bits_of bytes))

-- a buffer that holds the first fields and its old rest takes one field more
pub fields-stored : (bytes old : List ℕ) (at w i : ℕ)
    → i < length old
    → set (fields_at bytes at w i ++ drop i old) i (field_at bytes (at + i * w) w) ≡ fields_at bytes at w (suc i) ++ drop (suc i) old
fields-stored bytes old at w i h =
    let x = field_at bytes (at + i * w) w in
    let done = fields_at bytes at w i in
    ap (λ l. set (done ++ l) i x) (drop-cons old i 0 h)
    ∙ set_at done (get_or old i 0) (drop (suc i) old) x i (length-fields_at bytes at w i)
    ∙ sym (append_snoc done x (drop (suc i) old))
    ∙ ap (λ l. l ++ drop (suc i) old) (sym (fields_at-next bytes at w i))

-- and its front is the fields
pub fields-front : (bytes old new : List ℕ) (at w n : ℕ) → new ≡ fields_at bytes at w n ++ drop n old → take n new ≡ fields_at bytes at w n
fields-front bytes old new at w n e = ap (take n) e ∙ take_at (fields_at bytes at w n) (drop n old) n (length-fields_at bytes at w n)

-- The end: bits are all 0 exactly if their number is.
zeros-number : (l : List ℕ) → every (λ b. eqb b 0) l ≡ eqb (from_bits (length l) l) 0
zeros-number [] = refl
zeros-number (zero ∷ l) =
    zeros-number l
    ∙ ap (λ k. eqb k 0) (sym (ap (λ k. k + from_bits (length l) l) (zero-mul (2 ^ length l)) ∙ zero-add (from_bits (length l) l)))
zeros-number (suc b ∷ l) =
    ap (λ t. t && every (λ b. eqb b 0) l) (ne_eqb (suc b) 0 (suc-ne-zero b))
    ∙ sym (ne_eqb (suc b * 2 ^ length l + from_bits (length l) l) 0 (λ e. omega (arith, suc-mul b (2 ^ length l), pow_pos (length l))))

pub ends-here : (bytes : List ℕ) (at : ℕ) → length bytes ≡ whole_bytes at → ends_at bytes at ≡ eqb (field_at bytes at (whole_bytes at * 8 - at)) 0
unfolding ends_at field_at
ends-here bytes at e =
    let spare = drop at (bits_of bytes) in
    let long : length spare ≡ whole_bytes at * 8 - at = length-drop at (bits_of bytes) ∙ ap (λ k. k - at) (length-bits_of bytes ∙ ap (λ k. k * 8) e) in
    ap (λ b. every (λ b. eqb b 0) spare && b) (eq-eqb (length bytes) (whole_bytes at) e)
    ∙ and-true (every (λ b. eqb b 0) spare)
    ∙ zeros-number spare
    ∙ ap (λ k. eqb (from_bits k spare) 0) long
  where
    and-true : (b : Bool) → (b && true) ≡ b
    and-true true = refl
    and-true false = refl

pub ends-elsewhere : (bytes : List ℕ) (at : ℕ) → (length bytes ≡ whole_bytes at → ⊥) → ends_at bytes at ≡ false
unfolding ends_at
ends-elsewhere bytes at h =
    let spare = drop at (bits_of bytes) in
    ap (λ b. every (λ b. eqb b 0) spare && b) (ne_eqb (length bytes) (whole_bytes at) h) ∙ and-false (every (λ b. eqb b 0) spare)
  where
    and-false : (b : Bool) → (b && false) ≡ false
    and-false true = refl
    and-false false = refl
