-- Laws of the pen: what it draws comes behind what was drawn before, and the card it leaves is the bytes of its bits.
use Prim.Native.Nat.{ℕ, zero, suc, ◌+◌, ◌-◌, ◌*◌, ◌/◌, ◌%◌, ◌^◌, ◌≤◌, ◌<◌}
use mathlib.Core.Path.{◌≡◌, refl, sym, ap, ◌∙◌}
use mathlib.Core.List.{List, [], ◌∷◌, ◌++◌, append_assoc, append-nil}
use native.Mathlib.Nat.{zero-add, suc-add, add_comm, add-sub_of_le, mod-lt, div-one}
use native.Mathlib.Numerals.{add-one}
use native.Mathlib.Omega.{arith}
use lib.ListN.{length, get_or, take, drop, replicate, length-replicate, take-append-drop, replicate-append-replicate}
use lib.Pow.{pow_pos, shr-shr, split, high}
use lib.Seq.{length-take-le, take-suc, drop-drop}
use Rattle.std.specs.Borrow.{MutBor}
use Rattle.std.specs.Int.{bytes_high_first}
use Rattle.yard.specs.Bits.{to_bits, packed, unpacked, whole_bytes, to_bytes, bits_of}
use Rattle.yard.proofs.cards.Bits.{Below, fits-run, to_bits-low, packed-append, unpacked-packed, unpacked-zeros, length-to_bytes}
use Rattle.yard.proofs.cards.Bits.{length-packed, sum-replicate}
use Rattle.bits.specs.declared.pens.CardPen.{CardPen}
use Rattle.bits.specs.Pens.{IsFresh, drawn_on, drawn, reach, Draws}
use Rattle.bits.proofs.Words.{joined-low}

-- A number of v + w bits is one of v bits before one of w.
to_bits-add : (v w x : ℕ) → to_bits (v + w) x ≡ to_bits v (x / 2 ^ w) ++ to_bits w x
to_bits-add zero w x = ap (λ k. to_bits k x) (zero-add w)
to_bits-add (suc v) w x =
    let high_bit : x / 2 ^ (v + w) ≡ x / 2 ^ w / 2 ^ v = ap (λ k. x / 2 ^ k) (add_comm v w) ∙ sym (shr-shr x w v) in
    ap (λ k. to_bits k x) (suc-add v w) ∙ ap (λ k. k % 2 ∷ to_bits (v + w) x) high_bit ∙ ap (λ l. x / 2 ^ w / 2 ^ v % 2 ∷ l) (to_bits-add v w x)

to_bits-mod : (w x : ℕ) → to_bits w (x % 2 ^ w) ≡ to_bits w x
to_bits-mod w x = sym (to_bits-low w (x / 2 ^ w) (x % 2 ^ w)) ∙ ap (to_bits w) (split x w)

-- pending bits, and the lowest bits of a number behind them
to_bits-joined : (v w p x : ℕ) → v + w ≤ 64 → to_bits (v + w) (p * 2 ^ w % 2 ^ 64 + x % 2 ^ w) ≡ to_bits v p ++ to_bits w x
to_bits-joined v w p x h =
    let first = p % 2 ^ v in
    let second = x % 2 ^ w in
    let small : second < 2 ^ w = mod-lt x (pow_pos w) in
    sym (to_bits-mod (v + w) (p * 2 ^ w % 2 ^ 64 + second))
    ∙ ap (to_bits (v + w)) (joined-low v w p second h small)
    ∙ to_bits-add v w (first * 2 ^ w + second)
    ∙ ap (λ k. to_bits v k ++ to_bits w (first * 2 ^ w + second)) (high first w small)
    ∙ ap (λ l. l ++ to_bits w (first * 2 ^ w + second)) (to_bits-mod v p)
    ∙ ap (λ l. to_bits v p ++ l) (to_bits-low w first second ∙ to_bits-mod w x)

-- a run of numbers of w bits each, and one more
pub run-next : (xs : List ℕ) (w i : ℕ)
    → i < length xs
    → packed (replicate (suc i) w) (take (suc i) xs) ≡ packed (replicate i w) (take i xs) ++ to_bits w (get_or xs i 0)
run-next xs w i h =
    let x = get_or xs i 0 in
    let before : length (take i xs) ≡ length (replicate i w) = length-take-le i xs (omega arith) ∙ sym (length-replicate i w) in
    ap (λ l. packed (replicate (suc i) w) l) (take-suc xs i 0 h)
    ∙ ap (λ ws. packed ws (take i xs ++ (x ∷ []))) (sym (replicate-append-replicate i 1 w ∙ ap (λ k. replicate k w) (add-one i)))
    ∙ packed-append (replicate i w) (w ∷ []) (take i xs) (x ∷ []) before
    ∙ ap (λ l. packed (replicate i w) (take i xs) ++ l) (append-nil (to_bits w x))

pub run_length : (xs : List ℕ) (w i : ℕ) → i ≤ length xs → length (packed (replicate i w) (take i xs)) ≡ i * w
run_length xs w i h =
    length-packed (replicate i w) (take i xs) (length-take-le i xs h ∙ sym (length-replicate i w)) ∙ sum-replicate i w

bits_of-append : (xs ys : List ℕ) → bits_of (xs ++ ys) ≡ bits_of xs ++ bits_of ys
bits_of-append [] ys = refl
bits_of-append (x ∷ xs) ys = ap (λ l. to_bits 8 x ++ l) (bits_of-append xs ys) ∙ sym (append_assoc (to_bits 8 x) (bits_of xs) (bits_of ys))

-- A pen that does nothing.
pub draws-none : (p : CardPen) → Draws [] p p
draws-none p =
    record { bits = sym (append-nil (drawn p)); rest = refl; onward = omega arith; size = refl; same_card = refl }

-- The bits of a number join the pending ones.
pub drawn-joined : (bytes : List ℕ) (at count pending w x : ℕ)
    → count + w ≤ 64
    → drawn_on bytes at (count + w) (pending * 2 ^ w % 2 ^ 64 + x % 2 ^ w) ≡ drawn_on bytes at count pending ++ to_bits w x
drawn-joined bytes at count pending w x room =
    ap (λ l. bits_of (take at bytes) ++ l) (to_bits-joined count w pending x room)
    ∙ sym (append_assoc (bits_of (take at bytes)) (to_bits count pending) (to_bits w x))

-- The first n bytes of the pending bits are written.
pub drawn-written : (bytes after new : List ℕ) (at count pending n : ℕ)
    → n * 8 ≤ count
    → take (at + n) after ≡ take at bytes ++ new
    → bits_of new ≡ to_bits (n * 8) (pending / 2 ^ (count - n * 8))
    → drawn_on after (at + n) (count - n * 8) pending ≡ drawn_on bytes at count pending
drawn-written bytes after new at count pending n full front held =
    let left = count - n * 8 in
    let written = take at bytes in
    let all : n * 8 + left ≡ count = omega arith in
    ap (λ l. bits_of l ++ to_bits left pending) front
    ∙ ap (λ l. l ++ to_bits left pending) (bits_of-append written new)
    ∙ append_assoc (bits_of written) (bits_of new) (to_bits left pending)
    ∙ ap (λ l. bits_of written ++ (l ++ to_bits left pending)) held
    ∙ ap (λ l. bits_of written ++ l) (sym (to_bits-add (n * 8) left pending) ∙ ap (λ k. to_bits k pending) all)

-- One byte and four bytes of a number have its bits.
pub bits_of-one : (x : ℕ) → bits_of (x % 256 ∷ []) ≡ to_bits 8 x
bits_of-one x = append-nil (to_bits 8 (x % 256)) ∙ to_bits-mod 8 x

abbrev bytes_of : ℕ → ℕ → List ℕ
bytes_of zero x = []
bytes_of (suc n) x = x / 2 ^ (n * 8) % 256 ∷ bytes_of n x

length-bytes_of : (n x : ℕ) → length (bytes_of n x) ≡ n
length-bytes_of zero x = refl
length-bytes_of (suc n) x = ap suc (length-bytes_of n x)

bits_of-bytes_of : (n x : ℕ) → bits_of (bytes_of n x) ≡ to_bits (n * 8) x
bits_of-bytes_of zero x = refl
bits_of-bytes_of (suc n) x =
    let eight : 8 + n * 8 ≡ suc n * 8 = omega arith in
    ap (λ l. l ++ bits_of (bytes_of n x)) (to_bits-mod 8 (x / 2 ^ (n * 8)))
    ∙ ap (λ l. to_bits 8 (x / 2 ^ (n * 8)) ++ l) (bits_of-bytes_of n x)
    ∙ sym (to_bits-add 8 (n * 8) x)
    ∙ ap (λ k. to_bits k x) eight

pub bits_of-four : (x : ℕ) → bits_of (bytes_high_first 4 (x % 2 ^ 32)) ≡ to_bits 32 x
bits_of-four x =
    let word = x % 2 ^ 32 in
    ap (λ k. bits_of (word / 16777216 % 256 ∷ word / 65536 % 256 ∷ word / 256 % 256 ∷ k % 256 ∷ [])) (sym (div-one word))
    ∙ bits_of-bytes_of 4 word
    ∙ to_bits-mod 32 x

-- One drawing behind another is one drawing.
pub draws-then : {a b : List ℕ} {p q r : CardPen} → Draws a p q → Draws b q r → Draws (a ++ b) p r
draws-then {a = a} {b = b} {p = p} {q = q} {r = r} first second =
    let further : q.pen.at + (r.pen.at - q.pen.at) ≡ r.pen.at = add-sub_of_le second.onward in
    let later : (l : List ℕ) → drop r.pen.at l ≡ drop (r.pen.at - q.pen.at) (drop q.pen.at l) =
    λ l. sym (drop-drop (r.pen.at - q.pen.at) q.pen.at l ∙ ap (λ k. drop k l) further) in
    record {
      bits = second.bits ∙ ap (λ l. l ++ b) first.bits ∙ append_assoc (drawn p) a b;
      rest = second.rest ∙ later q.card.now ∙ ap (drop (r.pen.at - q.pen.at)) first.rest ∙ sym (later p.card.now);
      onward = omega arith;
      size = second.size ∙ first.size;
      same_card = second.same_card ∙ first.same_card;
    }

-- Seven zero bits at last: the bytes written are those of the bits, and no other is touched.
pub draws-whole : (bits : List ℕ) (card : MutBor (List ℕ)) (p q : CardPen) {after : List ℕ}
    → IsFresh card p
    → Draws (bits ++ to_bits 7 0) p q
    → reach q ≡ length bits + 7
    → q.pen.count < 8
    → after ≡ q.card.now
    → Below 256 after
    → length bits ≤ length card.now * 8
    → after ≡ to_bytes bits ++ drop (length (to_bytes bits)) card.now
unfolding drawn
draws-whole bits card p q {after} fresh d reached few held small room =
    let before = card.now in
    let bytes = take q.pen.at after in
    let same : p.card.now ≡ before = ap (λ (c : MutBor (List ℕ)). c.now) fresh.card_is in
    let none : drawn_on p.card.now p.pen.at p.pen.count p.pen.pending ≡ [] =
    ap (λ k. drawn_on p.card.now k p.pen.count p.pen.pending) fresh.at ∙ ap (λ k. to_bits k p.pen.pending) fresh.count in
    let all : length after ≡ length before = ap length held ∙ (d.size ∙ ap length same) in
    let count : q.pen.at ≡ whole_bytes (length bits) = omega arith in
    let long : length bytes ≡ q.pen.at = length-take-le q.pen.at after (omega arith) in
    let fit = fits-run q.pen.at 8 bytes long (below-take q.pen.at after small) in
    let whole : unpacked (replicate q.pen.at 8) (packed (replicate q.pen.at 8) bytes ++ to_bits q.pen.count q.pen.pending) ≡ bytes =
    unpacked-packed (replicate q.pen.at 8) bytes (to_bits q.pen.count q.pen.pending) fit in
    let read : bytes ≡ to_bytes bits =
    sym whole
    ∙ ap (λ k. unpacked (replicate q.pen.at 8) (packed (replicate k 8) bytes ++ to_bits q.pen.count q.pen.pending)) (sym long)
    ∙ ap (unpacked (replicate q.pen.at 8)) (ap (λ l. drawn_on l q.pen.at q.pen.count q.pen.pending) held ∙ (d.bits ∙ ap (λ l. l ++ (bits ++ to_bits 7 0)) none))
    ∙ unpacked-zeros (replicate q.pen.at 8) bits 7
    ∙ ap (λ k. unpacked (replicate k 8) bits) count in
    sym (take-append-drop q.pen.at after)
    ∙ ap (λ l. l ++ drop q.pen.at after) read
    ∙ ap (λ l. to_bytes bits ++ l) (ap (drop q.pen.at) held ∙ (d.rest ∙ ap (drop q.pen.at) same))
    ∙ ap (λ k. to_bytes bits ++ drop k before) (count ∙ sym (length-to_bytes bits))
  where
    below-take : {k : ℕ} (n : ℕ) (l : List ℕ) → Below k l → Below k (take n l)
    below-take zero l b i = omega (arith, b 0)
    below-take (suc n) [] b i = b i
    below-take (suc n) (x ∷ l) b zero = b 0
    below-take (suc n) (x ∷ l) b (suc i) = below-take n l (λ i. b (suc i)) i
