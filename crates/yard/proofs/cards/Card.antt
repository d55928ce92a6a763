-- Laws of the night card: its length, and that plan and card give back one another. They hold for the widths of any layout.
use Prim.Native.Nat.{ℕ, zero, suc, ◌+◌, ◌-◌, ◌*◌, ◌^◌, ◌≤◌, ◌<◌}
use mathlib.Core.Path.{◌≡◌, refl, sym, ap, subst, ◌∙◌}
use mathlib.Core.Bool.{Bool, true, false}
use mathlib.Core.List.{List, [], ◌∷◌, ◌++◌}
use native.Mathlib.Nat.{mul-le-mul, le_refl, lt_of_lt_of_le}
use native.Mathlib.Omega.{arith}
use lib.Dec.{eqb}
use lib.ListN.{length, take, drop, replicate, length-append, length-drop, length-replicate, take-append-drop}
use lib.Pow.{pow_mono}
use lib.Seq.{take-append_seam, drop-append_seam, drop_at, length-take-le}
use borrow.Author.Tests.{eqb-true, eq-eqb}
use Rattle.yard.specs.declared.Limits.{Limits}
use Rattle.yard.specs.declared.Head.{Head}
use Rattle.yard.specs.Words.{tally, every}
use Rattle.yard.specs.Limits.{first_limits}
use Rattle.yard.specs.Night.{Plan, plan_of, closed_by, sum}
use Rattle.yard.specs.Bits.{Bytes, from_bits, packed, unpacked, whole_bytes, to_bytes, bits_of}
use Rattle.yard.specs.Card.{layout, head_widths, head_fields, head_from, list_widths, widths, head_length, card_length, head_of, fields, card, head_on}
use Rattle.yard.specs.Card.{limits_of, edition_for, edition_of, HeadWithin, lists_on, card_plan, right_length, ends_right}
use Rattle.yard.proofs.general.Bools.{and_left, and_right, and_both}
use Rattle.yard.proofs.general.Lists.{total-append}
use Rattle.yard.proofs.cards.Bits.{Below, below-drop, Fits, fits-append, fits-run, fits_below, fits-split, sum-replicate, length-packed}
use Rattle.yard.proofs.cards.Bits.{length-unpacked, unpacked-append, packed-below, unpacked-packed, packed-unpacked-enough, unpacked-fits}
use Rattle.yard.proofs.cards.Bits.{length-bits_of, length-to_bytes, bits_of-below, bits_of-to_bytes, to_bytes-bits_of, to_bytes-below, to_bytes-zeros}
use Rattle.yard.proofs.cards.Editions.{most_bits, edition-suits, first-bits, mark-back, mark-again, edition-first}

-- The bits of a card: its head, then as many as its lists have.
abbrev pub head_bits : Head → ℕ
head_bits h = sum (head_widths (layout h.edition))

abbrev pub list_bits : Head → ℕ
list_bits h = let w = (layout h.edition).number in h.trains * w + h.cars * w + h.cars * h.steps

pub widths-sum : (h : Head) → sum (widths h) ≡ head_bits h + list_bits h
widths-sum h = simp (total-append, sum-replicate) (omega arith)

lists_length : (h : Head) → length (list_widths h) ≡ h.trains + h.cars + h.cars
lists_length h = simp (length-append, length-replicate) (omega arith)

-- Its length: enough for the head, and within the limits at most 15,271 bytes, or 1,237 where it is of edition 1.
fields-length : (p : Plan) → length p.codes ≡ length p.night.inbound → length (fields p) ≡ length (widths (head_of p))
unfolding fields
fields-length p e = simp (length-append, length-replicate) (omega arith)

pub card-length : (p : Plan) → length p.codes ≡ length p.night.inbound → length (card p) ≡ card_length (head_of p)
unfolding card card_length
card-length p e =
    length-to_bytes (packed (widths (head_of p)) (fields p)) ∙ ap whole_bytes (length-packed (widths (head_of p)) (fields p) (fields-length p e))

pub card_length-head : (h : Head) → head_length h ≤ card_length h
unfolding head_length card_length
card_length-head h = omega (arith, widths-sum h)

pub head_length-some : (h : Head) → 1 ≤ head_length h
unfolding head_length
head_length-some h = omega arith

-- within limits, a head announces no more bits than the most that its layout and they give
pub widths-most : (L : Limits) (h : Head) → HeadWithin L h → sum (widths h) ≤ most_bits (layout h.edition) L
widths-most L h w =
    let number = (layout h.edition).number in
    omega (arith, widths-sum h, mul-le-mul w.trains.1 (le_refl number), mul-le-mul w.cars.1 (le_refl number), mul-le-mul w.cars.1 w.steps.1)

pub widths-longest : (h : Head) → HeadWithin (limits_of h.edition) h → sum (widths h) ≤ 15271 * 8
widths-longest h w = omega (arith, widths-most (limits_of h.edition) h w, (edition-suits h.edition).longest)

pub head-longest : (h : Head) → HeadWithin (limits_of h.edition) h → card_length h ≤ 15271
unfolding card_length
head-longest h w = omega (arith, widths-longest h w)

pub first-longest : (h : Head) → h.edition ≡ 1 → HeadWithin (limits_of h.edition) h → card_length h ≤ 1237
unfolding card_length
first-longest h e w =
    let few : most_bits (layout h.edition) (limits_of h.edition) ≤ 1237 * 8 =
    subst (λ (k : ℕ). most_bits (layout k) (limits_of k) ≤ 1237 * 8) (sym e) first-bits in
    omega (arith, widths-most (limits_of h.edition) h w, few)

-- The plans that a card has room for: each number fits its field, and each car has a code.
pub record Fitting (p : Plan) : Type 0 where
  pub head : Fits (head_widths (layout (edition_of p))) (head_fields (head_of p))
  pub lengths : Below (2 ^ (layout (edition_of p)).number) p.night.lengths
  pub inbound : Below (2 ^ (layout (edition_of p)).number) p.night.inbound
  pub codes : Below (2 ^ p.steps) p.codes
  pub coded : length p.codes ≡ length p.night.inbound

fields_fit : (p : Plan) → Fitting p → Fits (widths (head_of p)) (fields p)
unfolding fields
fields_fit p f =
    let h = head_of p in
    let w = (layout (edition_of p)).number in
    let codes = fits-run h.cars h.steps p.codes f.coded f.codes in
    let inbound = fits-run h.cars w p.night.inbound refl f.inbound in
    let lengths = fits-run h.trains w p.night.lengths refl f.lengths in
    let cars = fits-append (replicate h.cars w) p.night.inbound (replicate h.cars h.steps) p.codes inbound codes in
    let lists =
    fits-append (replicate h.trains w) p.night.lengths (replicate h.cars w ++ replicate h.cars h.steps) (p.night.inbound ++ p.codes)
    lengths
    cars in
    fits-append (head_widths (layout (edition_of p))) (head_fields h) (list_widths h) (p.night.lengths ++ (p.night.inbound ++ p.codes)) f.head lists

-- Plan, card, plan: the fields are read back whole, with the spare zero bits behind them.
spare : Plan → ℕ
spare p = card_length (head_of p) * 8 - sum (widths (head_of p))

card-bits : (p : Plan)
    → length p.codes ≡ length p.night.inbound
    → bits_of (card p) ≡ packed (widths (head_of p)) (fields p) ++ replicate (spare p) 0
unfolding card spare card_length
card-bits p e =
    let bits = packed (widths (head_of p)) (fields p) in
    bits_of-to_bytes bits (packed-below (widths (head_of p)) (fields p))
    ∙ ap (λ k. bits ++ replicate (whole_bytes k * 8 - k) 0) (length-packed (widths (head_of p)) (fields p) (fields-length p e))

card-fields : (p : Plan) → Fitting p → unpacked (widths (head_of p)) (bits_of (card p)) ≡ fields p
card-fields p f =
    ap (unpacked (widths (head_of p))) (card-bits p f.coded)
    ∙ unpacked-packed (widths (head_of p)) (fields p) (replicate (spare p) 0) (fields_fit p f)

pub card-head : (p : Plan) → Fitting p → head_on (card p) ≡ head_of p
unfolding head_on fields
card-head p f =
    let edition : from_bits 4 (bits_of (card p)) ≡ edition_of p = ap (λ xs. (head_from xs).edition) (card-fields p f) in
    ap (λ e. head_from (unpacked (head_widths (layout e)) (bits_of (card p)))) edition ∙ ap head_from (card-fields p f)

card-lists : (p : Plan) → Fitting p → lists_on (card p) ≡ p.night.lengths ++ (p.night.inbound ++ p.codes)
unfolding lists_on fields
card-lists p f =
    let h = head_of p in
    let apart = unpacked-append (head_widths (layout (edition_of p))) (list_widths h) (bits_of (card p)) in
    ap (λ h. unpacked (list_widths h) (drop (head_bits h) (bits_of (card p)))) (card-head p f) ∙ ap (drop 7) (sym apart ∙ card-fields p f)

pub card_plan-card : (p : Plan) → Fitting p → card_plan (card p) ≡ p
unfolding card_plan
card_plan-card p f =
    rw (card-head p f, card-lists p f, take-append_seam, drop-append_seam, take-append_seam, drop-append_seam)
    (ap (λ (b : Bool). plan_of p.night.lengths p.night.inbound b p.night.tracks p.night.room p.steps p.codes)
    (mark-back p.night.closed))

pub card-right-edition : (p : Plan) → Fitting p → edition_of (card_plan (card p)) ≡ (head_on (card p)).edition
card-right-edition p f = ap edition_of (card_plan-card p f) ∙ sym (ap (λ h. h.edition) (card-head p f))

pub card-right-length : (p : Plan) → Fitting p → right_length (card p) ≡ length (card p)
unfolding right_length
card-right-length p f = rw (card-head p f) (sym (card-length p f.coded))

-- bits that are all 0
every-zeros : (k : ℕ) → every (λ b. eqb b 0) (replicate k 0) ≡ true
every-zeros zero = refl
every-zeros (suc k) = every-zeros k

zeros-every : (l : List ℕ) → every (λ b. eqb b 0) l ≡ true → l ≡ replicate (length l) 0
zeros-every [] e = refl
zeros-every (b ∷ l) e =
    ap (λ x. x ∷ l) (eqb-true b 0 (and_left (eqb b 0) (every (λ b. eqb b 0) l) e))
    ∙ ap (λ r. 0 ∷ r) (zeros-every l (and_right (eqb b 0) (every (λ b. eqb b 0) l) e))

card-spare : (p : Plan) → Fitting p → drop (sum (widths (head_on (card p)))) (bits_of (card p)) ≡ replicate (spare p) 0
card-spare p f =
    let ws = widths (head_of p) in
    rw (card-head p f, card-bits p f.coded)
    (drop_at (packed ws (fields p)) (replicate (spare p) 0) (sum ws) (length-packed ws (fields p) (fields-length p f.coded)))

pub card-ends-right : (p : Plan) → Fitting p → ends_right (card p) ≡ true
unfolding ends_right
card-ends-right p f =
    and_both
    (ap (every (λ b. eqb b 0)) (card-spare p f) ∙ every-zeros (spare p))
    (eq-eqb (length (card p)) (right_length (card p)) (sym (card-right-length p f)))

-- the head of a plan is one with its numbers
head_as : (p : Plan) (h : Head)
    → edition_of p ≡ h.edition
    → tally p.night.closed ≡ h.mark
    → p.steps ≡ h.steps
    → p.night.tracks ≡ h.tracks
    → p.night.room ≡ h.room
    → length p.night.inbound ≡ h.cars
    → length p.night.lengths ≡ h.trains
    → head_of p ≡ h
head_as p h edition mark steps tracks room cars trains = rw (edition, mark, steps, tracks, room, cars, trains)

-- Card, plan, card. The lists of a card's plan are as long as its head says, whatever the bytes.
lists_on-length : (bytes : List ℕ) → length (lists_on bytes) ≡ (head_on bytes).trains + (head_on bytes).cars + (head_on bytes).cars
unfolding lists_on
lists_on-length bytes =
    length-unpacked (list_widths (head_on bytes)) (drop (head_bits (head_on bytes)) (bits_of bytes)) ∙ lists_length (head_on bytes)

module _ (bytes : List ℕ) where
  pub card_plan-trains : length (card_plan bytes).night.lengths ≡ (head_on bytes).trains
  unfolding card_plan
  card_plan-trains = length-take-le (head_on bytes).trains (lists_on bytes) (omega (arith, lists_on-length bytes))

  by-car : length (drop (head_on bytes).trains (lists_on bytes)) ≡ (head_on bytes).cars + (head_on bytes).cars
  by-car = omega (arith, lists_on-length bytes, length-drop (head_on bytes).trains (lists_on bytes))

  pub card_plan-cars : length (card_plan bytes).night.inbound ≡ (head_on bytes).cars
  unfolding card_plan
  card_plan-cars = length-take-le (head_on bytes).cars (drop (head_on bytes).trains (lists_on bytes)) (omega (arith, by-car))

  pub card_plan-codes : length (card_plan bytes).codes ≡ (head_on bytes).cars
  unfolding card_plan
  card_plan-codes = omega (arith, by-car, length-drop (head_on bytes).cars (drop (head_on bytes).trains (lists_on bytes)))

  card_plan-lists : (card_plan bytes).night.lengths ++ ((card_plan bytes).night.inbound ++ (card_plan bytes).codes) ≡ lists_on bytes
  unfolding card_plan
  card_plan-lists =
      let m = (head_on bytes).trains in
      ap (λ l. take m (lists_on bytes) ++ l) (take-append-drop (head_on bytes).cars (drop m (lists_on bytes)))
      ∙ take-append-drop m (lists_on bytes)

  card_fields : unpacked (widths (head_on bytes)) (bits_of bytes) ≡ head_fields (head_on bytes) ++ lists_on bytes
  unfolding head_on lists_on
  card_fields = unpacked-append (head_widths (layout (head_on bytes).edition)) (list_widths (head_on bytes)) (bits_of bytes)

  -- the plan's mark is the card's
  pub card_plan-closed : (card_plan bytes).night.closed ≡ closed_by (head_on bytes).mark
  unfolding card_plan
  card_plan-closed = refl

  -- the mark on a card has one bit, or none
  mark-bits : (head_on bytes).mark < 2 ^ (layout (head_on bytes).edition).mark
  unfolding head_on
  mark-bits =
      let bits = unpacked-fits (head_widths (layout (head_on bytes).edition)) (bits_of bytes) (bits_of-below bytes) in
      bits.1.0

  head-mark : (head_on bytes).mark < 2
  head-mark = lt_of_lt_of_le mark-bits (pow_mono (edition-suits (head_on bytes).edition).mark)

  card_plan-mark : tally (card_plan bytes).night.closed ≡ (head_on bytes).mark
  unfolding card_plan
  card_plan-mark = mark-again (head_on bytes).mark head-mark

  -- the edition of a card's plan, by the card's head
  pub card_plan-edition : let h = head_on bytes in
      edition_of (card_plan bytes) ≡ edition_for (closed_by h.mark) h.cars h.trains h.tracks h.room h.steps
  unfolding card_plan
  card_plan-edition = rw (card_plan-trains, card_plan-cars)

  -- a card of edition 1 within its limits is never of the wrong edition
  pub first-right : (head_on bytes).edition ≡ 1 → HeadWithin (limits_of (head_on bytes).edition) (head_on bytes)
      → edition_of (card_plan bytes) ≡ (head_on bytes).edition
  unfolding layout limits_of
  first-right first within =
      let h = head_on bytes in
      let few : HeadWithin first_limits h = rw first at within in
      let none : h.mark < 1 = rw first at mark-bits in
      let zero : h.mark ≡ 0 = omega (arith, none) in
      let free : closed_by h.mark ≡ false = ap closed_by zero in
      card_plan-edition ∙
      (edition-first (closed_by h.mark) h.cars h.trains h.tracks h.room h.steps
      (record {
        free = free;
        cars = few.cars.1;
        trains = few.trains.1;
        tracks = few.tracks.1;
        room = few.room.1;
        steps = few.steps.1;
      }) ∙
      sym first)

  module _ (right : edition_of (card_plan bytes) ≡ (head_on bytes).edition) where
    pub card_plan-head : head_of (card_plan bytes) ≡ head_on bytes
    unfolding card_plan
    card_plan-head = head_as (card_plan bytes) (head_on bytes) right card_plan-mark refl refl refl card_plan-cars card_plan-trains

    card_plan-fields : fields (card_plan bytes) ≡ unpacked (widths (head_on bytes)) (bits_of bytes)
    unfolding fields
    card_plan-fields =
        ap (λ h. head_fields h ++ ((card_plan bytes).night.lengths ++ ((card_plan bytes).night.inbound ++ (card_plan bytes).codes))) card_plan-head
        ∙ ap (λ l. head_fields (head_on bytes) ++ l) card_plan-lists
        ∙ sym card_fields

-- a list of bytes that is a card: its edition is that of its plan, and it ends where it should
pub record IsCard (bytes : List ℕ) : Type 0 where
  pub small : Bytes bytes
  pub right : edition_of (card_plan bytes) ≡ (head_on bytes).edition
  pub ends : ends_right bytes ≡ true

pub card-is_card : (p : Plan) → Fitting p → IsCard (card p)
unfolding card
card-is_card p f =
    record {
      small = to_bytes-below (packed (widths (head_of p)) (fields p)) (packed-below (widths (head_of p)) (fields p));
      right = card-right-edition p f;
      ends = card-ends-right p f;
    }

module _ (bytes : List ℕ) (is : IsCard bytes) where
  -- where its fields end, and the bits behind them
  abbrev end : ℕ
  end = sum (widths (head_on bytes))

  abbrev behind : List ℕ
  behind = drop end (bits_of bytes)

  right-length : length bytes ≡ whole_bytes end
  unfolding ends_right right_length card_length
  right-length =
      eqb-true (length bytes) (right_length bytes) (and_right (every (λ b. eqb b 0) behind) (eqb (length bytes) (right_length bytes)) is.ends)

  spare-zeros : behind ≡ replicate (length behind) 0
  unfolding ends_right
  spare-zeros = zeros-every behind (and_left (every (λ b. eqb b 0) behind) (eqb (length bytes) (right_length bytes)) is.ends)

  enough : end ≤ length (bits_of bytes)
  enough = omega (arith, length-bits_of bytes, right-length)

  -- the fields of a card's plan are the card's bits up to the spare ones
  card_plan-bits : packed (widths (head_of (card_plan bytes))) (fields (card_plan bytes)) ≡ take end (bits_of bytes)
  card_plan-bits =
      ap (λ h. packed (widths h) (fields (card_plan bytes))) (card_plan-head bytes is.right)
      ∙ ap (packed (widths (head_on bytes))) (card_plan-fields bytes is.right)
      ∙ packed-unpacked-enough (widths (head_on bytes)) (bits_of bytes) (bits_of-below bytes) enough

  pub card-card_plan : card (card_plan bytes) ≡ bytes
  unfolding card
  card-card_plan =
      let front = take end (bits_of bytes) in
      let cut : front ++ behind ≡ bits_of bytes = take-append-drop end (bits_of bytes) in
      let long = length-take-le end (bits_of bytes) enough in
      let filled : whole_bytes (length front + length behind) ≡ whole_bytes (length front) =
      omega (arith, length-append front behind, ap length cut, length-bits_of bytes, right-length, long) in
      ap to_bytes card_plan-bits
      ∙ sym (to_bytes-zeros front (length behind) filled)
      ∙ ap (λ l. to_bytes (front ++ l)) (sym spare-zeros)
      ∙ ap to_bytes cut
      ∙ to_bytes-bits_of bytes is.small

-- no two cards of one plan, over both editions
pub card_unique : (x y : List ℕ) → IsCard x → IsCard y → card_plan x ≡ card_plan y → x ≡ y
card_unique x y isx isy e = sym (card-card_plan x isx) ∙ ap card e ∙ card-card_plan y isy

-- Whatever the bytes, each number of their plan fits its field.
cut-run : (m w : ℕ) (vs xs : List ℕ) → Fits (replicate m w ++ vs) xs → Below (2 ^ w) (take m xs) × Fits vs (drop m xs)
cut-run m w vs xs f =
    let cut : Fits (replicate m w) (take m xs) × Fits vs (drop m xs) = rw (length-replicate m w) at (fits-split (replicate m w) vs xs f) in
    (fits_below m w (take m xs) cut.0, cut.1)

pub card_plan-codes-below : (bytes : List ℕ) → Below (2 ^ (card_plan bytes).steps) (card_plan bytes).codes
unfolding card_plan lists_on
card_plan-codes-below bytes =
    let h = head_on bytes in
    let w = (layout h.edition).number in
    let lists = unpacked-fits (list_widths h) (drop (head_bits h) (bits_of bytes)) (below-drop (head_bits h) (bits_of bytes) (bits_of-below bytes)) in
    let lengths = cut-run h.trains w (replicate h.cars w ++ replicate h.cars h.steps) (lists_on bytes) lists in
    let inbound = cut-run h.cars w (replicate h.cars h.steps) (drop h.trains (lists_on bytes)) lengths.1 in
    fits_below h.cars h.steps (drop h.cars (drop h.trains (lists_on bytes))) inbound.1
