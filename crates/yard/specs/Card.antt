-- The night card: a layout of widths for each edition, from which writer and reader are both read.
use Rattle.std.specs.Prelude.{ℕ, ◌≤◌, ◌≡◌, ◌⊎◌, Bool, true, cond, not, ◌&&◌, ◌||◌, List, [], ◌∷◌, ◌++◌, leb, eqb, length, get_or, take, drop, replicate}
use Rattle.yard.specs.declared.Answer.{Answer}
use Rattle.yard.specs.declared.CardAnswer.{CardAnswer}
use Rattle.yard.specs.declared.Layout.{Layout}
use Rattle.yard.specs.declared.Head.{Head}
use Rattle.yard.specs.Words.{tally, every}
use Rattle.yard.specs.Bits.{Bytes, from_bits, packed, unpacked, whole_bytes, to_bytes, bits_of}
use Rattle.yard.specs.declared.Limits.{Limits}
use Rattle.yard.specs.Limits.{limits, first_limits}
use Rattle.yard.specs.Night.{Plan, plan_of, closed_by, sum}
use Rattle.yard.specs.Demands.{InLimits, Listed, Given, CodesBelow}
use Rattle.yard.specs.Answers.{says, verdict, written, Ask, answers, plain, length_ask, buffer_ask, code_ask}
use Rattle.yard.specs.Calls.{count_asks, list_asks, opening}

-- The widths of an edition's fields, and the limits that its counts keep to: edition 1 has document 01's and no mark, edition 2 those of
-- today. A number that is no edition's is refused, and is read as edition 2 is.
unfoldable pub layout : ℕ → Layout
layout edition =
    cond (eqb edition 1) (record { mark = 0; steps = 4; tracks = 4; room = 10; cars = 10; trains = 7; number = 10 })
    (record { mark = 1; steps = 5; tracks = 5; room = 13; cars = 13; trains = 9; number = 13 })

unfoldable pub limits_of : ℕ → Limits
limits_of edition = cond (eqb edition 1) first_limits limits

abbrev pub known : ℕ → Bool
known edition = eqb edition 1 || eqb edition 2

-- The head, in the order of the card: the widths of its fields, their numbers, and these by name again.
abbrev pub head_widths : Layout → List ℕ
head_widths l = 4 ∷ l.mark ∷ l.steps ∷ l.tracks ∷ l.room ∷ l.cars ∷ l.trains ∷ []

abbrev pub head_fields : Head → List ℕ
head_fields h = h.edition ∷ h.mark ∷ h.steps ∷ h.tracks ∷ h.room ∷ h.cars ∷ h.trains ∷ []

abbrev pub head_from : List ℕ → Head
head_from xs =
    record {
      edition = get_or xs 0 0;
      mark = get_or xs 1 0;
      steps = get_or xs 2 0;
      tracks = get_or xs 3 0;
      room = get_or xs 4 0;
      cars = get_or xs 5 0;
      trains = get_or xs 6 0;
    }

-- Behind it m lengths and n inbound numbers, then n codes of h bits.
abbrev pub list_widths : Head → List ℕ
list_widths h =
    let l = layout h.edition in
    replicate h.trains l.number ++ (replicate h.cars l.number ++ replicate h.cars h.steps)

abbrev pub widths : Head → List ℕ
widths h = head_widths (layout h.edition) ++ list_widths h

-- the bytes that a head takes up, and those of the whole card
unfoldable pub head_length : Head → ℕ
head_length h = whole_bytes (sum (head_widths (layout h.edition)))

unfoldable pub card_length : Head → ℕ
card_length h = whole_bytes (sum (widths h))

-- The edition of a plan: 1 where its night is open and its counts keep to edition 1's limits, 2 for every other.
abbrev pub fits_first : ℕ → ℕ → ℕ → ℕ → ℕ → Bool
fits_first n m W C h =
    leb n first_limits.cars && leb m first_limits.trains && leb W first_limits.tracks && leb C first_limits.room && leb h first_limits.steps

unfoldable pub edition_for : Bool → ℕ → ℕ → ℕ → ℕ → ℕ → ℕ
edition_for closed n m W C h = cond (not closed && fits_first n m W C h) 1 2

abbrev pub edition_of : Plan → ℕ
edition_of p =
    let n = p.night in
    edition_for n.closed (length n.inbound) (length n.lengths) n.tracks n.room p.steps

-- The card of a plan: its head and its lists in bits, with zero bits to the byte.
abbrev pub head_of : Plan → Head
head_of p =
    record {
      edition = edition_of p;
      mark = tally p.night.closed;
      steps = p.steps;
      tracks = p.night.tracks;
      room = p.night.room;
      cars = length p.night.inbound;
      trains = length p.night.lengths;
    }

unfoldable pub fields : Plan → List ℕ
fields p = head_fields (head_of p) ++ (p.night.lengths ++ (p.night.inbound ++ p.codes))

unfoldable pub card : Plan → List ℕ
card p = to_bytes (packed (widths (head_of p)) (fields p))

-- The writer: a plan, and a lent buffer for the card.
abbrev pub writer_own : Plan → ℕ → List Ask
writer_own p size =
    length_ask 3 (length p.codes) (length p.night.inbound) ∷
    code_ask p.steps p.codes ∷
    buffer_ask 6 (length (card p)) size ∷
    []

abbrev pub writer_asks : Limits → Plan → ℕ → List Ask
writer_asks L p size = opening L p.night p.steps [] (writer_own p size)

abbrev pub writer_tests : Limits → Plan → ℕ → List Answer
writer_tests L p size = answers (writer_asks L p size)

unfoldable pub writer_answer : Limits → Plan → ℕ → Answer
writer_answer L p size = verdict (writer_tests L p size) (says 0 (length (card p)) 0)

-- all that the writer asks
pub record Writable (L : Limits) (p : Plan) (size : ℕ) : Type 0 where
  pub given : Given L p.night p.steps
  pub each : length p.codes ≡ length p.night.inbound
  pub below : CodesBelow p.steps p.codes
  pub buffer : length (card p) ≤ size

-- what the writer promises
pub record Writes (p : Plan) (before : List ℕ) (r : Answer) (after : List ℕ) : Type 0 where
  pub answer : r ≡ writer_answer limits p (length before)
  pub bytes : after ≡ written (writer_answer limits p (length before)) (card p) before

-- What bytes say: the numbers at the head, the lists behind it, and the plan that they give. Edition 1 has no mark, and means an open
-- night.
unfoldable pub head_on : List ℕ → Head
head_on bytes = head_from (unpacked (head_widths (layout (from_bits 4 (bits_of bytes)))) (bits_of bytes))

unfoldable pub lists_on : List ℕ → List ℕ
lists_on bytes =
    let h = head_on bytes in
    unpacked (list_widths h) (drop (sum (head_widths (layout h.edition))) (bits_of bytes))

unfoldable pub card_plan : List ℕ → Plan
card_plan bytes =
    let h = head_on bytes in
    let lengths = take h.trains (lists_on bytes) in
    let by_car = drop h.trains (lists_on bytes) in
    plan_of lengths (take h.cars by_car) (closed_by h.mark) h.tracks h.room h.steps (drop h.cars by_car)

-- the card's right length; the bits behind its last field are all 0, and it has no byte more
unfoldable pub right_length : List ℕ → ℕ
right_length bytes = card_length (head_on bytes)

unfoldable pub ends_right : List ℕ → Bool
ends_right bytes =
    every (λ b. eqb b 0) (drop (sum (widths (head_on bytes))) (bits_of bytes)) && eqb (length bytes) (right_length bytes)

-- 10: a card too short, A the bytes needed, as far as known; 11: the edition; 12: non-zero padding, or bytes after the end, A the
-- card's right length; 17: wrong edition for this plan
abbrev pub bytes_ask : ℕ → ℕ → Ask
bytes_ask needed size = plain 10 (leb needed size) needed (needed ≤ size)

abbrev pub known_ask : ℕ → Ask
known_ask edition = plain 11 (known edition) edition ((edition ≡ 1) ⊎ (edition ≡ 2))

abbrev pub end_ask : List ℕ → Ask
end_ask bytes = plain 12 (ends_right bytes) (right_length bytes) (ends_right bytes ≡ true)

abbrev pub edition_ask : List ℕ → Ask
edition_ask bytes =
    plain 17 (eqb (edition_of (card_plan bytes)) (head_on bytes).edition) 0 (edition_of (card_plan bytes) ≡ (head_on bytes).edition)

-- the counts of a head, within the limits of its edition
abbrev pub head_counts : Head → List Ask
head_counts h = count_asks (limits_of h.edition) h.cars h.trains h.tracks h.room h.steps

abbrev pub HeadWithin : Limits → Head → Type 0
HeadWithin L h = InLimits L h.cars h.trains h.tracks h.room h.steps

-- what a head shows by itself: 10, 11, 10 and 1 (the head of edition 1 takes up 5 bytes, that of edition 2 takes up 7); whether the card
-- is whole and the buffers hold its lists: 10 and 4; and what its end and its plan show: 12 and 17
abbrev pub head_asks : ℕ → Head → List Ask
head_asks size h = bytes_ask 1 size ∷ known_ask h.edition ∷ bytes_ask (head_length h) size ∷ head_counts h

abbrev pub size_asks : ℕ → Head → ℕ → ℕ → ℕ → List Ask
size_asks size h lengths_size inbound_size codes_size =
    bytes_ask (card_length h) size ∷
    buffer_ask 1 h.trains lengths_size ∷
    buffer_ask 2 h.cars inbound_size ∷
    buffer_ask 3 h.cars codes_size ∷
    []

abbrev pub last_asks : List ℕ → List Ask
last_asks bytes = end_ask bytes ∷ edition_ask bytes ∷ []

-- The reader: a card, and three lent buffers, for lengths, inbound and codes.
abbrev pub reader_asks : List ℕ → ℕ → ℕ → ℕ → List Ask
reader_asks bytes lengths_size inbound_size codes_size =
    head_asks (length bytes) (head_on bytes) ++
    (size_asks (length bytes) (head_on bytes) lengths_size inbound_size codes_size ++
    (list_asks (card_plan bytes).night ++ last_asks bytes))

abbrev pub reader_tests : List ℕ → ℕ → ℕ → ℕ → List Answer
reader_tests bytes lengths_size inbound_size codes_size = answers (reader_asks bytes lengths_size inbound_size codes_size)

-- all that the reader asks
pub record Readable (bytes : List ℕ) (lengths_size inbound_size codes_size : ℕ) : Type 0 where
  pub some : 1 ≤ length bytes
  pub edition : ((head_on bytes).edition ≡ 1) ⊎ ((head_on bytes).edition ≡ 2)
  pub head : head_length (head_on bytes) ≤ length bytes
  pub counts : HeadWithin (limits_of (head_on bytes).edition) (head_on bytes)
  pub whole : card_length (head_on bytes) ≤ length bytes
  pub lengths : (head_on bytes).trains ≤ lengths_size
  pub inbound : (head_on bytes).cars ≤ inbound_size
  pub codes : (head_on bytes).cars ≤ codes_size
  pub lists : Listed (card_plan bytes).night.lengths (card_plan bytes).night.inbound
  pub ends : ends_right bytes ≡ true
  pub right : edition_of (card_plan bytes) ≡ (head_on bytes).edition

unfoldable pub reader_verdict : List ℕ → ℕ → ℕ → ℕ → Answer
reader_verdict bytes lengths_size inbound_size codes_size = verdict (reader_tests bytes lengths_size inbound_size codes_size) (says 0 0 0)

-- the verdict, and the mark and the numbers of a head: the card's where it accepts, and 0 for each where it refuses
abbrev pub no_head : Head
no_head = head_from []

abbrev pub reader_says : Answer → Head → CardAnswer
reader_says v h =
    record {
      number = v.number;
      a = v.a;
      b = v.b;
      mark = h.mark;
      steps = h.steps;
      tracks = h.tracks;
      room = h.room;
      cars = h.cars;
      trains = h.trains;
    }

unfoldable pub reader_answer : List ℕ → ℕ → ℕ → ℕ → CardAnswer
reader_answer bytes lengths_size inbound_size codes_size =
    let v = reader_verdict bytes lengths_size inbound_size codes_size in
    cond (eqb v.number 0) (reader_says v (head_on bytes)) (reader_says v no_head)

-- what the reader promises; that it was given bytes stands with it, so that what follows from a promise needs no other premise
abbrev pub judged : List ℕ → List ℕ → List ℕ → List ℕ → Answer
judged bytes lengths₀ inbound₀ codes₀ = reader_verdict bytes (length lengths₀) (length inbound₀) (length codes₀)

pub record Reads (bytes lengths₀ inbound₀ codes₀ : List ℕ) (r : CardAnswer) (lengths₁ inbound₁ codes₁ : List ℕ) : Type 0 where
  pub given : Bytes bytes
  pub answer : r ≡ reader_answer bytes (length lengths₀) (length inbound₀) (length codes₀)
  pub lengths : lengths₁ ≡ written (judged bytes lengths₀ inbound₀ codes₀) (card_plan bytes).night.lengths lengths₀
  pub inbound : inbound₁ ≡ written (judged bytes lengths₀ inbound₀ codes₀) (card_plan bytes).night.inbound inbound₀
  pub codes : codes₁ ≡ written (judged bytes lengths₀ inbound₀ codes₀) (card_plan bytes).codes codes₀
