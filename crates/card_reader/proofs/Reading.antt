-- Laws of the reader: where the numbers and lists of a card stand, and its verdict in parts.
use Prim.Native.Nat.{ℕ, ◌+◌, ◌≤◌}
use mathlib.Core.Path.{◌≡◌, refl, sym, ap, subst, ◌∙◌}
use mathlib.Core.List.{List, ◌++◌}
use lib.ListN.{length, take, drop, replicate}
use lib.Seq.{take_at, drop_at, drop-drop, length-take-le}
use borrow.Author.Tests.{eq-eqb, ne_eqb}
use Rattle.yard.specs.declared.Answer.{Answer}
use Rattle.yard.specs.declared.Head.{Head}
use Rattle.yard.specs.declared.refusal.Refusal.{Refusal}
use Rattle.yard.specs.Night.{sum}
use Rattle.yard.specs.Refusals.{refused}
use Rattle.yard.proofs.calls.Told.{refused-not_done}
use Rattle.yard.specs.Answers.{says, verdict, written}
use Rattle.yard.specs.Bits.{Bytes, unpacked, bits_of}
use Rattle.yard.specs.Card.{layout, head_widths, card_length, head_on, lists_on, card_plan, right_length, ends_right, no_head, reader_says}
use Rattle.yard.specs.Card.{limits_of, reader_verdict, reader_answer, judged, Reads}
use Rattle.yard.proofs.calls.Verdict.{verdict-passes, stops-all, goes-on-all, written-accepted, written-refused}
use Rattle.yard.proofs.calls.Tests.{counts-passed}
use Rattle.yard.proofs.cards.Bits.{sum-replicate, unpacked-append}
use Rattle.yard.proofs.cards.Card.{card_plan-trains, card_plan-cars, card_plan-codes, card_plan-edition}
use Rattle.yard.proofs.CardDemands.{reader-accepts-exactly}
use Rattle.bits.specs.Fields.{field_at, fields_at, ends_at}
use Rattle.bits.proofs.Places.{length-fields_at}
use Rattle.format.specs.Format.{Bounded}
use Rattle.card_reader.specs.Reading.{lengths_on, inbound_on, codes_on, head_tests, size_tests, night_tests_on, last_tests}
use Rattle.format.proofs.Widths.{end_is, edition-bounded}

-- The head: each number behind the one before it.
pub head-places : (bytes : List ℕ)
    → let l = layout (field_at bytes 0 4) in
    head_on bytes ≡
    record {
      edition = field_at bytes 0 4;
      mark = field_at bytes 4 l.mark;
      steps = field_at bytes (4 + l.mark) l.steps;
      tracks = field_at bytes (4 + l.mark + l.steps) l.tracks;
      room = field_at bytes (4 + l.mark + l.steps + l.tracks) l.room;
      cars = field_at bytes (4 + l.mark + l.steps + l.tracks + l.room) l.cars;
      trains = field_at bytes (4 + l.mark + l.steps + l.tracks + l.room + l.cars) l.trains;
    }
unfolding head_on field_at
head-places bytes = simp drop-drop

-- The lists: fields behind the head, one run behind the other.
lists-places : (bytes : List ℕ) → let h = head_on bytes in lists_on bytes ≡ lengths_on bytes h ++ (inbound_on bytes h ++ codes_on bytes h)
unfolding lists_on fields_at
lists-places bytes =
    let h = head_on bytes in
    let w = (layout h.edition).number in
    let behind = drop (sum (head_widths (layout h.edition))) (bits_of bytes) in
    let lengths = unpacked (replicate h.trains w) behind in
    let by_car = drop (sum (replicate h.trains w)) behind in
    unpacked-append (replicate h.trains w) (replicate h.cars w ++ replicate h.cars h.steps) behind
    ∙ ap (λ l. lengths ++ l) (unpacked-append (replicate h.cars w) (replicate h.cars h.steps) by_car)
    ∙ simp (sum-replicate, drop-drop)

module _ (bytes : List ℕ) where
  abbrev h : Head
  h = head_on bytes

  abbrev w : ℕ
  w = (layout (head_on bytes).edition).number

  pub plan-lengths : (card_plan bytes).night.lengths ≡ lengths_on bytes (head_on bytes)
  unfolding card_plan
  plan-lengths = ap (take h.trains) (lists-places bytes) ∙ take_at (lengths_on bytes h) _ h.trains (length-fields_at bytes _ w h.trains)

  -- what stands behind the lengths
  behind-lengths : drop h.trains (lists_on bytes) ≡ inbound_on bytes h ++ codes_on bytes h
  behind-lengths = ap (drop h.trains) (lists-places bytes) ∙ drop_at (lengths_on bytes h) _ h.trains (length-fields_at bytes _ w h.trains)

  pub plan-inbound : (card_plan bytes).night.inbound ≡ inbound_on bytes (head_on bytes)
  unfolding card_plan
  plan-inbound = ap (take h.cars) behind-lengths ∙ take_at (inbound_on bytes h) _ h.cars (length-fields_at bytes _ w h.cars)

  pub plan-codes : (card_plan bytes).codes ≡ codes_on bytes (head_on bytes)
  unfolding card_plan
  plan-codes = ap (drop h.cars) behind-lengths ∙ drop_at (inbound_on bytes h) _ h.cars (length-fields_at bytes _ w h.cars)

-- The verdict in parts: the head, the sizes, the lists, the end and the edition.
abbrev lists_and_last : List ℕ → Head → List Answer
lists_and_last bytes h = night_tests_on bytes h ++ last_tests bytes h

parts-on : (bytes : List ℕ) (a b c : ℕ)
    → let h = head_on bytes in
    verdict (head_tests (length bytes) h ++ (size_tests (length bytes) h a b c ++ lists_and_last bytes h)) (says 0 0 0)
    ≡ reader_verdict bytes a b c
unfolding reader_verdict ends_right ends_at right_length card_length
parts-on bytes a b c = rw (card_plan-edition bytes, plan-lengths bytes, plan-inbound bytes, end_is (head_on bytes))

pub reader-parts : (bytes : List ℕ) {h : Head} (a b c : ℕ) → h ≡ head_on bytes
    → verdict (head_tests (length bytes) h ++ (size_tests (length bytes) h a b c ++ lists_and_last bytes h)) (says 0 0 0)
    ≡ reader_verdict bytes a b c
reader-parts bytes a b c head =
    ap (λ (h : Head). verdict (head_tests (length bytes) h ++ (size_tests (length bytes) h a b c ++ lists_and_last bytes h)) (says 0 0 0)) head
    ∙ parts-on bytes a b c

-- The verdict on a card by its parts: a part that refuses decides, and behind those that pass the next one does.
module _ (bytes : List ℕ) (a b c : ℕ) {h : Head} (head_is : h ≡ head_on bytes) where
  abbrev heads : List Answer
  heads = head_tests (length bytes) h

  abbrev sizes : List Answer
  sizes = size_tests (length bytes) h a b c

  pub at-head : (e : Refusal) → refused e ≡ verdict heads (says 0 0 0) → refused e ≡ reader_verdict bytes a b c
  at-head e is =
      stops-all heads (sizes ++ lists_and_last bytes h) (says 0 0 0) (refused e) is (refused-not_done e) ∙ reader-parts bytes a b c head_is

  module _ (head : says 0 0 0 ≡ verdict heads (says 0 0 0)) where
    behind-head : {t : Answer} → t ≡ verdict (sizes ++ lists_and_last bytes h) (says 0 0 0) → t ≡ reader_verdict bytes a b c
    behind-head {t} is =
        goes-on-all heads (sizes ++ lists_and_last bytes h) (says 0 0 0) (says 0 0 0) head t refl is ∙ reader-parts bytes a b c head_is

    pub at-sizes : (e : Refusal) → refused e ≡ verdict sizes (says 0 0 0) → refused e ≡ reader_verdict bytes a b c
    at-sizes e is = behind-head (stops-all sizes (lists_and_last bytes h) (says 0 0 0) (refused e) is (refused-not_done e))

    module _ (size : says 0 0 0 ≡ verdict sizes (says 0 0 0)) where
      behind-sizes : {t : Answer} → t ≡ verdict (lists_and_last bytes h) (says 0 0 0) → t ≡ reader_verdict bytes a b c
      behind-sizes {t} is = behind-head (goes-on-all sizes (lists_and_last bytes h) (says 0 0 0) (says 0 0 0) size t refl is)

      pub at-lists : (e : Refusal) → refused e ≡ verdict (night_tests_on bytes h) (says 0 0 0) → refused e ≡ reader_verdict bytes a b c
      at-lists e is = behind-sizes (stops-all (night_tests_on bytes h) (last_tests bytes h) (says 0 0 0) (refused e) is (refused-not_done e))

      pub at-last : {t : Answer}
          → says 0 0 0 ≡ verdict (night_tests_on bytes h) (says 0 0 0)
          → t ≡ verdict (last_tests bytes h) (says 0 0 0)
          → t ≡ reader_verdict bytes a b c
      at-last {t} listed is =
          behind-sizes (goes-on-all (night_tests_on bytes h) (last_tests bytes h) (says 0 0 0) (says 0 0 0) listed t refl is)

-- a head that passes is within the limits
pub head_bounded : (size : ℕ) (h : Head) → (verdict (head_tests size h) (says 0 0 0)).number ≡ 0 → Bounded h
head_bounded size h e =
    let (some, more) = ((verdict-passes (head_tests size h) (says 0 0 0)).0 e).0 in
    let (edition, more) = more in
    let (whole, counts) = more in
    edition-bounded {h = h} ((counts-passed (limits_of h.edition) h.cars h.trains h.tracks h.room h.steps).0 counts)

-- a head within the limits, and buffers that have room for its lists
pub record Roomy (h : Head) (lengths inbound codes : ℕ) : Type 0 where
  pub bounded : Bounded h
  pub lengths_fit : h.trains ≤ lengths
  pub inbound_fits : h.cars ≤ inbound
  pub codes_fit : h.cars ≤ codes

pub accepted_room : (bytes : List ℕ) (a b c : ℕ) (h : Head) → says 0 0 0 ≡ reader_verdict bytes a b c → h ≡ head_on bytes → Roomy h a b c
accepted_room bytes a b c h passed e =
    let r = (reader-accepts-exactly bytes a b c).0 (ap (λ (v : Answer). v.number) (sym passed)) in
    subst (λ (k : Head). Roomy k a b c) (sym e)
    (record { bounded = edition-bounded {h = head_on bytes} r.counts; lengths_fit = r.lengths; inbound_fits = r.inbound; codes_fit = r.codes })

-- The call: with a verdict in hand, the buffers after it are as they were, or hold the card's lists.
module _ (bytes l i c : List ℕ) (given : Bytes bytes) where
  pub reads-refused : (e : Refusal) → refused e ≡ judged bytes l i c → Reads bytes l i c (reader_says (refused e) no_head) l i c
  unfolding reader_answer
  reads-refused e is =
      let w = judged bytes l i c in
      let fails : w.number ≡ 0 → ⊥ = λ z. refused-not_done e (ap (λ (r : Answer). r.number) is ∙ z) in
      record {
        given = given;
        answer = rw (ne_eqb w.number 0 fails) (ap (λ v. reader_says v no_head) is);
        lengths = sym (written-refused w (card_plan bytes).night.lengths l fails);
        inbound = sym (written-refused w (card_plan bytes).night.inbound i fails);
        codes = sym (written-refused w (card_plan bytes).codes c fails);
      }

  module _ (passed : says 0 0 0 ≡ judged bytes l i c) where
    accepted : (judged bytes l i c).number ≡ 0
    accepted = ap (λ (r : Answer). r.number) (sym passed)

    -- a list of the plan at the front of its buffer
    front : (items found buffer : List ℕ) (n : ℕ) → items ≡ found → length items ≡ n → found ++ drop n buffer ≡ written (judged bytes l i c) items buffer
    front items found buffer n e size =
        sym
        (written-accepted (judged bytes l i c) items buffer accepted
        ∙ ap (λ k. items ++ drop k buffer) size
        ∙ ap (λ l. l ++ drop n buffer) e)

    own-accepted : let h = head_on bytes in
        Reads bytes l i c (reader_says (says 0 0 0) h)
        (lengths_on bytes h ++ drop h.trains l)
        (inbound_on bytes h ++ drop h.cars i)
        (codes_on bytes h ++ drop h.cars c)
    unfolding reader_answer
    own-accepted =
        record {
          given = given;
          answer = rw (eq-eqb (judged bytes l i c).number 0 accepted) (ap (λ v. reader_says v (head_on bytes)) passed);
          lengths = front (card_plan bytes).night.lengths _ l _ (plan-lengths bytes) (card_plan-trains bytes);
          inbound = front (card_plan bytes).night.inbound _ i _ (plan-inbound bytes) (card_plan-cars bytes);
          codes = front (card_plan bytes).codes _ c _ (plan-codes bytes) (card_plan-codes bytes);
        }

    -- for a head that is the card's
    pub reads-accepted : {h : Head} → h ≡ head_on bytes
        → Reads bytes l i c (reader_says (says 0 0 0) h)
        (lengths_on bytes h ++ drop h.trains l)
        (inbound_on bytes h ++ drop h.cars i)
        (codes_on bytes h ++ drop h.cars c)
    reads-accepted e =
        subst
        (λ (k : Head). Reads bytes l i c (reader_says (says 0 0 0) k) (lengths_on bytes k ++ drop k.trains l) (inbound_on bytes k ++ drop k.cars i)
        (codes_on bytes k ++ drop k.cars c))
        (sym e)
        own-accepted

-- the length of a front
pub length_front : (n : ℕ) (xs : List ℕ) → n ≤ length xs → length (take n xs) ≡ n
length_front n xs = length-take-le n xs
