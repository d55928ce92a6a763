-- Demands 1 and 2 for the card's calls: what reader and writer accept, and every refusal with its number, A and B.
use Prim.Native.Nat.{ℕ, ◌<◌}
use mathlib.Core.Path.{◌≡◌, refl}
use mathlib.Core.Logic.Iff
use mathlib.Core.Logic.{◌⊎◌, inl, inr, ⊎_elim, ◌↔◌}
use mathlib.Core.Bool.{true}
use mathlib.Core.List.{List, [], ◌++◌}
use native.Mathlib.Omega.{arith}
use lib.Dec.{eqb}
use lib.ListN.{length}
use borrow.Author.Tests.{eqb-true, eq-eqb}
use Rattle.yard.specs.declared.Limits.{Limits}
use Rattle.yard.specs.declared.Head.{Head}
use Rattle.yard.specs.Night.{Night, Plan}
use Rattle.yard.specs.Demands.{ListedWrong, InboundWrong}
use Rattle.yard.specs.Answers.{says, Ask, AllHold, FirstFails}
use Rattle.yard.specs.Calls.{list_asks}
use Rattle.yard.specs.Card.{card, head_length, head_on, card_plan, right_length, ends_right, writer_own, writer_asks, writer_answer, Writable}
use Rattle.yard.specs.Card.{card_length, known, limits_of, edition_of, bytes_ask, known_ask, end_ask, edition_ask, head_asks, size_asks, last_asks}
use Rattle.yard.specs.Card.{reader_asks, reader_verdict, Readable}
use Rattle.yard.proofs.general.Bools.{or-either}
use Rattle.yard.proofs.calls.Asks.{Right, Sound, holds-append, sound-append, fails-past, accepted-exactly, refused-exactly, plain-right}
use Rattle.yard.proofs.calls.Rights.{at-most-right, length-right, buffer-right, code-right}
use Rattle.yard.proofs.Demands.{counts-sound, counts-hold, lists-sound, lists-hold, lists-wrong, opening-sound, opening-holds, call-wrong}

-- ---- the writer

module _ (L : Limits) (p : Plan) (size : ℕ) where
  writer-sound : Sound (writer_asks L p size)
  writer-sound =
      opening-sound L p.night p.steps [] (writer_own p size) tt
      (λ _. (
        length-right 3 (length p.codes) (length p.night.inbound),
        λ _. (code-right p.steps p.codes, λ _. (buffer-right 6 (length (card p)) size, λ _. tt)),
      ))

  writer-holds : AllHold (writer_asks L p size) ↔ Writable L p size
  writer-holds =
      let opened = opening-holds L p.night p.steps [] (writer_own p size) in (
        λ all.
            let (given, _, more) = opened.0 all in
            let (each, more) = more in
            let (below, more) = more in
            record { given = given; each = each; below = below; buffer = more.0 },
        λ w. opened.1 (w.given, tt, (w.each, (w.below, (w.buffer, tt)))),
      )

  pub writer-accepts-exactly : ((writer_answer L p size).number ≡ 0) ↔ Writable L p size
  unfolding writer_answer
  writer-accepts-exactly =
      let exactly = accepted-exactly (says 0 (length (card p)) 0) refl (writer_asks L p size) writer-sound in
      (λ e. writer-holds.0 (exactly.0 e), λ w. exactly.1 (writer-holds.1 w))

  pub writer-refuses-exactly : (k a b : ℕ) → 0 < k → (writer_answer L p size ≡ says k a b) ↔ FirstFails k a b (writer_asks L p size)
  unfolding writer_answer
  writer-refuses-exactly k a b pos = refused-exactly (says 0 (length (card p)) 0) refl k a b pos (writer_asks L p size) writer-sound

  -- 3 comes exactly if the inbound list is the first thing at fault, with the first place at fault and its number's first listing
  pub writer-listing-exactly : (a b : ℕ) → (writer_answer L p size ≡ says 3 a b) ↔ InboundWrong L p.night p.steps a b
  writer-listing-exactly a b =
      Iff.trans (writer-refuses-exactly 3 a b (omega arith)) (call-wrong L p.night p.steps (writer_own p size) (omega arith) a b)

-- ---- the reader

bytes-right : (needed size : ℕ) → Right (bytes_ask needed size)
bytes-right needed size = at-most-right 9 needed needed size

known-right : (edition : ℕ) → Right (known_ask edition)
known-right edition =
    plain-right 10 (known edition) edition ((edition ≡ 1) ⊎ (edition ≡ 2)) (
      λ e. ⊎_elim (λ first. inl (eqb-true edition 1 first)) (λ second. inr (eqb-true edition 2 second)) (or-either (eqb edition 1) (eqb edition 2) e),
      λ one. ⊎_elim (λ e. rw e) (λ e. rw e) one,
    )

end-right : (bytes : List ℕ) → Right (end_ask bytes)
end-right bytes = plain-right 11 (ends_right bytes) (right_length bytes) (ends_right bytes ≡ true) (λ e. e, λ e. e)

edition-right : (bytes : List ℕ) → Right (edition_ask bytes)
edition-right bytes =
    let own = edition_of (card_plan bytes) in
    let on = (head_on bytes).edition in
    plain-right 16 (eqb own on) 0 (own ≡ on) (eqb-true own on, eq-eqb own on)

head-sound : (size : ℕ) (h : Head) → Sound (head_asks size h)
head-sound size h = (
  bytes-right 1 size,
  λ _. (
    known-right h.edition,
    λ _. (bytes-right (head_length h) size, λ _. counts-sound (limits_of h.edition) h.cars h.trains h.tracks h.room h.steps),
  ),
)

sizes-sound : (size : ℕ) (h : Head) (a b c : ℕ) → Sound (size_asks size h a b c)
sizes-sound size h a b c = (
  bytes-right (card_length h) size,
  λ _. (buffer-right 1 h.trains a, λ _. (buffer-right 2 h.cars b, λ _. (buffer-right 3 h.cars c, λ _. tt))),
)

module _ (bytes : List ℕ) (lengths_size inbound_size codes_size : ℕ) where
  abbrev h : Head
  h = head_on bytes

  abbrev night : Night
  night = (card_plan bytes).night

  -- the pieces of the reader's list
  abbrev first-asks : List Ask
  first-asks = head_asks (length bytes) h

  abbrev sizes : List Ask
  sizes = size_asks (length bytes) h lengths_size inbound_size codes_size

  abbrev last-asks : List Ask
  last-asks = list_asks night ++ last_asks bytes

  reader-sound : Sound (reader_asks bytes lengths_size inbound_size codes_size)
  reader-sound =
      sound-append first-asks (sizes ++ last-asks) (head-sound (length bytes) h)
      (λ _.
      sound-append sizes last-asks (sizes-sound (length bytes) h lengths_size inbound_size codes_size)
      (λ _. sound-append (list_asks night) (last_asks bytes) (lists-sound night) (λ _. (end-right bytes, λ _. (edition-right bytes, λ _. tt)))))

  reader-holds : AllHold (reader_asks bytes lengths_size inbound_size codes_size) ↔ Readable bytes lengths_size inbound_size codes_size
  reader-holds =
      let counted = counts-hold (limits_of h.edition) h.cars h.trains h.tracks h.room h.steps in
      let headed = holds-append first-asks (sizes ++ last-asks) in
      let sized = holds-append sizes last-asks in
      let listed = holds-append (list_asks night) (last_asks bytes) in (
        λ all.
            let (front, more) = headed.0 all in
            let (some, front) = front in
            let (edition, front) = front in
            let (head, counts) = front in
            let (middle, more) = sized.0 more in
            let (whole, middle) = middle in
            let (lengths, middle) = middle in
            let (inbound, middle) = middle in
            let (lists, ends) = listed.0 more in
            let right = ends.1 in
            record {
              some = some;
              edition = edition;
              head = head;
              counts = counted.0 counts;
              whole = whole;
              lengths = lengths;
              inbound = inbound;
              codes = middle.0;
              lists = (lists-hold night).0 lists;
              ends = ends.0;
              right = right.0;
            },
        λ r.
            let last = listed.1 ((lists-hold night).1 r.lists, (r.ends, (r.right, tt))) in
            let middle : AllHold sizes = (r.whole, (r.lengths, (r.inbound, (r.codes, tt)))) in
            headed.1 ((r.some, (r.edition, (r.head, counted.1 r.counts))), sized.1 (middle, last)),
      )

  pub reader-accepts-exactly : ((reader_verdict bytes lengths_size inbound_size codes_size).number ≡ 0) ↔ Readable bytes lengths_size inbound_size codes_size
  unfolding reader_verdict
  reader-accepts-exactly =
      let exactly = accepted-exactly (says 0 0 0) refl (reader_asks bytes lengths_size inbound_size codes_size) reader-sound in
      (λ e. reader-holds.0 (exactly.0 e), λ r. exactly.1 (reader-holds.1 r))

  pub reader-refuses-exactly : (k a b : ℕ) → 0 < k
      → (reader_verdict bytes lengths_size inbound_size codes_size ≡ says k a b) ↔ FirstFails k a b (reader_asks bytes lengths_size inbound_size codes_size)
  unfolding reader_verdict
  reader-refuses-exactly k a b pos = refused-exactly (says 0 0 0) refl k a b pos (reader_asks bytes lengths_size inbound_size codes_size) reader-sound

  -- 3 comes exactly if head, size and buffers are right and of the card's lists the inbound one is the first at fault
  pub reader-listing-exactly : (a b : ℕ)
      → (reader_verdict bytes lengths_size inbound_size codes_size ≡ says 3 a b) ↔
      (AllHold first-asks × AllHold sizes × ListedWrong night.lengths night.inbound a b)
  reader-listing-exactly a b =
      let headed = fails-past 3 a b first-asks (sizes ++ last-asks) (omega arith) in
      let sized = fails-past 3 a b sizes last-asks (omega arith) in
      let listed = lists-wrong night (last_asks bytes) (omega arith) a b in
      Iff.trans (reader-refuses-exactly 3 a b (omega arith)) (
        λ f.
            let (front, f) = headed.0 f in
            let (fits, f) = sized.0 f in
            (front, fits, listed.0 f),
        λ (front, fits, wrong). headed.1 (front, sized.1 (fits, listed.1 wrong)),
      )
