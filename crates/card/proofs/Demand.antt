-- Demands 1 and 2 on the calls: what whoever calls `read` or `write` may rely on, by what they promise of their answers and of the
-- lent buffers.
use Prim.Native.Nat.{ℕ, ◌<◌}
use mathlib.Core.Path.{◌≡◌, sym, ap, ◌∙◌}
use mathlib.Core.Logic.{◌↔◌}
use mathlib.Core.List.{List}
use lib.ListN.{length, take, drop}
use Rattle.yard.specs.declared.Answer.{Answer}
use Rattle.yard.specs.declared.CardAnswer.{CardAnswer}
use Rattle.yard.specs.Limits.{limits}
use Rattle.yard.specs.Night.{Plan}
use Rattle.yard.specs.Demands.{ListedWrong, InboundWrong}
use Rattle.yard.specs.Answers.{says, onto, AllHold, FirstFails}
use Rattle.yard.specs.Card.{head_on, head_asks, size_asks}
use Rattle.yard.specs.Card.{card, card_plan, no_head, reader_says, judged, reader_asks, Readable, Reads, writer_tests, writer_answer, writer_asks, Writable, Writes}
use Rattle.yard.proofs.general.Fronts.{front-taken, front-left}
use Rattle.yard.proofs.calls.Verdict.{verdict-done, written-accepted, written-refused}
use Rattle.yard.proofs.calls.Asks.{told-alike}
use Rattle.yard.proofs.CardDemands.{reader-accepts-exactly, reader-refuses-exactly, reader-listing-exactly}
use Rattle.yard.proofs.CardDemands.{writer-accepts-exactly, writer-refuses-exactly, writer-listing-exactly}
use Rattle.yard.proofs.cards.CardCalls.{reader-says, reader-refused}

-- ---- the reader

module _
    {bytes l i c : List ℕ}
    {r : CardAnswer}
    {l₁ i₁ c₁ : List ℕ}
    (promise : Reads bytes l i c r l₁ i₁ c₁)
  where
    -- its number, A and B
    abbrev told : Answer
    told = says r.number r.a r.b

    told_is : told ≡ judged bytes l i c
    told_is = ap (λ (q : CardAnswer). says q.number q.a q.b) promise.answer ∙ reader-says bytes (length l) (length i) (length c)

    -- it accepts exactly if all that it asks holds
    pub read-accepts : (r.number ≡ 0) ↔ Readable bytes (length l) (length i) (length c)
    read-accepts =
        let exactly = reader-accepts-exactly bytes (length l) (length i) (length c) in
        let same = ap (λ (a : Answer). a.number) told_is in
        (λ z. exactly.0 (sym same ∙ z), λ readable. same ∙ exactly.1 readable)

    -- it refuses with k, A and B exactly if the first ask that does not hold has number k, and tells A and B
    pub read-refuses : (k a b : ℕ) → 0 < k → (told ≡ says k a b) ↔ FirstFails k a b (reader_asks bytes (length l) (length i) (length c))
    read-refuses k a b pos = told-alike told_is (reader-refuses-exactly bytes (length l) (length i) (length c) k a b pos)

    -- 3 comes exactly if head, size and buffers are right and of the card's lists the inbound one is the first at fault: A is the
    -- first place at fault, B where its number was first listed, 0 for a number out of range
    pub read-listing : (a b : ℕ)
        → (told ≡ says 3 a b) ↔
        (AllHold (head_asks (length bytes) (head_on bytes)) × AllHold (size_asks (length bytes) (head_on bytes) (length l) (length i) (length c))
        × ListedWrong (card_plan bytes).night.lengths (card_plan bytes).night.inbound a b)
    read-listing a b = told-alike told_is (reader-listing-exactly bytes (length l) (length i) (length c) a b)

    -- a refused call tells no number of the card, and writes nothing
    pub read-refused : (r.number ≡ 0 → ⊥) → (r ≡ reader_says told no_head) × (l₁ ≡ l) × (i₁ ≡ i) × (c₁ ≡ c)
    read-refused h =
        let fails : (judged bytes l i c).number ≡ 0 → ⊥ = λ z. h (ap (λ (a : Answer). a.number) told_is ∙ z) in (
          promise.answer ∙ (reader-refused bytes (length l) (length i) (length c) fails ∙ ap (λ (v : Answer). reader_says v no_head) (sym told_is)),
          promise.lengths ∙ written-refused (judged bytes l i c) (card_plan bytes).night.lengths l fails,
          promise.inbound ∙ written-refused (judged bytes l i c) (card_plan bytes).night.inbound i fails,
          promise.codes ∙ written-refused (judged bytes l i c) (card_plan bytes).codes c fails,
        )

-- ---- the writer

-- what an accepted call has told: the card at the front of the buffer, its length, and the rest as it was
pub record Written (p : Plan) (before : List ℕ) (r : Answer) (after : List ℕ) : Type 0 where
  pub bytes : take r.a after ≡ card p
  pub size : r.a ≡ length (card p)
  pub rest : drop r.a after ≡ drop r.a before

module _ (p : Plan) (before : List ℕ) (r : Answer) (after : List ℕ) (promise : Writes p before r after) where
  same_number : r.number ≡ (writer_answer limits p (length before)).number
  same_number = ap (λ (a : Answer). a.number) promise.answer

  pub write-accepts : (r.number ≡ 0) ↔ Writable limits p (length before)
  write-accepts =
      let exactly = writer-accepts-exactly limits p (length before) in
      (λ z. exactly.0 (sym same_number ∙ z), λ writable. same_number ∙ exactly.1 writable)

  pub write-refuses : (k a b : ℕ) → 0 < k → (r ≡ says k a b) ↔ FirstFails k a b (writer_asks limits p (length before))
  write-refuses k a b pos = told-alike promise.answer (writer-refuses-exactly limits p (length before) k a b pos)

  pub write-listing : (a b : ℕ) → (r ≡ says 3 a b) ↔ InboundWrong limits p.night p.steps a b
  write-listing a b = told-alike promise.answer (writer-listing-exactly limits p (length before) a b)

  pub write-tells : r.number ≡ 0 → Written p before r after
  unfolding writer_answer
  write-tells z =
      let accepted : (writer_answer limits p (length before)).number ≡ 0 = sym same_number ∙ z in
      let answered = promise.answer ∙ verdict-done (writer_tests limits p (length before)) (says 0 (length (card p)) 0) accepted in
      let size : r.a ≡ length (card p) = ap (λ (a : Answer). a.a) answered in
      let held : after ≡ onto (card p) before = promise.bytes ∙ written-accepted (writer_answer limits p (length before)) (card p) before accepted in
      record { bytes = front-taken (card p) before held (sym size); size = size; rest = front-left (card p) before held (sym size) }

  -- a refused call writes nothing
  pub write-refused : (r.number ≡ 0 → ⊥) → after ≡ before
  write-refused h = promise.bytes ∙ written-refused (writer_answer limits p (length before)) (card p) before (λ z. h (same_number ∙ z))
