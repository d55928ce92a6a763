-- The card's calls: what the writer writes the reader reads back, what the reader accepts is the card of its plan, and each call has one outcome.
use Prim.Native.Nat.{ℕ, ◌-◌, ◌^◌, ◌≤◌, ◌<◌}
use mathlib.Core.Path.{◌≡◌, refl, sym, ap, subst, ◌∙◌}
use mathlib.Core.Logic.{◌⊎◌, inl, inr, ⊎_elim}
use mathlib.Core.Bool.{Bool, true, false, cond}
use mathlib.Core.List.{List, ◌++◌}
use native.Mathlib.Nat.{le_refl, le_of_eq}
use native.Mathlib.Omega.{arith}
use lib.Dec.{eqb}
use lib.ListN.{length, take, drop}
use lib.Seq.{take-append_seam}
use lib.Pow.{pow_pos}
use borrow.Author.Tests.{ne_eqb}
use Rattle.yard.specs.declared.Answer.{Answer}
use Rattle.yard.specs.declared.CardAnswer.{CardAnswer}
use Rattle.yard.specs.Limits.{limits}
use Rattle.yard.specs.Words.{tally}
use Rattle.yard.specs.Night.{Plan, closed_by}
use Rattle.yard.specs.Answers.{says}
use Rattle.yard.specs.Bits.{Bytes}
use Rattle.yard.specs.Card.{layout, limits_of, edition_of, card, head_of, head_on, card_plan, right_length, writer_tests, writer_answer, Writable}
use Rattle.yard.specs.Card.{Writes, reader_tests, HeadWithin, Readable, no_head, reader_says, reader_verdict, reader_answer, judged, Reads}
use Rattle.yard.proofs.calls.Verdict.{verdict-done, written-accepted}
use Rattle.yard.proofs.calls.Tests.{items-below, inbound-within, item-le-sum}
use Rattle.yard.proofs.yards.Formed.{inbound-passed}
use Rattle.yard.proofs.CardDemands.{writer-accepts-exactly, reader-accepts-exactly}
use Rattle.yard.proofs.cards.Card.{card-length, card_length-head, head-longest, first-longest, Fitting, head_length-some, card-head, card_plan-card}
use Rattle.yard.proofs.cards.Card.{card-right-length, card-ends-right, card_plan-cars, card_plan-codes, card_plan-head, IsCard, card-card_plan}
use Rattle.yard.proofs.cards.Card.{card_plan-codes-below, card_plan-closed, card-right-edition}
use Rattle.yard.proofs.cards.Editions.{edition-suits, edition-larger, tally-few, edition-cases}

-- The counts of a plan that the writer accepts keep to the limits of its edition.
writable-within : (p : Plan) (size : ℕ) → Writable limits p size → HeadWithin (limits_of (edition_of p)) (head_of p)
unfolding limits_of
writable-within p size w =
    let n = p.night in
    let counts = w.given.counts in
    ⊎_elim
    (λ (f, e).
    rw e
    (record {
      cars = omega (arith, f.cars, counts.cars);
      trains = omega (arith, f.trains, counts.trains);
      tracks = omega (arith, f.tracks, counts.tracks);
      room = omega (arith, f.room, counts.room);
      steps = omega (arith, f.steps);
    }))
    (λ e. rw e counts)
    (edition-cases n.closed (length n.inbound) (length n.lengths) n.tracks n.room p.steps)

-- Its mark has a bit, or is that of an open night.
mark-fits : (p : Plan) → tally p.night.closed < 2 ^ (layout (edition_of p)).mark
unfolding layout
mark-fits p =
    let n = p.night in
    ⊎_elim
    (λ (f, e). rw (e, f.free) (omega arith))
    (λ e. rw e (omega (arith, tally-few n.closed)))
    (edition-cases n.closed (length n.inbound) (length n.lengths) n.tracks n.room p.steps)

edition-known : (p : Plan) → (edition_of p ≡ 1) ⊎ (edition_of p ≡ 2)
edition-known p =
    let n = p.night in
    ⊎_elim (λ (f, e). inl e) inr (edition-cases n.closed (length n.inbound) (length n.lengths) n.tracks n.room p.steps)

edition-few : (p : Plan) → edition_of p < 2 ^ 4
edition-few p = ⊎_elim (λ e. omega (arith, e)) (λ e. omega (arith, e)) (edition-known p)

-- A plan that the writer accepts fits a card: no train is longer than the night, and every inbound number is a car's.
writable-fitting : (p : Plan) (size : ℕ) → Writable limits p size → Fitting p
writable-fitting p size w =
    let counts = writable-within p size w in
    let suits = edition-suits (edition_of p) in
    let adds = w.given.lists.adds in
    let within = inbound-within p.night.inbound ((inbound-passed p.night.inbound).1 w.given.lists.once) in
    record {
      head = (
        edition-few p,
        (
          mark-fits p,
          (
            omega (arith, counts.steps, suits.fits-steps),
            (
              omega (arith, counts.tracks, suits.fits-tracks),
              (
                omega (arith, counts.room, suits.fits-room),
                (omega (arith, counts.cars, suits.fits-cars), (omega (arith, counts.trains, suits.fits-trains), tt)),
              ),
            ),
          ),
        ),
      );
      lengths = λ i. omega (arith, item-le-sum p.night.lengths i, counts.cars, suits.fits-number);
      inbound = λ i. omega (arith, within i, counts.cars, suits.fits-number);
      codes = items-below p.codes (pow_pos p.steps) (λ j low high. w.below j (low, high));
      coded = w.each;
    }

-- A card is at most 15,271 bytes long, and at most 1,237 where it is of edition 1.
pub written-longest : (p : Plan) (size : ℕ) → (writer_answer limits p size).number ≡ 0
    → (length (card p) ≤ 15271) × (edition_of p ≡ 1 → length (card p) ≤ 1237)
written-longest p size e =
    let w = (writer-accepts-exactly limits p size).0 e in
    let within = writable-within p size w in
    rw (card-length p w.each) (head-longest (head_of p) within, λ first. first-longest (head_of p) first within)

-- What the writer writes the reader accepts, and reads back.
pub written-read-back : (p : Plan) (size a b c : ℕ)
    → (writer_answer limits p size).number ≡ 0
    → length p.night.lengths ≤ a
    → length p.night.inbound ≤ b
    → length p.codes ≤ c
    → ((reader_verdict (card p) a b c).number ≡ 0) × (card_plan (card p) ≡ p)
unfolding right_length
written-read-back p size a b c e la lb lc =
    let w = (writer-accepts-exactly limits p size).0 e in
    let f = writable-fitting p size w in
    let head = card-head p f in
    let readable : Readable (card p) a b c =
    record {
      some = rw (card-length p w.each) (omega (arith, card_length-head (head_of p), head_length-some (head_of p)));
      edition = rw head (edition-known p);
      head = rw (head, card-length p w.each) (card_length-head (head_of p));
      counts = rw head (writable-within p size w);
      whole = le_of_eq (card-right-length p f);
      lengths = rw head la;
      inbound = rw head lb;
      codes = rw head (rw w.each at lc);
      lists = rw (card_plan-card p f) w.given.lists;
      ends = card-ends-right p f;
      right = card-right-edition p f;
    } in
    ((reader-accepts-exactly (card p) a b c).1 readable, card_plan-card p f)

-- What the reader accepts is the card of its plan, and the writer accepts that plan.
pub accepted-is_card : (bytes : List ℕ) (a b c : ℕ) → Bytes bytes → (reader_verdict bytes a b c).number ≡ 0 → IsCard bytes
accepted-is_card bytes a b c small e =
    let r = (reader-accepts-exactly bytes a b c).0 e in
    record { small = small; right = r.right; ends = r.ends }

pub accepted-is-the-card : (bytes : List ℕ) (a b c size : ℕ)
    → Bytes bytes
    → (reader_verdict bytes a b c).number ≡ 0
    → length bytes ≤ size
    → (card (card_plan bytes) ≡ bytes) × ((writer_answer limits (card_plan bytes) size).number ≡ 0)
accepted-is-the-card bytes a b c size small e h =
    let r = (reader-accepts-exactly bytes a b c).0 e in
    let same = card-card_plan bytes (accepted-is_card bytes a b c small e) in
    let writable : Writable limits (card_plan bytes) size =
    record {
      given =
          record {
            counts =
                subst (HeadWithin limits) (sym (card_plan-head bytes r.right))
                (edition-larger (head_on bytes).edition r.counts);
            lists = r.lists;
          };
      each = card_plan-codes bytes ∙ sym (card_plan-cars bytes);
      below = λ car w. card_plan-codes-below bytes (car - 1);
      buffer = rw same h;
    } in
    (same, (writer-accepts-exactly limits (card_plan bytes) size).1 writable)

pub accepted-longest : (bytes : List ℕ) (a b c : ℕ) → Bytes bytes → (reader_verdict bytes a b c).number ≡ 0 → length bytes ≤ 15271
accepted-longest bytes a b c small e =
    let back = accepted-is-the-card bytes a b c (length bytes) small e (le_refl (length bytes)) in
    rw back.0 at (written-longest (card_plan bytes) (length bytes) back.1).0

-- What a caller of the reader has in hand after an acceptance: the plan's mark and numbers in the answer, and its lists at the front of
-- the buffers.
pub record Told (p : Plan) (lengths₀ inbound₀ codes₀ : List ℕ) (r : CardAnswer) (lengths₁ inbound₁ codes₁ : List ℕ) : Type 0 where
  pub answer : r ≡ reader_says (says 0 0 0) (head_of p)
  pub mark : closed_by r.mark ≡ p.night.closed
  pub lengths : lengths₁ ≡ p.night.lengths ++ drop (length p.night.lengths) lengths₀
  pub inbound : inbound₁ ≡ p.night.inbound ++ drop (length p.night.inbound) inbound₀
  pub codes : codes₁ ≡ p.codes ++ drop (length p.codes) codes₀

-- the answer's number, A and B are the verdict's
pub reader-says : (bytes : List ℕ) (a b c : ℕ)
    → let r = reader_answer bytes a b c in
    says r.number r.a r.b ≡ reader_verdict bytes a b c
unfolding reader_answer
reader-says bytes a b c = go (reader_verdict bytes a b c) (eqb (reader_verdict bytes a b c).number 0)
  where
    go : (v : Answer) (t : Bool) → let r = cond t (reader_says v (head_on bytes)) (reader_says v no_head) in says r.number r.a r.b ≡ v
    go v true = refl
    go v false = refl

reader_answer-number : (bytes : List ℕ) (a b c : ℕ) → (reader_answer bytes a b c).number ≡ (reader_verdict bytes a b c).number
reader_answer-number bytes a b c = ap (λ (r : Answer). r.number) (reader-says bytes a b c)

pub reader-refused : (bytes : List ℕ) (a b c : ℕ)
    → ((reader_verdict bytes a b c).number ≡ 0 → ⊥)
    → reader_answer bytes a b c ≡ reader_says (reader_verdict bytes a b c) no_head
unfolding reader_answer
reader-refused bytes a b c h = rw (ne_eqb (reader_verdict bytes a b c).number 0 h)

reader_answer-accepted : (bytes : List ℕ) (a b c : ℕ)
    → (reader_verdict bytes a b c).number ≡ 0
    → reader_answer bytes a b c ≡ reader_says (says 0 0 0) (head_on bytes)
unfolding reader_answer reader_verdict
reader_answer-accepted bytes a b c e =
    rw (verdict-done (reader_tests bytes a b c) (says 0 0 0) e)

module _
    {bytes lengths₀ inbound₀ codes₀ : List ℕ}
    {r : CardAnswer}
    {lengths₁ inbound₁ codes₁ : List ℕ}
    (reads : Reads bytes lengths₀ inbound₀ codes₀ r lengths₁ inbound₁ codes₁)
  where
    reads-number : r.number ≡ (judged bytes lengths₀ inbound₀ codes₀).number
    reads-number = ap (λ r. r.number) reads.answer ∙ reader_answer-number bytes (length lengths₀) (length inbound₀) (length codes₀)

    pub read_told : r.number ≡ 0 → Told (card_plan bytes) lengths₀ inbound₀ codes₀ r lengths₁ inbound₁ codes₁
    read_told e =
        let v = judged bytes lengths₀ inbound₀ codes₀ in
        let accepted : v.number ≡ 0 = sym reads-number ∙ e in
        let readable = (reader-accepts-exactly bytes (length lengths₀) (length inbound₀) (length codes₀)).0 accepted in
        let told = reads.answer ∙ reader_answer-accepted bytes (length lengths₀) (length inbound₀) (length codes₀) accepted in
        record {
          answer = told ∙ ap (reader_says (says 0 0 0)) (sym (card_plan-head bytes readable.right));
          mark = ap (λ (q : CardAnswer). closed_by q.mark) told ∙ sym (card_plan-closed bytes);
          lengths = reads.lengths ∙ written-accepted v (card_plan bytes).night.lengths lengths₀ accepted;
          inbound = reads.inbound ∙ written-accepted v (card_plan bytes).night.inbound inbound₀ accepted;
          codes = reads.codes ∙ written-accepted v (card_plan bytes).codes codes₀ accepted;
        }

-- Written, then read: the plan that went in comes out, the mark too.
written-bytes : {p : Plan} {before : List ℕ} {w : Answer} {after : List ℕ} → Writes p before w after → w.number ≡ 0 → take w.a after ≡ card p
unfolding writer_answer
written-bytes {p} {before} {w} {after} writes e =
    let accepted : (writer_answer limits p (length before)).number ≡ 0 = sym (ap (λ r. r.number) writes.answer) ∙ e in
    let bytes : after ≡ card p ++ drop (length (card p)) before = writes.bytes
    ∙ written-accepted (writer_answer limits p (length before)) (card p) before accepted in
    let size : w.a ≡ length (card p) =
    ap (λ r. r.a) (writes.answer ∙ verdict-done (writer_tests limits p (length before)) (says 0 (length (card p)) 0) accepted) in
    rw (bytes, size) (take-append_seam (card p) (drop (length (card p)) before))

pub written-then-read : {p : Plan} {before : List ℕ} {w : Answer} {after lengths₀ inbound₀ codes₀ : List ℕ} {r : CardAnswer} {lengths₁ inbound₁ codes₁ : List ℕ}
    → Writes p before w after
    → w.number ≡ 0
    → Reads (take w.a after) lengths₀ inbound₀ codes₀ r lengths₁ inbound₁ codes₁
    → length p.night.lengths ≤ length lengths₀
    → length p.night.inbound ≤ length inbound₀
    → length p.codes ≤ length codes₀
    → Told p lengths₀ inbound₀ codes₀ r lengths₁ inbound₁ codes₁
written-then-read {p} {before} {w} {after} {lengths₀} {inbound₀} {codes₀} {r} {lengths₁} {inbound₁} {codes₁} writes e reads l i c =
    let same : Reads (card p) lengths₀ inbound₀ codes₀ r lengths₁ inbound₁ codes₁ = rw (written-bytes writes e) at reads in
    let accepted = sym (ap (λ r. r.number) writes.answer) ∙ e in
    let back = written-read-back p (length before) (length lengths₀) (length inbound₀) (length codes₀) accepted l i c in
    rw back.1 at (read_told same (reads-number same ∙ back.0))

-- Read, then written: the bytes that came in go out.
pub read-then-written : {bytes lengths₀ inbound₀ codes₀ : List ℕ} {r : CardAnswer} {lengths₁ inbound₁ codes₁ before : List ℕ} {w : Answer} {after : List ℕ}
    → Reads bytes lengths₀ inbound₀ codes₀ r lengths₁ inbound₁ codes₁
    → r.number ≡ 0
    → Writes (card_plan bytes) before w after
    → length bytes ≤ length before
    → (w.number ≡ 0) × (take w.a after ≡ bytes)
read-then-written {bytes} {lengths₀} {inbound₀} {codes₀} {before = before} reads e writes h =
    let back =
    accepted-is-the-card bytes (length lengths₀) (length inbound₀) (length codes₀) (length before) reads.given (sym (reads-number reads) ∙ e) h in
    let accepted = ap (λ r. r.number) writes.answer ∙ back.1 in
    (accepted, written-bytes writes accepted ∙ back.0)

-- Each call leaves one answer and one content of its buffers.
pub writer-one : {p : Plan} {before : List ℕ} {r s : Answer} {after other : List ℕ} → Writes p before r after
    → Writes p before s other → (r ≡ s) × (after ≡ other)
writer-one x y = (x.answer ∙ sym y.answer, x.bytes ∙ sym y.bytes)

pub reader-one : {bytes lengths₀ inbound₀ codes₀ : List ℕ} {r s : CardAnswer} {lengths₁ inbound₁ codes₁ lengths₂ inbound₂ codes₂ : List ℕ}
    → Reads bytes lengths₀ inbound₀ codes₀ r lengths₁ inbound₁ codes₁
    → Reads bytes lengths₀ inbound₀ codes₀ s lengths₂ inbound₂ codes₂
    → (r ≡ s) × (lengths₁ ≡ lengths₂) × (inbound₁ ≡ inbound₂) × (codes₁ ≡ codes₂)
reader-one x y =
    (x.answer ∙ sym y.answer, x.lengths ∙ sym y.lengths, x.inbound ∙ sym y.inbound, x.codes ∙ sym y.codes)
