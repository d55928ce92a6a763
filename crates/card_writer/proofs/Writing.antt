-- Laws of the writer: the bits of a card in the order in which they are drawn, their room, and its answer in parts.
use Prim.Native.Nat.{ℕ, ◌+◌, ◌*◌, ◌≤◌}
use mathlib.Core.Path.{◌≡◌, refl, sym, ap, ◌∙◌}
use mathlib.Core.List.{List, ◌++◌}
use native.Mathlib.Omega.{arith}
use lib.ListN.{length, replicate, length-append, length-replicate}
use Rattle.yard.specs.declared.Answer.{Answer}
use Rattle.yard.specs.Answers.{says}
use Rattle.yard.specs.declared.Head.{Head}
use Rattle.yard.specs.declared.Layout.{Layout}
use Rattle.yard.specs.Limits.{limits}
use Rattle.yard.specs.Night.{Plan, sum}
use Rattle.yard.specs.Bits.{packed, to_bytes}
use Rattle.yard.specs.Card.{layout, edition_of, head_widths, head_fields, list_widths, head_of, fields, card_length, card, writer_answer}
use Rattle.yard.proofs.cards.Bits.{length-to_bits, packed-append, length-packed, sum-replicate}
use Rattle.yard.proofs.cards.Card.{widths-sum, card-length}
use Rattle.yard.proofs.CardDemands.{writer-accepts-exactly}
use Rattle.card_writer.specs.Writing.{IsDrawable}
use Rattle.format.proofs.Widths.{within-bounded}

-- the bits of a list whose numbers have one width
abbrev pub run : ℕ → List ℕ → List ℕ
run w xs = packed (replicate (length xs) w) xs

pub run-size : (w : ℕ) (xs : List ℕ) → length (run w xs) ≡ length xs * w
run-size w xs = length-packed (replicate (length xs) w) xs (sym (length-replicate (length xs) w)) ∙ sum-replicate (length xs) w

-- The bits of a card: the head, then the lengths, the inbound numbers and the codes.
abbrev pub head_run : Plan → List ℕ
head_run p = packed (head_widths (layout (edition_of p))) (head_fields (head_of p))

abbrev pub card_bits : Plan → List ℕ
card_bits p =
    let w = (layout (edition_of p)).number in
    head_run p ++ (run w p.night.lengths ++ (run w p.night.inbound ++ run p.steps p.codes))

pub card-bits : (p : Plan) → length p.codes ≡ length p.night.inbound → card p ≡ to_bytes (card_bits p)
unfolding card fields
card-bits p coded =
    let h = head_of p in
    let w = (layout (edition_of p)).number in
    let cars = replicate h.cars w in
    let codes = replicate h.cars p.steps in
    let last : packed codes p.codes ≡ run p.steps p.codes = ap (λ k. packed (replicate k p.steps) p.codes) (sym coded) in
    let by_car =
    packed-append cars codes p.night.inbound p.codes (sym (length-replicate h.cars w)) ∙ ap (λ l. run w p.night.inbound ++ l) last in
    let lists =
    packed-append (replicate h.trains w) (cars ++ codes) p.night.lengths (p.night.inbound ++ p.codes) (sym (length-replicate h.trains w))
    ∙ ap (λ l. run w p.night.lengths ++ l) by_car in
    ap to_bytes (packed-append (head_widths (layout (edition_of p))) (list_widths h) (head_fields h) (p.night.lengths ++ (p.night.inbound ++ p.codes)) refl)
    ∙ ap (λ l. to_bytes (head_run p ++ l)) lists

-- all of them have room on a card that the plan can be drawn on
pub drawable-room : {p : Plan} {size : ℕ} {h : Head} {l : Layout} → IsDrawable p size → h ≡ head_of p → l ≡ layout h.edition
    → sum (head_widths l) + length p.night.lengths * l.number + length p.night.inbound * l.number + length p.codes * h.steps ≤ size * 8
unfolding card_length
drawable-room {p} {size} {h} {l} d head laid =
    let e = d.coded in
    rw (laid, head, e) (omega (arith, widths-sum (head_of p), card-length p e, d.room))

pub card_bits-size : (p : Plan) {h : Head} {l : Layout} → h ≡ head_of p → l ≡ layout h.edition
    → length (card_bits p) ≡ sum (head_widths l) + length p.night.lengths * l.number + length p.night.inbound * l.number + length p.codes * h.steps
card_bits-size p head laid = rw (laid, head) (simp (length-append, length-to_bits, run-size) (omega arith))

-- a plan that is accepted can be drawn
pub accepted-drawable : (p : Plan) (size : ℕ) {n : ℕ} → says 0 n 0 ≡ writer_answer limits p size → IsDrawable p size
accepted-drawable p size told =
    let w = (writer-accepts-exactly limits p size).0 (ap (λ (r : Answer). r.number) (sym told)) in
    record { bounded = within-bounded {h = head_of p} w.given.counts; coded = w.each; room = w.buffer }
