-- The two calls together, on what they promise: a written card is read back, and a card that is read is the one that is written.
use Prim.Native.Nat.{ℕ, ◌≤◌}
use mathlib.Core.Path.{◌≡◌, refl, sym, ap, ◌∙◌}
use mathlib.Core.Bool.{Bool}
use mathlib.Core.List.{List, ◌++◌}
use native.Mathlib.Omega.{arith}
use lib.ListN.{length, take, length-append}
use Rattle.yard.specs.declared.Answer.{Answer}
use Rattle.yard.specs.declared.CardAnswer.{CardAnswer}
use Rattle.yard.specs.Night.{Plan, plan_of, closed_by}
use Rattle.yard.specs.Limits.{limits}
use Rattle.yard.specs.Answers.{written}
use Rattle.yard.specs.Card.{card, card_plan, writer_answer, Writes, Reads}
use Rattle.yard.proofs.general.Fronts.{front-taken}
use Rattle.yard.proofs.cards.Card.{card_plan-cars, card_plan-codes}
use Rattle.yard.proofs.cards.CardCalls.{Told, read_told, written-then-read, read-then-written}

-- the plan that a caller of the reader has in hand: the first items of the buffers, and the answer's mark and numbers
abbrev pub plan_read : CardAnswer → List ℕ → List ℕ → List ℕ → Plan
plan_read r lengths inbound codes =
    plan_of (take r.trains lengths) (take r.cars inbound) (closed_by r.mark) r.tracks r.room r.steps (take r.cars codes)

-- after an acceptance that is the plan of the card
pub plan-read : {bytes l i c : List ℕ} {r : CardAnswer} {l₁ i₁ c₁ : List ℕ}
    → Reads bytes l i c r l₁ i₁ c₁
    → r.number ≡ 0
    → plan_read r l₁ i₁ c₁ ≡ card_plan bytes
plan-read {bytes} {l} {i} {c} {r} {l₁} {i₁} {c₁} reads e =
    let p = card_plan bytes in
    let told = read_told reads e in
    let coded : length p.night.inbound ≡ length p.codes = card_plan-cars bytes ∙ sym (card_plan-codes bytes) in
    let lengths = front-taken p.night.lengths l told.lengths (sym (ap (λ r. r.trains) told.answer)) in
    let inbound = front-taken p.night.inbound i told.inbound (sym (ap (λ r. r.cars) told.answer)) in
    let codes = front-taken p.codes c told.codes (sym (ap (λ r. r.cars) told.answer ∙ coded)) in
    ap (λ x. plan_of x (take r.cars i₁) (closed_by r.mark) r.tracks r.room r.steps (take r.cars c₁)) lengths
    ∙ ap (λ x. plan_of p.night.lengths x (closed_by r.mark) r.tracks r.room r.steps (take r.cars c₁)) inbound
    ∙ ap (λ x. plan_of p.night.lengths p.night.inbound (closed_by r.mark) r.tracks r.room r.steps x) codes
    ∙ ap (λ (b : Bool). plan_of p.night.lengths p.night.inbound b r.tracks r.room r.steps p.codes) told.mark
    ∙ ap (λ r. plan_of p.night.lengths p.night.inbound p.night.closed r.tracks r.room r.steps p.codes) told.answer

-- What `write` wrote `read` takes back: the mark and the numbers in the answer, the items of each list at the front of its buffer.
pub write-then-read : {lengths inbound codes : List ℕ} {closed : Bool} {tracks room steps : ℕ} {before : List ℕ} {w : Answer} {after : List ℕ}
    {l i c : List ℕ} {r : CardAnswer} {l₁ i₁ c₁ : List ℕ}
    → Writes (plan_of lengths inbound closed tracks room steps codes) before w after
    → w.number ≡ 0
    → Reads (take w.a after) l i c r l₁ i₁ c₁
    → length lengths ≤ length l
    → length inbound ≤ length i
    → length codes ≤ length c
    → Told (plan_of lengths inbound closed tracks room steps codes) l i c r l₁ i₁ c₁
write-then-read = written-then-read

-- A card that `read` accepts is byte for byte the one that `write` makes of what was read.
pub read-then-write : {bytes l i c : List ℕ} {r : CardAnswer} {l₁ i₁ c₁ before : List ℕ} {w : Answer} {after : List ℕ}
    → Reads bytes l i c r l₁ i₁ c₁
    → r.number ≡ 0
    → Writes (plan_read r l₁ i₁ c₁) before w after
    → length bytes ≤ length before
    → (w.number ≡ 0) × (take w.a after ≡ bytes)
read-then-write reads e writes h = read-then-written reads e (rw (plan-read reads e) at writes) h

-- So no two cards are read as one plan, over both editions.
pub one-card : {x y l i c : List ℕ} {r : CardAnswer} {l₁ i₁ c₁ k j d : List ℕ} {s : CardAnswer} {k₁ j₁ d₁ : List ℕ}
    → Reads x l i c r l₁ i₁ c₁
    → Reads y k j d s k₁ j₁ d₁
    → r.number ≡ 0
    → s.number ≡ 0
    → plan_read r l₁ i₁ c₁ ≡ plan_read s k₁ j₁ d₁
    → x ≡ y
one-card {x} {y} {r = r} {l₁ = l₁} {i₁ = i₁} {c₁ = c₁} {s = s} {k₁ = k₁} {j₁ = j₁} {d₁ = d₁} reads-x reads_y rx ry same =
    let before = x ++ y in
    let answer : Plan → Answer = λ p. writer_answer limits p (length before) in
    let after : Plan → List ℕ = λ p. written (answer p) (card p) before in
    let writes : (p : Plan) → Writes p before (answer p) (after p) = λ p. record { answer = refl; bytes = refl } in
    let first = read-then-write reads-x rx (writes (plan_read r l₁ i₁ c₁)) (omega (arith, length-append x y)) in
    let second = read-then-write reads_y ry (writes (plan_read s k₁ j₁ d₁)) (omega (arith, length-append x y)) in
    sym first.1 ∙ ap (λ p. take (answer p).a (after p)) same ∙ second.1
