-- What the two programs put out for a card.
use Rattle.std.specs.Prelude.{ℕ, ◌≡◌, cond, List, ◌++◌, leb, eqb, length, Result, Ok, Err}
use Rattle.yard.specs.declared.Answer.{Answer}
use Rattle.yard.specs.declared.Plan.{Plan as LentPlan}
use Rattle.yard.specs.declared.refusal.Refusal.{Refusal}
use Rattle.yard.specs.Answers.{says}
use Rattle.yard.specs.Refusals.{refused}
use Rattle.yard.specs.Lent.{the_plan}
use Rattle.yard.specs.Limits.{limits}
use Rattle.yard.specs.Night.{Night, Plan}
use Rattle.yard.specs.Replay.{built}
use Rattle.yard.specs.Derived.{derived_plan}
use Rattle.yard.specs.Calls.{check_answer, derive_answer}
use Rattle.yard.specs.Card.{card, card_plan, reader_verdict}
use Rattle.lines.specs.Text.{Adds}
use Rattle.lines.specs.Lines.{refusal_line, answer_line, counts_line, train_line, each_to}

-- the bytes of a program's buffers: no card and no text is longer
abbrev pub buffer_size : ℕ
buffer_size = 24576

-- what is put out where an answer is done, and its refusal line where it is not
abbrev pub unless_refused : Answer → List ℕ → List ℕ
unless_refused r out = cond (eqb r.number 0) out (refusal_line r.number r.a r.b)

-- the reader's verdict with the program's buffers, which hold any night; and what is put out for the plan of a card that it accepts
abbrev pub read_as : List ℕ → Answer
read_as bytes = reader_verdict bytes limits.trains limits.cars limits.cars

abbrev pub of_card : (Plan → List ℕ) → List ℕ → List ℕ
of_card out bytes =
    unless_refused (read_as bytes) (out (card_plan bytes))

-- each train of a plan as the replay built it, front first
unfoldable pub train_lines : Plan → List ℕ
train_lines p = each_to (λ t. train_line t (built p t)) (length p.night.lengths)

-- a plan checked: its counts with the passes that check answers, then its trains
unfoldable pub checked_lines : Plan → List ℕ
checked_lines p =
    let r = check_answer limits p in
    let n = p.night in
    let counts = counts_line p.steps n.tracks n.room (length n.inbound) (length n.lengths) r.a in
    unless_refused r (counts ++ train_lines p)

-- nightcard: the plan of the card, checked
unfoldable pub nightcard_text : List ℕ → List ℕ
nightcard_text bytes = of_card checked_lines bytes

-- derive's answer with the largest limit, 16, and what is put out for the plan that it derives
abbrev pub derive_as : Night → Answer
derive_as n = derive_answer limits n limits.steps limits.cars

unfoldable pub of_derived : (Plan → List ℕ) → Night → List ℕ
of_derived out n = unless_refused (derive_as n) (out (derived_plan n))

-- nightplan: the card of the plan that is derived for the card's night, whose mark it keeps
unfoldable pub nightplan_bytes : List ℕ → List ℕ
nightplan_bytes bytes = of_card (λ p. of_derived card p.night) bytes

-- the same into a buffer of this size: a card that it cannot hold is refused by 4, A 6
abbrev pub card_in : ℕ → Plan → List ℕ
card_in size p = cond (leb (length (card p)) size) (card p) (refusal_line 4 6 0)

unfoldable pub nightplan_in : ℕ → List ℕ → List ℕ
nightplan_in size bytes = of_card (λ p. of_derived (card_in size) p.night) bytes

-- a card is read: its plan is in hand, or the reader refuses it
abbrev pub ReadsPlan : List ℕ → Result LentPlan Refusal → Type 0
ReadsPlan bytes (Ok plan) = (read_as bytes ≡ says 0 0 0) × (the_plan plan ≡ card_plan bytes)
ReadsPlan bytes (Err e) = read_as bytes ≡ refused e

-- a text is put out, or is the line of a refusal, for which the buffer is as it was
abbrev pub PutsOut : List ℕ → List ℕ → Result ℕ Refusal → List ℕ → Type 0
PutsOut text before (Ok end) after = Adds text before 0 end after
PutsOut text before (Err e) after = (text ≡ answer_line (refused e)) × (after ≡ before)
