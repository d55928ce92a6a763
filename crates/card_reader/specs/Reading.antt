-- The lists on a card with a given head, and the reader's tests in the parts in which it makes them.
use Rattle.std.specs.Prelude.{ℕ, ◌≡◌, List, [], ◌∷◌, eqb, take}
use Rattle.yard.specs.declared.Answer.{Answer}
use Rattle.yard.specs.declared.Head.{Head}
use Rattle.yard.specs.Night.{closed_by}
use Rattle.yard.specs.Answers.{says, test, answers}
use Rattle.yard.specs.Card.{layout, card_length, edition_for, head_asks, size_asks}
use Rattle.lists.specs.Tests.{list_tests}
use Rattle.bits.specs.Fields.{fields_at, ends_at}
use Rattle.format.specs.Format.{places_of}

abbrev pub lengths_on : List ℕ → Head → List ℕ
lengths_on bytes h = fields_at bytes (places_of h).lengths (layout h.edition).number h.trains

abbrev pub inbound_on : List ℕ → Head → List ℕ
inbound_on bytes h = fields_at bytes (places_of h).inbound (layout h.edition).number h.cars

abbrev pub codes_on : List ℕ → Head → List ℕ
codes_on bytes h = fields_at bytes (places_of h).codes h.steps h.cars

-- before the lists: 10 for an empty card, 11, 10 for less than a head, and 1
abbrev pub head_tests : ℕ → Head → List Answer
head_tests size h = answers (head_asks size h)

-- the sizes: 10 for a card shorter than the whole, and 4 for the three buffers
abbrev pub size_tests : ℕ → Head → ℕ → ℕ → ℕ → List Answer
size_tests size h lengths inbound codes = answers (size_asks size h lengths inbound codes)

-- 2 and 3 for the lists that the card has
abbrev pub night_tests_on : List ℕ → Head → List Answer
night_tests_on bytes h = list_tests (lengths_on bytes h) (inbound_on bytes h)

-- 12 for its end, and 17 for its edition
abbrev pub last_tests : List ℕ → Head → List Answer
last_tests bytes h =
    test (ends_at bytes (places_of h).end) (says 12 (card_length h) 0) ∷
    test (eqb (edition_for (closed_by h.mark) h.cars h.trains h.tracks h.room h.steps) h.edition) (says 17 0 0) ∷
    []

-- arrays that have these lists at their front
pub record Held (bytes : List ℕ) (h : Head) (trains order : List ℕ) : Type 0 where
  pub lengths : take h.trains trains ≡ lengths_on bytes h
  pub inbound : take h.cars order ≡ inbound_on bytes h
