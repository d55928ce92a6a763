-- A pen writes bits on a card in order: whole bytes at once, with a few bits pending.
use Rattle.std.specs.Prelude.{ℕ, ◌+◌, ◌*◌, ◌≤◌, ◌<◌, ◌≡◌, List, ◌++◌, length, take, drop}
use Rattle.std.specs.Borrow.{MutBor}
use Rattle.yard.specs.Bits.{to_bits, bits_of}
use Rattle.bits.specs.declared.pens.CardPen.{CardPen}

-- a pen at the front of a card, that has drawn nothing
pub record IsFresh (card : MutBor (List ℕ)) (p : CardPen) : Type 0 where
  pub card_is : p.card ≡ card
  pub at : p.pen.at ≡ 0
  pub count : p.pen.count ≡ 0

-- the bits drawn so far: those of the bytes written, then the pending ones
abbrev pub drawn_on : List ℕ → ℕ → ℕ → ℕ → List ℕ
drawn_on bytes at count pending = bits_of (take at bytes) ++ to_bits count pending

unfoldable pub drawn : CardPen → List ℕ
drawn p = drawn_on p.card.now p.pen.at p.pen.count p.pen.pending

-- and how many they are
abbrev pub reach : CardPen → ℕ
reach p = p.pen.at * 8 + p.pen.count

-- a pen on a card with room for w bits more, or for their whole bytes at least
abbrev pub HasRoom : ℕ → CardPen → Type 0
HasRoom w p = reach p + w < length p.card.now * 8 + 8

-- the pen drew these bits behind those drawn before, and touched no byte but those it wrote
pub record Draws (more : List ℕ) (p q : CardPen) : Type 0 where
  pub bits : drawn q ≡ drawn p ++ more
  pub rest : drop q.pen.at q.card.now ≡ drop q.pen.at p.card.now
  pub onward : p.pen.at ≤ q.pen.at
  pub size : length q.card.now ≡ length p.card.now
  pub same_card : q.card.ghost_name ≡ p.card.ghost_name
