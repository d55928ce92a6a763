-- The card of a plan at the front of a buffer.
use Rattle.std.specs.Prelude.{ℕ, ◌≤◌, ◌≡◌, List, ◌++◌, length, drop}
use Rattle.yard.specs.Night.{Plan}
use Rattle.yard.specs.Card.{head_of, card}
use Rattle.format.specs.Format.{Bounded}

-- a buffer with the card of a plan at its front
abbrev pub card_over : Plan → List ℕ → List ℕ
card_over p before = card p ++ drop (length (card p)) before

-- a plan that can be drawn on a card of this size
pub record IsDrawable (p : Plan) (size : ℕ) : Type 0 where
  pub bounded : Bounded (head_of p)
  pub coded : length p.codes ≡ length p.night.inbound
  pub room : length (card p) ≤ size
