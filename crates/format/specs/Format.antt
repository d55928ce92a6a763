-- Where the fields of a card stand, by the layout of its edition.
use Rattle.std.specs.Prelude.{ℕ, ◌+◌, ◌*◌, ◌≤◌, ◌≡◌}
use Rattle.yard.specs.declared.Layout.{Layout}
use Rattle.yard.specs.declared.Head.{Head}
use Rattle.yard.specs.Limits.{limits}
use Rattle.yard.specs.Night.{sum}
use Rattle.yard.specs.Card.{layout, head_widths}
use Rattle.format.specs.declared.Places.{Places}

-- widths that an eye and a pen can take at once
pub record Narrow (l : Layout) : Type 0 where
  pub mark : l.mark ≤ 16
  pub steps : l.steps ≤ 16
  pub tracks : l.tracks ≤ 16
  pub room : l.room ≤ 16
  pub cars : l.cars ≤ 16
  pub trains : l.trains ≤ 16
  pub number : l.number ≤ 16

-- the layout of an edition
pub record Laid (edition : ℕ) (l : Layout) : Type 0 where
  pub is : l ≡ layout edition
  pub narrow : Narrow l

-- steps, cars and trains within the limits
pub record Bounded (h : Head) : Type 0 where
  pub steps : h.steps ≤ limits.steps
  pub cars : h.cars ≤ limits.cars
  pub trains : h.trains ≤ limits.trains

-- the lists behind the head, one behind the other
abbrev pub places_of : Head → Places
places_of h =
    let w = (layout h.edition).number in
    let head = sum (head_widths (layout h.edition)) in
    record {
      lengths = head;
      inbound = head + h.trains * w;
      codes = head + h.trains * w + h.cars * w;
      end = head + h.trains * w + h.cars * w + h.cars * h.steps;
    }
