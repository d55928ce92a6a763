-- Laws of the format in numbers: the widths are narrow, and the places add up to them.
use Prim.Native.Nat.{ℕ, ◌^◌, ◌≤◌}
use mathlib.Core.Path.{◌≡◌, sym, subst}
use native.Mathlib.Nat.{mul-le-mul}
use native.Mathlib.Omega.{arith}
use Rattle.yard.specs.declared.Layout.{Layout}
use Rattle.yard.specs.declared.Head.{Head}
use Rattle.yard.specs.Night.{sum}
use Rattle.yard.specs.Card.{layout, limits_of, widths}
use Rattle.yard.specs.Limits.{limits}
use Rattle.yard.proofs.cards.Card.{widths-sum}
use Rattle.yard.proofs.cards.Editions.{any-edition, edition-larger}
use Rattle.yard.specs.Card.{HeadWithin}
use Rattle.format.specs.Format.{Narrow, Laid, Bounded, places_of}

pub layout-narrow : (edition : ℕ) → Narrow (layout edition)
unfolding layout
layout-narrow =
    any-edition (λ l _. Narrow l)
    (record {
      mark = omega arith;
      steps = omega arith;
      tracks = omega arith;
      room = omega arith;
      cars = omega arith;
      trains = omega arith;
      number = omega arith;
    })
    (record {
      mark = omega arith;
      steps = omega arith;
      tracks = omega arith;
      room = omega arith;
      cars = omega arith;
      trains = omega arith;
      number = omega arith;
    })

-- A layout that is an edition's.
pub layout-laid : (edition : ℕ) {l : Layout} → l ≡ layout edition → Laid edition l
layout-laid edition e = record { is = e; narrow = subst Narrow (sym e) (layout-narrow edition) }

-- The last field of a card ends where the widths of all its fields end.
pub end_is : (h : Head) → (places_of h).end ≡ sum (widths h)
end_is h = omega (arith, widths-sum h)

-- A card within the limits has few bits.
pub end-bounded : {h : Head} → Bounded h → (places_of h).end ≤ 2 ^ 18
end-bounded {h} b =
    let l = layout-narrow h.edition in
    omega (arith, mul-le-mul b.trains l.number, mul-le-mul b.cars l.number, mul-le-mul b.cars b.steps)

-- Counts that pass the tests are within the limits.
pub within-bounded : {h : Head} → HeadWithin limits h → Bounded h
within-bounded w = record { steps = w.steps.1; cars = w.cars.1; trains = w.trains.1 }

pub edition-bounded : {h : Head} → HeadWithin (limits_of h.edition) h → Bounded h
edition-bounded {h} w = within-bounded {h = h} (edition-larger h.edition w)
