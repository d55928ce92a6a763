-- The proof of `Eye::fill`: the buffer holds the fields passed and behind them its old items, and the eye is at the next field.
use mathlib.Core.Path.{◌≡◌}
use mathlib.Core.List.{◌++◌}
use Prim.Native.Nat.{◌+◌, ◌*◌}
use lib.ListN.{drop}
use Rattle.bits.specs.Fields.{fields_at}
use Rattle.bits.specs.Sights.{sight, sight_of}
use Rattle.bits.proofs.fields.Eye.fill.Given as goal

abbrev pub invariant-loop-item : goal.invariant-loop-item
invariant-loop-item l = let s = sight_of l.initial.self in record {
  stored : l.item-items ≡ fields_at s.bytes s.at l.width l.item-index ++ drop l.item-index l.initial.item-items;
  here : sight_of l.self ≡ sight s.bytes (s.at + l.item-index * l.width);
}
