-- The proof of `look_up`: the numbers passed have become items.
use mathlib.Core.List.{map}
use mathlib.Core.Path.{◌≡◌}
use lib.ListN.{length, get_or, take}
use Rattle.scan.specs.Front.{Front}
use Rattle.derive.proofs.look_up.Given as goal

abbrev pub invariant-loop-number : goal.invariant-loop-number
invariant-loop-number l =
    (length l.numbers ≡ length l.fn.numbers) × Front (map (λ q. get_or l.items q 0) (take l.number-index l.fn.numbers)) l.fn.numbers l.number-index l.numbers
