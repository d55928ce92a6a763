-- The proof of `first_listing`: a number in range is found.
use mathlib.Core.Path.{◌≡◌, ◌∙◌, ap}
use mathlib.Core.Bool.{true, ◌&&◌}
use Prim.Native.Nat.{ℕ, ◌-◌}
use Rattle.std.proofs.Common.{rules}
use lib.Dec.{leb}
use lib.ListN.{length, get_or}
use Rattle.std.specs.Prelude.{unwrap_or, Option}
use Rattle.lists.proofs.Listing.{listed}
use Rattle.lists.proofs.first_listing.Goals as goal

pub returns : goal.returns
returns c =
    let inbound = c.args.inbound.now in
    let car = get_or inbound (c.args.place - 1) 0 in
    let inside : (leb 1 car && leb car (length inbound)) ≡ true = search rules in
    rw inside (ap (λ (r : Option ℕ). unwrap_or r 0) c.first_with.ensures ∙ listed inbound c.args.place c.requires.0 c.requires.1)
