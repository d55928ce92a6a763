-- The proof of `entry`: up to the table's end the fewest tracks are its entries.
use mathlib.Core.Path.{ap, ◌∙◌}
use Prim.Native.Nat.{ℕ}
use lib.ListN.{get_or}
use Rattle.codes.proofs.Gap.{told-fewest}
use Rattle.codes.proofs.TrackTable.entry.Goals as goal

pub returns : goal.returns
returns c =
    let table = c.args.self.now in
    c.from-2.ensures ∙
    (ap (λ (k : ℕ). get_or table.entries k 0) c.from.ensures ∙
    told-fewest table.entries table.by_rule c.args.code c.ranges.code.fits)
