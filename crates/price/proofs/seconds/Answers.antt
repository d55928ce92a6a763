-- `price::seconds` meets its contract: one sixteenth of a whole number below 2^53 is rounded nowhere.
use lib.Ieee.{of_bits}
use Rattle.std.proofs.Common.{ap, ◌∙◌}
use Rattle.yard.proofs.prices.Price.{one-sixteenth, sixteenth}
use lib.Ieee.{Float, mul, binary64}
use Rattle.price.proofs.seconds.Goals as goal

pub returns : goal.returns
unfolding of_bits
returns c = ap (λ (x : Float). mul binary64 x sixteenth) c.nearest_u64_to_f64.ensures ∙ one-sixteenth c.args.k c.requires
