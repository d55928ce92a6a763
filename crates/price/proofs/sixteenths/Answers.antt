-- `price::sixteenths` meets its contract: the sixteenths that it goes by are those of `ThereAndBack`.
use Rattle.std.proofs.Common.{sym, ◌∙◌}
use mathlib.Core.Bool.{false≢true}
use lib.Ieee.{of_bits, neg}
use denote.Floats.{passes}
use Rattle.std.specs.Prelude.{Some, None}
use Rattle.price.proofs.ThereAndBack.{scaled, between, between-cut, few-cut, seconds-number, scaled-number, timing-between, declined, accepted, unlike-bits}
use Rattle.price.proofs.sixteenths.Goals as goal
use Rattle.price.proofs.sixteenths.Goals.{else-scaled-via-then-scaled+else-scaled-2, else-scaled-via-else-scaled}

pub truncating_f64_to_u64-k-requires : goal.truncating_f64_to_u64-k-requires
unfolding of_bits neg
truncating_f64_to_u64-k-requires c =
    record {
      lower_bound = passes _ c.if-scaled.true;
      upper_bound = (between-cut (scaled c.args.x) (between c.args.x c.if-scaled.true c.if-scaled-2.true)).0;
    }

pub seconds-requires : goal.seconds-requires
unfolding of_bits neg
seconds-requires c = few-cut c.args.x c.truncating_f64_to_u64-k.ensures (between c.args.x c.if-scaled.true c.if-scaled-2.true)

pub float_to_bits-seconds : goal.float_to_bits-seconds
unfolding of_bits neg
float_to_bits-seconds c =
    let cut = c.truncating_f64_to_u64-k in
    seconds-number cut.result c.seconds.ensures (few-cut c.args.x cut.ensures (between c.args.x c.if-scaled.true c.if-scaled-2.true))

pub float_to_bits-x : goal.float_to_bits-x
unfolding of_bits neg
float_to_bits-x c = scaled-number c.args.x (between c.args.x c.if-scaled.true c.if-scaled-2.true)

pub returns-then-seconds-x : goal.returns-then-seconds-x
unfolding of_bits neg
returns-then-seconds-x c =
    let cut = c.truncating_f64_to_u64-k in
    accepted c.args.x (passes _ c.well_formed.0.1) Some None cut.result c.seconds.result cut.ensures c.seconds.ensures
    (between c.args.x c.if-scaled.true c.if-scaled-2.true) c.if-seconds-x.true

pub returns-else-seconds-x : goal.returns-else-seconds-x
unfolding of_bits
returns-else-seconds-x c =
    let cut = c.truncating_f64_to_u64-k in
    unlike-bits c.args.x (passes _ c.well_formed.0.1) Some None cut.result c.seconds.result cut.ensures c.seconds.ensures c.if-seconds-x.false

pub returns-else-scaled : goal.returns-else-scaled
unfolding of_bits neg
returns-else-scaled c =
    let fit = passes _ c.well_formed.0.1 in
    declined c.args.x fit Some None
    (λ t.
    let passed = timing-between c.args.x fit t in
    elim c.else-scaled.branch [
      | else-scaled-via-then-scaled+else-scaled-2 w ↦ false≢true (sym w.if-scaled-2.false ∙ passed.high)
      | else-scaled-via-else-scaled w ↦ false≢true (sym w.if-scaled.false ∙ passed.low)
    ])
