-- The proof of `number`: the fewest digits are the numeral.
use mathlib.Core.Path.{◌∙◌}
use Rattle.lines.proofs.Adding.{grows_same}
use Rattle.lines.proofs.Numerals.{digits-numeral}
use Rattle.lines.proofs.text.Text.number.Goals as goal

pub returns : goal.returns
returns c =
    grows_same
    (c.decimal-k.ensures.digits ∙ digits-numeral c.args.count c.decimal-k.result c.ranges.count.fits c.decimal-k.ensures.len)
    c.bytes.ensures
