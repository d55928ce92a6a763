-- The proof of `labelled`: the number stands behind its label.
use Rattle.lines.proofs.Adding.{grows_then}
use Rattle.lines.proofs.text.Text.labelled.Goals as goal

pub returns : goal.returns
returns c = grows_then c.bytes.ensures c.number.ensures
