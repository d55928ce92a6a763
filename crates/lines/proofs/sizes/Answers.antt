-- The proof of `sizes`: one piece behind another.
use Rattle.lines.specs.Lines.{counts_line}
use Rattle.lines.proofs.Adding.{grows_then}
use Rattle.lines.proofs.sizes.Goals as goal

pub returns : goal.returns
unfolding counts_line
returns c =
    grows_then c.labelled.ensures
    (grows_then c.labelled-2.ensures
    (grows_then c.labelled-3.ensures
    (grows_then c.labelled-4.ensures (grows_then c.labelled-5.ensures (grows_then c.labelled-6.ensures c.bytes.ensures)))))
