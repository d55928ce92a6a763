-- The proof of `answer`: one piece behind another.
use Rattle.lines.specs.Lines.{refusal_line}
use Rattle.lines.proofs.Adding.{grows_then}
use Rattle.lines.proofs.answer.Goals as goal

pub returns : goal.returns
unfolding refusal_line
returns c =
    grows_then c.labelled.ensures (grows_then c.labelled-2.ensures (grows_then c.labelled-3.ensures c.bytes.ensures))
