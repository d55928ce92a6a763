-- The proof of `bytes`: as much of the piece as fits stands behind the text.
use mathlib.Core.Path.{refl}
use native.Mathlib.Omega.{arith}
use Rattle.lines.proofs.Adding.{adds-some}
use Rattle.lines.proofs.text.Text.bytes.Goals as goal

pub returns : goal.returns
returns c =
    let text = c.args.self.now in
    record {
      lender = refl;
      adds = rw c.copy_from_slice.ensures.after (adds-some c.args.piece.now text.buffer.now text.end c.min-n.result text.within (omega (arith, c.min-n.ensures)));
    }
