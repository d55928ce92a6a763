-- The proof of `CardPen::close`: the whole bytes written so far are drawn bits, and fewer than eight bits stay pending.
use mathlib.Core.Path.{refl, sym, ◌∙◌}
use mathlib.Core.List.{[], ◌∷◌, append-nil}
use Prim.Native.Nat.{◌+◌, ◌-◌, ◌/◌, ◌%◌, ◌^◌}
use native.Mathlib.Numerals.{add-one}
use native.Mathlib.Omega.{arith}
use lib.ListN.{set, length-set}
use lib.Seq.{take-suc-set}
use Rattle.std.proofs.lemmas.List.{drop-set-lt}
use Rattle.bits.specs.Pens.{drawn}
use Rattle.bits.proofs.Drawing.{draws-none, draws-then, drawn-written, bits_of-one}
use Rattle.bits.proofs.pens.CardPen.close.Goals as goal

pub loop-self-init : goal.loop-self-init
loop-self-init c = record { drawn = draws-none c.put.new.self; reached = refl }

pub loop-self-preserved : goal.loop-self-preserved
unfolding drawn
loop-self-preserved c =
    let p = c.loop-self.self in
    let x = p.pen.pending / 2 ^ (p.pen.count - 8) in
    let after = set p.card.now p.pen.at (x % 256) in
    record {
      drawn = draws-then c.loop-self.invariant.drawn
          (record {
            bits = drawn-written p.card.now after (x % 256 ∷ []) p.pen.at p.pen.count p.pen.pending 1 (omega arith) (rw add-one (take-suc-set p.card.now p.pen.at (x % 256) (omega arith))) (bits_of-one x)
                ∙ sym (append-nil (drawn p));
            rest = drop-set-lt (p.pen.at + 1) p.card.now p.pen.at (x % 256) (omega arith);
            onward = omega arith;
            size = length-set p.card.now p.pen.at (x % 256);
            same_card = refl;
          });
      reached = omega (arith, c.loop-self.invariant.reached);
    }

pub returns-clause-drawn : goal.returns-clause-drawn
returns-clause-drawn c = draws-then c.put.ensures.drawn c.loop-self.invariant.drawn
