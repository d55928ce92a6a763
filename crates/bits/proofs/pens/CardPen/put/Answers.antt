-- The proof of `CardPen::put`: the bits join the pending ones, and where these are 32 or more four bytes are written.
use mathlib.Core.Path.{◌≡◌, refl, ap, ◌∙◌}
use Prim.Native.Nat.{◌+◌, ◌-◌, ◌*◌, ◌/◌, ◌%◌, ◌^◌}
use native.Mathlib.Nat.{mod-lt}
use native.Mathlib.Omega.{arith}
use lib.Pow.{pow_pos}
use lib.ListN.{length}
use borrow.Rule.Slice.PartMut.{put_mid, same_len_mid}
use Rattle.std.specs.Int.{bytes_high_first}
use Rattle.yard.specs.Bits.{bits_of}
use Rattle.std.proofs.lemmas.Slice.{take-put_mid, drop-put_mid}
use Rattle.bits.specs.Pens.{drawn}
use Rattle.bits.proofs.Words.{joined-fits}
use Rattle.bits.proofs.Drawing.{drawn-joined, drawn-written, bits_of-four}
use Rattle.bits.proofs.pens.CardPen.put.Goals as goal

pub overflow_add-self : goal.overflow_add-self
overflow_add-self c =
    let args = c.args in
    let below = mod-lt args.x (pow_pos args.width) in
    rw c.power.ensures (record { fits = joined-fits args.width args.self.now.pen.pending (args.x % 2 ^ args.width) (omega arith) below })

pub returns-then-count-lt32-clause-drawn : goal.returns-then-count-lt32-clause-drawn
unfolding drawn
returns-then-count-lt32-clause-drawn c =
    let p = c.args.self.now in
    let w = c.args.width in
    rw c.power.ensures
    (record {
      bits = drawn-joined p.card.now p.pen.at p.pen.count p.pen.pending w c.args.x (omega arith);
      rest = refl;
      onward = omega arith;
      size = refl;
      same_card = refl;
    })

pub returns-else-count-lt32-clause-drawn : goal.returns-else-count-lt32-clause-drawn
unfolding drawn
returns-else-count-lt32-clause-drawn c =
    let p = c.args.self.now in
    let w = c.args.width in
    let count = p.pen.count + w in
    let left = count - 32 in
    let pending = p.pen.pending * 2 ^ w % 2 ^ 64 + c.args.x % 2 ^ w in
    let new = c.copy_from_slice.new.self in
    let four : new ≡ bytes_high_first 4 (pending / 2 ^ left % 2 ^ 32) = rw (c.to_be_bytes-four.ensures, c.power.ensures) at c.copy_from_slice.ensures.after in
    let long : length new ≡ 4 = ap length four in
    let k = p.pen.at + 4 - p.pen.at in
    rw c.power.ensures
    (record {
      bits =
          drawn-written p.card.now (put_mid p.pen.at k p.card.now new) new p.pen.at count pending 4 (omega arith)
          (take-put_mid p.pen.at k p.card.now new (p.pen.at + 4) (omega arith) (omega arith)) (ap bits_of four ∙ bits_of-four (pending / 2 ^ left))
          ∙ drawn-joined p.card.now p.pen.at p.pen.count p.pen.pending w c.args.x (omega arith);
      rest = drop-put_mid p.pen.at k p.card.now new (p.pen.at + 4) (omega arith) (omega arith) (omega arith);
      onward = omega arith;
      size = same_len_mid p.pen.at k p.card.now new c.copy_from_slice.ensures.len;
      same_card = refl;
    })
