-- The proof of `ends`: the spare bits are 0 exactly if their number is.
use mathlib.Core.Path.{◌≡◌, sym, ◌∙◌}
use Prim.Native.Nat.{ℕ}
use native.Mathlib.Omega.{arith}
use lib.ListN.{length}
use borrow.Author.Tests.{ne_eqb}
use Rattle.std.specs.Int.{div_ceil}
use Rattle.yard.specs.Bits.{whole_bytes}
use Rattle.bits.proofs.Places.{ends-here, ends-elsewhere}
use Rattle.bits.proofs.fields.ends.Goals as goal

whole : (at : ℕ) → div_ceil at 8 ≡ whole_bytes at
whole at = omega arith

pub returns-then-bytes-whole : goal.returns-then-bytes-whole
returns-then-bytes-whole c =
    let known = c.div_ceil-whole.ensures ∙ whole c.args.at in
    rw (c.take.ensures.number, c.new.ensures, known)
    (sym (ends-here c.args.bytes.now c.args.at (c.if-bytes-whole.true ∙ known)))

pub returns-else-bytes-whole : goal.returns-else-bytes-whole
returns-else-bytes-whole c =
    let known = c.div_ceil-whole.ensures ∙ whole c.args.at in
    let other = rw known at c.if-bytes-whole.false in
    let bytes = c.args.bytes.now in
    rw known (ne_eqb (length bytes) (whole_bytes c.args.at) other ∙ sym (ends-elsewhere bytes c.args.at other))
