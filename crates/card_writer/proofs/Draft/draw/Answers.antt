-- The proof of `Draft::draw`: head, lengths, inbound numbers and codes are drawn one behind the other, then seven zero bits.
use mathlib.Core.Path.{◌≡◌, sym, ap, ◌∙◌}
use mathlib.Core.List.{List}
use Prim.Native.Nat.{ℕ}
use borrow.Author.Rules.{rules}
use native.Mathlib.Omega.{arith}
use lib.ListN.{length}
use Rattle.std.specs.Borrow.{MutBor}
use Rattle.yard.specs.declared.Head.{Head}
use Rattle.yard.specs.Lent.{the_plan}
use Rattle.yard.specs.Card.{layout, edition_of}
use Rattle.bits.proofs.Drawing.{draws-then, draws-whole}
use Rattle.card_writer.proofs.Writing.{card_bits, card-bits, drawable-room, card_bits-size}
use Rattle.card_writer.proofs.Draft.draw.Goals as goal

size : {p q : MutBor (List ℕ)} → p ≡ q → length p.now ≡ length q.now
size = ap (λ (card : MutBor (List ℕ)). length card.now)

pub draw_head-requires : goal.draw_head-requires
draw_head-requires c =
    let room = drawable-room c.requires c.args.self.now.head_is c.layout_of-l.ensures.is in
    (c.layout_of-l.ensures.narrow, omega (arith, room, size c.new-pen.ensures.card_is))

pub puts-requires : goal.puts-requires
puts-requires c =
    let room = drawable-room c.requires c.args.self.now.head_is c.layout_of-l.ensures.is in
    (c.layout_of-l.ensures.narrow.number, omega (arith, room, size c.new-pen.ensures.card_is))

pub puts-requires-2 : goal.puts-requires-2
puts-requires-2 c =
    let room = drawable-room c.requires c.args.self.now.head_is c.layout_of-l.ensures.is in
    (c.layout_of-l.ensures.narrow.number, omega (arith, room, size c.new-pen.ensures.card_is))

pub puts-requires-3 : goal.puts-requires-3
puts-requires-3 c =
    let room = drawable-room c.requires c.args.self.now.head_is c.layout_of-l.ensures.is in
    (omega (arith, c.requires.bounded.steps, ap (λ (h : Head). h.steps) c.args.self.now.head_is), omega (arith, room, size c.new-pen.ensures.card_is))

pub close-requires : goal.close-requires
close-requires c =
    let room = drawable-room c.requires c.args.self.now.head_is c.layout_of-l.ensures.is in
    omega (arith, room, size c.new-pen.ensures.card_is)

pub returns : goal.returns
returns c =
    let plan = the_plan c.args.self.now.plan in
    let head_is = c.args.self.now.head_is in
    let l = c.layout_of-l.result in
    let laid : l ≡ layout (edition_of plan) = c.layout_of-l.ensures.is ∙ ap (λ (h : Head). layout h.edition) head_is in
    let room = drawable-room c.requires head_is c.layout_of-l.ensures.is in
    let bits = card_bits-size plan head_is c.layout_of-l.ensures.is in
    let head = rw (laid, head_is) at c.draw_head.ensures.drawn in
    let lengths = rw laid at c.puts.ensures.drawn in
    let inbound = rw laid at c.puts-2.ensures.drawn in
    let codes = rw head_is at c.puts-3.ensures.drawn in
    let all = draws-then (draws-then head (draws-then lengths (draws-then inbound codes))) c.close.ensures.drawn in
    let same = all.same_card ∙ ap (λ (card : MutBor (List ℕ)). card.ghost_name) c.new-pen.ensures.card_is in
    rw (card-bits plan c.requires.coded)
    (draws-whole (card_bits plan) _ c.new-pen.result c.close.new.self c.new-pen.ensures all (omega (arith, bits)) c.close.ensures.few (search (rules, sym same))
    (λ i. (c.type_inv.card i).fits) (omega (arith, bits, room)))
