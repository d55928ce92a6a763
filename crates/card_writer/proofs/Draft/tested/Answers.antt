-- The proof of `Draft::tested`: behind the test of the codes' number the bytes that are tested are those of the card.
use mathlib.Core.Path.{◌≡◌, sym, ap, ◌∙◌}
use Prim.Native.Nat.{ℕ}
use Rattle.yard.specs.declared.Head.{Head}
use lib.Dec.{eqb}
use lib.ListN.{length}
use borrow.Author.Rules.{rules}
use borrow.Author.Tests.{eqb-true}
use Rattle.yard.specs.declared.Answer.{Answer}
use Rattle.yard.specs.Lent.{the_plan}
use Rattle.yard.specs.Night.{Plan}
use Rattle.yard.specs.Answers.{list_test, says}
use Rattle.yard.specs.Card.{card, card_length, head_of, writer_answer}
use Rattle.yard.proofs.calls.Tests.{list-passed}
use Rattle.yard.proofs.cards.Card.{card-length}
use Rattle.card_writer.proofs.Draft.tested.Goals as goal

long : {head : Head} {bytes : ℕ} (p : Plan) → head ≡ head_of p
    → says 0 0 0 ≡ list_test 3 (eqb (length p.codes) (length p.night.inbound))
    → bytes ≡ card_length head
    → bytes ≡ length (card p)
long p head coded bytes =
    let codes = (list-passed 3 (eqb (length p.codes) (length p.night.inbound))).0 (ap (λ (r : Answer). r.number) (sym coded)) in
    bytes ∙ ap card_length head ∙ sym (card-length p (eqb-true (length p.codes) (length p.night.inbound) codes))

pub returns-in_err-list-2 : goal.returns-in_err-list-2
unfolding writer_answer
returns-in_err-list-2 c =
    let all = long (the_plan c.args.self.now.plan) c.args.self.now.head_is c.in_ok-list.ensures c.length-bytes.ensures in
    let short = rw all at c.in_err-list-2.ensures in
    search rules

pub returns : goal.returns
unfolding writer_answer
returns c =
    let all = long (the_plan c.args.self.now.plan) c.args.self.now.head_is c.in_ok-list.ensures c.length-bytes.ensures in
    let fits = rw all at c.in_ok-list-2.ensures in
    rw all (search rules)
