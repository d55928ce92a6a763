-- The proof of `bad`: a number that is out of range is bad, and any other if its car is marked.
use Rattle.marks.proofs.Marks.{looked, looked-out}
use Rattle.marks.proofs.bad.Goals as goal

pub returns-then-outside : goal.returns-then-outside
returns-then-outside g c =
    let given = c.requires in
    looked-out _ _ _ given.sought given.within (given.tells _ _ given.within c.outside.ensures) c.if-outside.true

pub returns-else-outside : goal.returns-else-outside
returns-else-outside g c =
    let given = c.requires in
    let marking = c.mark.ensures in
    looked _ _ _ given.sought given.within (given.tells _ _ given.within c.outside.ensures) c.if-outside.false c.from.ensures marking.0 marking.1
