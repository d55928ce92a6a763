-- The proof of `train`: the weights are those of the train's blocks, and each car gets the number of its block.
use Rattle.blocks.proofs.Weights.{lent-weighable, weights-part, weights-lent, chosen-train}
use Rattle.blocks.proofs.train.Goals as goal

pub weigh-requires : goal.weigh-requires
weigh-requires c = lent-weighable c.args.numbers.now c.args.costs.now c.requires.0 c.requires.2 c.from-blocks.ensures

pub choose-requires : goal.choose-requires
choose-requires c =
    let numbers = c.args.numbers.now in
    let costs = c.args.costs.now in
    let pre = c.requires in
    let is = c.from-blocks.ensures in
    let weights = weights-lent numbers costs pre.0 pre.2 is
    (weights-part numbers costs pre.0 pre.2 is _ _ c.weigh.auto.weights c.weigh.ensures) in
    (weights.0, pre.1, weights.1)

pub returns : goal.returns
returns c =
    let numbers = c.args.numbers.now in
    let costs = c.args.costs.now in
    let pre = c.requires in
    let is = c.from-blocks.ensures in
    chosen-train numbers costs pre.0 pre.2 is _
    (weights-part numbers costs pre.0 pre.2 is _ _ c.weigh.auto.weights c.weigh.ensures) c.choose.ensures c.look_up.ensures
