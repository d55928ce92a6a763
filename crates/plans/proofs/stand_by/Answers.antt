-- The proof of `stand_by`: the order and the tracks are what the places are worked out from.
use borrow.Author.Rules.{rules}
use Rattle.yard.specs.Lent.{the_plan}
use Rattle.plans.proofs.Stages.{keyed, standable, placed}
use Rattle.plans.proofs.stand_by.Goals as goal

pub sort-requires : goal.sort-requires
sort-requires g c =
    let p = the_plan c.args.plan in
    (keyed p.night.lengths p.night.inbound p.codes p.night.tracks p.steps c.args.stage c.args.on.now c.args.at.now c.requires.0, search rules)

pub places-requires : goal.places-requires
places-requires g c =
    let p = the_plan c.args.plan in
    standable p.night.lengths p.night.inbound p.codes p.night.tracks p.steps c.args.stage c.args.on.now c.args.at.now c.requires.0 _ _
    c.sort.ensures c.tracks.ensures

pub returns : goal.returns
returns g c =
    let p = the_plan c.args.plan in
    placed p.night.lengths p.night.inbound p.codes p.night.tracks p.steps c.args.stage c.args.on.now c.args.at.now c.requires.0 _ _
    c.sort.ensures c.tracks.ensures c.places.ensures
