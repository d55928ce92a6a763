-- The proof of `kept`: nothing to find where no code needs more tracks.
use mathlib.Core.Path.{sym}
use Rattle.scan.proofs.Found.{none_found}
use Rattle.sound.proofs.Usable.{code_below, never-waits}
use Rattle.sound.proofs.kept.Goals as goal

pub first_wider-requires : goal.first_wider-requires
first_wider-requires c =
    let pulls = c.args.pulls in
    code_below c.args.tracks pulls.steps pulls.codes.now c.requires.0 pulls.stages c.requires.1

pub returns-in-None : goal.returns-in-None
returns-in-None c =
    let pulls = c.args.pulls in
    sym (never-waits c.args.tracks pulls.steps pulls.codes.now c.requires.0 pulls.stages c.requires.1 (none_found c.in-None.ensures))
