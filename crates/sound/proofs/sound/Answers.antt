-- The proof of `sound`: codes that pass the first test are below the power.
use mathlib.Core.Path.{sym, ap}
use Rattle.yard.specs.declared.Answer.{Answer}
use Rattle.yard.proofs.calls.Rights.{codes-passed}
use Rattle.sound.proofs.sound.Goals as goal

pub kept-requires : goal.kept-requires
kept-requires c =
    let pulls = c.args.pulls in
    (c.requires, (codes-passed pulls.steps pulls.codes.now).0 (sym (ap (λ (v : Answer). v.number) c.in_ok-codes.ensures)))
