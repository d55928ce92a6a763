-- The proof of `ruled`: one comparison or the other.
use mathlib.Core.Path.{sym, ap}
use mathlib.Core.Bool.{Bool}
use Rattle.yard.specs.Answers.{ruled}
use Rattle.pairs.proofs.ruled.Goals as goal

pub returns-then-broken : goal.returns-then-broken
returns-then-broken c = sym (ap (λ (b : Bool). ruled c.args.low c.args.high b) c.if-broken.true)

pub returns-else-broken : goal.returns-else-broken
returns-else-broken c = sym (ap (λ (b : Bool). ruled c.args.low c.args.high b) c.if-broken.false)
