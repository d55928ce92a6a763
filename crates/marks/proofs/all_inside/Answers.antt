-- The proof of `all_inside`: all numbers folded so far are cars, exactly if the flag says so.
use Rattle.std.proofs.Common.{rules, ◌≡◌, subst, refl}
use Rattle.std.proofs.lemmas.Fn.{fold_over, slice_gives, fronts}
use Rattle.yard.specs.Words.{every}
use Rattle.yard.specs.Answers.{in_range}
use Rattle.scan.proofs.Folds.{every-push}
use Rattle.marks.proofs.all_inside.Goals as goal

pub returns : goal.returns
returns c =
    let car = in_range c.args.inbound.now in
    subst (λ l. c.fold.result ≡ every car l) c.iter.ensures.rest
    (fold_over fronts (λ y. y.now) _ (λ ys all. all ≡ every car ys) _
    (λ ys a x b f' j k. let more = every-push car ys x.now in search rules)
    _ _ _ _ (slice_gives c.iter.result) refl c.fold.ensures.ran)
