-- The proof of `none_with`: none of the items folded so far is the number, exactly if the flag says so.
use Rattle.std.proofs.Common.{rules, ◌≡◌, subst, not, eqb, refl}
use Rattle.std.proofs.lemmas.Fn.{fold_over, slice_gives, fronts}
use Rattle.yard.specs.Words.{every}
use Rattle.scan.proofs.Folds.{every-push}
use Rattle.scan.proofs.none_with.Goals as goal

pub returns : goal.returns
returns c =
    subst (λ l. c.fold.result ≡ every (λ x. not (eqb x c.args.number)) l) c.iter.ensures.rest
    (fold_over fronts (λ y. y.now) _ (λ ys none. none ≡ every (λ x. not (eqb x c.args.number)) ys) _
    (λ ys a x b f' j k. let more = every-push (λ x. not (eqb x c.args.number)) ys x.now in search rules)
    _ _ _ _ (slice_gives c.iter.result) refl c.fold.ensures.ran)
