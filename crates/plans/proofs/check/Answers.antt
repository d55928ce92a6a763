-- The proof of `check`: each group of tests in its turn.
use mathlib.Core.Path.{◌≡◌, refl, sym, ap, subst}
use native.Mathlib.Omega.{arith}
use Rattle.std.specs.Prelude.{Result, Err}
use Rattle.std.proofs.Common.{rules}
use Rattle.yard.specs.declared.refusal.Refusal.{Refusal}
use Rattle.yard.specs.declared.told.Checked.{Checked}
use Rattle.yard.specs.Calls.{Checks}
use Rattle.yard.specs.Lent.{the_plan}
use Rattle.yard.specs.Refusals.{check_told}
use Rattle.yard.proofs.calls.Told.{refused-not_done}
use Rattle.plans.proofs.Chain.{counts-passed, given-passed, counted, sound-of, check-counts, check-given, check_sound, check-ordered}
use Rattle.plans.proofs.check.Goals as goal

pub returns-in_err-night_counts : goal.returns-in_err-night_counts
returns-in_err-night_counts c =
    let e = c.in_err-night_counts.field-0.0 in
    let is : c.from_residual.result ≡ Err e = search rules in
    subst (λ (r : Result Checked Refusal). Checks (the_plan c.args.plan) (check_told r)) (sym is)
    (check-counts (the_plan c.args.plan) c.in_err-night_counts.ensures (refused-not_done e))

pub given-requires : goal.given-requires
given-requires c =
    let within = counts-passed (the_plan c.args.plan) c.in_ok-night_counts.ensures refl in
    (within.trains.1, within.cars.1)

pub returns-in_err-given : goal.returns-in_err-given
returns-in_err-given c =
    let e = c.in_err-given.field-0.0 in
    let is : c.from_residual-in_err-given.result ≡ Err e = search rules in
    subst (λ (r : Result Checked Refusal). Checks (the_plan c.args.plan) (check_told r)) (sym is)
    (check-given (the_plan c.args.plan) c.in_ok-night_counts.ensures refl c.in_err-given.ensures (refused-not_done e))

pub of-pulls-requires : goal.of-pulls-requires
of-pulls-requires c =
    let within = counts-passed (the_plan c.args.plan) c.in_ok-night_counts.ensures refl in
    let listed = given-passed (the_plan c.args.plan) c.in_ok-given.ensures refl in
    (within.steps.1, omega (arith, within.cars.1, listed.1))

pub sound-requires : goal.sound-requires
sound-requires c = (counts-passed (the_plan c.args.plan) c.in_ok-night_counts.ensures refl).tracks.0

pub returns-in_err-sound : goal.returns-in_err-sound
returns-in_err-sound c =
    let e = c.in_err-sound.field-0.0 in
    let is : c.from_residual-in_err-sound.result ≡ Err e = search rules in
    subst (λ (r : Result Checked Refusal). Checks (the_plan c.args.plan) (check_told r)) (sym is)
    (check_sound (the_plan c.args.plan) c.in_ok-night_counts.ensures refl c.in_ok-given.ensures refl (sound-of (the_plan c.args.plan) (ap (λ b. b.now) c.of-pulls.ensures.codes) c.of-pulls.ensures.steps c.in_err-sound.ensures) (refused-not_done e))

pub invariant_of-ordered : goal.invariant_of-ordered
invariant_of-ordered c =
    let plan = the_plan c.args.plan in
    let listed = given-passed plan c.in_ok-given.ensures refl in
    record { counted = counted plan (counts-passed plan c.in_ok-night_counts.ensures refl) listed.1; listed = listed.0 }

pub returns : goal.returns
returns c =
    check-ordered (the_plan c.args.plan) c.in_ok-night_counts.ensures refl c.in_ok-given.ensures refl
    (sound-of (the_plan c.args.plan) (ap (λ b. b.now) c.of-pulls.ensures.codes) c.of-pulls.ensures.steps c.in_ok-sound.ensures) refl c.ordered.ensures
