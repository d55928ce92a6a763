-- The proof of `replay`: each group of tests in its turn, then the yard at the stage.
use mathlib.Core.Path.{◌≡◌, refl, sym, subst, ap, ◌∙◌}
use mathlib.Core.List.{List}
use Prim.Native.Nat.{ℕ, ◌+◌}
use native.Mathlib.Omega.{arith}
use lib.ListN.{length}
use Rattle.std.specs.Prelude.{Result, Err}
use Rattle.std.proofs.Common.{rules}
use Rattle.yard.specs.declared.refusal.Refusal.{Refusal}
use Rattle.yard.specs.Answers.{says}
use Rattle.yard.specs.Calls.{Replays}
use Rattle.yard.specs.Lent.{the_plan}
use Rattle.yard.specs.Refusals.{count_told}
use Rattle.yard.proofs.calls.Told.{refused-not_done}
use Rattle.sorting.specs.Sums.{set_below}
use Rattle.plans.proofs.Chain.{counts-passed, sound-of}
use Rattle.plans.proofs.AtStage.{replay-counts, replay-stage, replay-given, replay-ready, replay-sound, replay-stood}
use Rattle.plans.proofs.replay.Goals as goal

pub returns-in_err-night_counts : goal.returns-in_err-night_counts
returns-in_err-night_counts c =
    let a = c.args in
    let e = c.in_err-night_counts.field-0.0 in
    let is : c.from_residual.result ≡ Err e = search rules in
    subst (λ (r : Result ℕ Refusal). Replays (the_plan a.plan) a.stage a.on.now a.at.now (count_told r) a.on.now a.at.now) (sym is)
    (replay-counts (the_plan a.plan) a.stage a.on.now a.at.now c.in_err-night_counts.ensures (refused-not_done e))

pub returns-in_err-in_range : goal.returns-in_err-in_range
returns-in_err-in_range c =
    let a = c.args in
    let e = c.in_err-in_range.field-0.0 in
    let is : c.from_residual-in_err-in_range.result ≡ Err e = search rules in
    subst (λ (r : Result ℕ Refusal). Replays (the_plan a.plan) a.stage a.on.now a.at.now (count_told r) a.on.now a.at.now) (sym is)
    (replay-stage (the_plan a.plan) a.stage a.on.now a.at.now c.in_ok-night_counts.ensures refl c.in_err-in_range.ensures (refused-not_done e))

pub placed-requires : goal.placed-requires
placed-requires c =
    let within = counts-passed (the_plan c.args.plan) c.in_ok-night_counts.ensures refl in
    (within.trains.1, within.cars.1)

pub returns-in_err-placed : goal.returns-in_err-placed
returns-in_err-placed c =
    let a = c.args in
    let e = c.in_err-placed.field-0.0 in
    let is : c.from_residual-in_err-placed.result ≡ Err e = search rules in
    subst (λ (r : Result ℕ Refusal). Replays (the_plan a.plan) a.stage a.on.now a.at.now (count_told r) a.on.now a.at.now) (sym is)
    (replay-given (the_plan a.plan) a.stage a.on.now a.at.now c.in_ok-night_counts.ensures refl c.in_ok-in_range.ensures refl c.in_err-placed.ensures (refused-not_done e))

pub of-pulls-requires : goal.of-pulls-requires
of-pulls-requires c =
    let a = c.args in
    let q = replay-ready (the_plan a.plan) a.stage a.on.now a.at.now c.in_ok-night_counts.ensures refl c.in_ok-in_range.ensures refl c.in_ok-placed.ensures refl in
    (q.steps, omega (arith, q.counted.each, q.counted.cars.1))

pub sound-requires : goal.sound-requires
sound-requires c =
    let a = c.args in
    (replay-ready (the_plan a.plan) a.stage a.on.now a.at.now c.in_ok-night_counts.ensures refl c.in_ok-in_range.ensures refl c.in_ok-placed.ensures refl).tracks.0

pub returns-in_err-sound : goal.returns-in_err-sound
returns-in_err-sound c =
    let a = c.args in
    let e = c.in_err-sound.field-0.0 in
    let is : c.from_residual-in_err-sound.result ≡ Err e = search rules in
    subst (λ (r : Result ℕ Refusal). Replays (the_plan a.plan) a.stage a.on.now a.at.now (count_told r) a.on.now a.at.now) (sym is)
    (replay-sound (the_plan a.plan) a.stage a.on.now a.at.now c.in_ok-night_counts.ensures refl c.in_ok-in_range.ensures refl c.in_ok-placed.ensures refl (sound-of (the_plan a.plan) (ap (λ b. b.now) c.of-pulls.ensures.codes) c.of-pulls.ensures.steps c.in_err-sound.ensures) (refused-not_done e))

pub stand-requires : goal.stand-requires
stand-requires c =
    let a = c.args in
    replay-ready (the_plan a.plan) a.stage a.on.now a.at.now c.in_ok-night_counts.ensures refl c.in_ok-in_range.ensures refl c.in_ok-placed.ensures refl

pub passes-requires : goal.passes-requires
passes-requires c =
    let a = c.args in
    let q = replay-ready (the_plan a.plan) a.stage a.on.now a.at.now c.in_ok-night_counts.ensures refl c.in_ok-in_range.ensures refl c.in_ok-placed.ensures refl in
    omega (arith, q.upto, q.steps)

pub returns : goal.returns
returns c =
    let a = c.args in
    replay-stood (the_plan a.plan) a.stage a.on.now a.at.now c.in_ok-night_counts.ensures refl c.in_ok-in_range.ensures refl c.in_ok-placed.ensures refl
    (sound-of (the_plan a.plan) (ap (λ b. b.now) c.of-pulls.ensures.codes) c.of-pulls.ensures.steps c.in_ok-sound.ensures) refl
    (ap (λ (n : ℕ). says 0 n 0) (c.passes.ensures ∙ ap (λ (l : List ℕ). length l + set_below a.stage l) (ap (λ b. b.now) c.of-pulls.ensures.codes)))
    c.stand.ensures
