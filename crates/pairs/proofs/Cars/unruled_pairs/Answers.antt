-- The proof of `unruled_pairs`: the pairs counted are those of the cars passed.
use mathlib.Core.Path.{◌≡◌, sym, ap, ◌∙◌}
use Prim.Native.Nat.{ℕ, ◌+◌}
use native.Mathlib.Nat.{sub_self}
use native.Mathlib.Omega.{arith}
use Rattle.yard.specs.Words.{tally, total, up_from}
use Rattle.pairs.specs.Pairs.{unruled_by}
use Rattle.scan.proofs.Running.{tally-most, byte-tally}
use Rattle.pairs.proofs.Pairs.{count_next}
use Rattle.pairs.proofs.Cars.unruled_pairs.Goals as goal

pub loop-j-init : goal.loop-j-init
loop-j-init c =
    let f : ℕ → ℕ = λ j. tally (unruled_by c.args.self.places.now c.args.self.codes.now j) in
    (omega arith, sym (ap (λ (n : ℕ). total f (up_from (c.args.train.now.start + 1) n)) (sub_self (c.args.train.now.start + 1))))

pub overflow_add-pairs : goal.overflow_add-pairs
overflow_add-pairs c = omega (arith, c.from-pairs.ensures, byte-tally c.unruled.result, tally-most c.unruled.result, c.args.self.few)

pub loop-j-preserved : goal.loop-j-preserved
loop-j-preserved c =
    let cars = c.args.self in
    let told = c.from-pairs.ensures ∙ (byte-tally c.unruled.result ∙ ap tally c.unruled.ensures) in
    let next = count_next (λ j. tally (unruled_by cars.places.now cars.codes.now j)) (c.args.train.now.start + 1) c.loop-j.j c.loop-j.auto.j in
    (omega (arith, told, tally-most (unruled_by cars.places.now cars.codes.now c.loop-j.j)), omega (arith, next, told))

pub returns : goal.returns
returns c =
    let cars = c.args.self in
    let end : c.loop-j.j ≡ c.args.train.now.end = omega arith in
    rw end at c.loop-j.invariant.1
