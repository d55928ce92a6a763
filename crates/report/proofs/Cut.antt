-- A long input cut: what a program puts out for its first bytes is what it would put out for the whole.
use Prim.Native.Nat.{ℕ, ◌≤◌}
use mathlib.Core.Path.{◌≡◌, sym, ap, ◌∙◌}
use mathlib.Core.Logic.{⊎_elim}
use mathlib.Core.List.{List, ◌++◌}
use native.Mathlib.Omega.{arith}
use lib.ListN.{length, take, drop, take-append-drop}
use lib.Seq.{length-take-le, take_all}
use Rattle.yard.specs.Limits.{limits}
use Rattle.yard.specs.Night.{Plan}
use Rattle.yard.specs.Card.{card_plan}
use Rattle.yard.proofs.general.Numbers.{le-or-lt}
use Rattle.yard.proofs.cards.CardCut.{reader-cut, long-refused}
use Rattle.lines.specs.Lines.{refusal_line}
use Rattle.report.specs.Programs.{read_as, of_card}
use Rattle.report.proofs.Programs.{told-refused}

-- What a program puts out for an input is what it puts out for its first bytes, of which it is given one more than any card has.
pub input-cut : (out : Plan → List ℕ) (k : ℕ) (input : List ℕ) → 15272 ≤ k → of_card out (take k input) ≡ of_card out input
input-cut out k input enough =
    ⊎_elim (λ all. ap (of_card out) (take_all k input all))
    (λ more.
    let given = take k input in
    let long : 15272 ≤ length given = omega (arith, length-take-le k input (omega arith)) in
    let whole : given ++ drop k input ≡ input = take-append-drop k input in
    let same : read_as input ≡ read_as given =
    ap read_as (sym whole) ∙ reader-cut limits.trains limits.cars limits.cars given (drop k input) long in
    told-refused (read_as given) (out (card_plan given)) (long-refused limits.trains limits.cars limits.cars given long)
    ∙ ap (λ v. refusal_line v.number v.a v.b) (sym same)
    ∙ sym (told-refused (read_as input) (out (card_plan input)) (long-refused limits.trains limits.cars limits.cars input (omega arith))))
    (le-or-lt (length input) k)
