-- Laws of the lines: one car more, and one train more.
use Prim.Native.Nat.{ℕ, zero, suc, ◌+◌, ◌-◌, ◌≤◌, ◌<◌}
use mathlib.Core.Path.{◌≡◌, sym, ap, ap₂, ◌∙◌}
use mathlib.Core.List.{List, [], ◌∷◌, ◌++◌, append_assoc, append-nil}
use native.Mathlib.Nat.{add-zero, add-suc, suc-add}
use native.Mathlib.Numerals.{add-one}
use native.Mathlib.Omega.{arith}
use lib.ListN.{length, get_or, take}
use lib.Seq.{take-suc}
use Rattle.yard.specs.Words.{up_from}
use Rattle.yard.specs.Night.{sum, cars_of}
use Rattle.yard.proofs.general.Lists.{total-append}
use Rattle.yard.proofs.yards.Trains.{item_of-suc, first_car-suc}
use Rattle.lines.specs.declared.text.Text.{Text}
use Rattle.lines.specs.Text.{labelled, Grows}
use Rattle.lines.specs.Lines.{car_list, train_line, each_to}
use Rattle.lines.proofs.Adding.{grows_then, grows_same}

car_list-next : (first n : ℕ) → car_list (up_from first n) ++ labelled " " (first + n) ≡ car_list (up_from first (suc n))
car_list-next first zero = ap (labelled " ") (add-zero first) ∙ sym (append-nil (labelled " " first))
car_list-next first (suc n) =
    append_assoc (labelled " " first) (car_list (up_from (suc first) n)) (labelled " " (first + suc n))
    ∙ ap (λ l. labelled " " first ++ l)
    (ap (λ k. car_list (up_from (suc first) n) ++ labelled " " k) (add-suc first n ∙ sym (suc-add first n)) ∙ car_list-next (suc first) n)

pub grows-car : {x y z : Text} (first car : ℕ)
    → first ≤ car
    → Grows (car_list (up_from first (car - first))) x y
    → Grows (labelled " " car) y z
    → Grows (car_list (up_from first (car + 1 - first))) x z
grows-car first car low f g =
    let n = car - first in
    let there : car ≡ first + n = omega arith in
    let next : suc n ≡ car + 1 - first = omega arith in
    grows_same
    (ap (λ k. car_list (up_from first n) ++ labelled " " k) there ∙ car_list-next first n ∙ ap (λ k. car_list (up_from first k)) next)
    (grows_then f g)

-- the first car of the next train
pub next-first : (lengths : List ℕ) (i : ℕ) → i < length lengths → suc (sum (take i lengths)) + get_or lengths i 0 ≡ suc (sum (take (i + 1) lengths))
next-first lengths i w =
    let item = get_or lengths i 0 in
    omega (arith, ap (λ k. sum (take k lengths)) (add-one i), ap sum (take-suc lengths i 0 w), total-append (λ x. x) (take i lengths) (item ∷ []))

pub grows-train : {x y z : Text} (lengths : List ℕ) (i first count : ℕ)
    → first ≡ suc (sum (take i lengths))
    → count ≡ get_or lengths i 0
    → Grows (each_to (λ t. train_line t (cars_of lengths t)) i) x y
    → Grows (train_line (i + 1) (up_from first count)) y z
    → Grows (each_to (λ t. train_line t (cars_of lengths t)) (i + 1)) x z
grows-train lengths i first count e f before line =
    let each = each_to (λ t. train_line t (cars_of lengths t)) in
    let cars : up_from first count ≡ cars_of lengths (suc i) = ap₂ up_from (e ∙ sym (first_car-suc lengths i)) (f ∙ sym (item_of-suc lengths i)) in
    grows_same
    (ap (λ k. each i ++ train_line k (up_from first count)) (add-one i)
    ∙ ap (λ l. each i ++ train_line (suc i) l) cars
    ∙ ap each (sym (add-one i)))
    (grows_then before line)
