-- How long the lines are.
use Prim.Native.Nat.{ℕ, zero, suc, ◌+◌, ◌*◌, ◌/◌, ◌%◌, ◌^◌, ◌≤◌, ◌<◌}
use Prim.Native.String.{String}
use mathlib.Core.Path.{◌≡◌, refl, ap, ◌∙◌}
use mathlib.Core.Logic.{⊎_elim}
use mathlib.Core.List.{List, [], ◌∷◌, ◌++◌}
use native.Mathlib.Numerals.{add-one}
use native.Mathlib.Omega.{arith}
use lib.Dec.{ltb}
use lib.ListN.{length, length-append}
use borrow.Author.Tests.{lt-ltb}
use Rattle.io.specs.Digits.{hex_digit_ascii, last_digits}
use Rattle.yard.specs.Words.{up_from}
use Rattle.yard.proofs.general.First.{first-le, first-least}
use Rattle.lines.specs.Text.{ascii, width, numeral, labelled}
use Rattle.lines.specs.Lines.{refusal_line, counts_line, car_list, train_line}

-- numbers: none has more than 21 digits here, and one below 10^k no more than k
digits-length : (b k n : ℕ) → length (last_digits b k n) ≡ k
digits-length b zero n = refl
digits-length b (suc k) n = length-append (last_digits b k (n / b)) (hex_digit_ascii (n % b) ∷ []) ∙ ap (λ j. j + 1) (digits-length b k (n / b)) ∙ add-one k

numeral-length : (n : ℕ) → length (numeral n) ≡ width n
unfolding numeral
numeral-length n = digits-length 10 (width n) n

width-most : (n : ℕ) → width n ≤ 21
width-most n = first-le (λ k. ltb n (10 ^ k)) 20 1

width-below : (n k : ℕ) → 1 ≤ k → k ≤ 20 → n < 10 ^ k → width n ≤ k
width-below n k low high w = ⊎_elim (λ l. l) (λ l. absurd (omega (arith, high, l))) (first-least (λ j. ltb n (10 ^ j)) 20 1 k low (lt-ltb n (10 ^ k) w))

labelled-length : (label : String) (n : ℕ) → length (labelled label n) ≡ length (ascii label) + width n
labelled-length label n = length-append (ascii label) (numeral n) ∙ ap (λ k. length (ascii label) + k) (numeral-length n)

labelled-then : (label : String) (n : ℕ) (rest : List ℕ) → length (labelled label n ++ rest) ≡ length (ascii label) + width n + length rest
labelled-then label n rest = length-append (labelled label n) rest ∙ ap (λ k. k + length rest) (labelled-length label n)

-- the lines
pub refusal-short : (number a b : ℕ) → length (refusal_line number a b) ≤ 74
unfolding refusal_line
refusal-short number a b =
    let last = labelled-then " " b (ascii "\n") in
    let next = labelled-then " " a (labelled " " b ++ ascii "\n") in
    omega (arith, labelled-then "refused " number (labelled " " a ++ (labelled " " b ++ ascii "\n")), next, last, width-most number, width-most a, width-most b)

pub counts-short : (h W C n m passes : ℕ) → length (counts_line h W C n m passes) ≤ 169
unfolding counts_line
counts-short h W C n m passes =
    let l₆ = labelled " passes " passes ++ ascii "\n" in
    let l₅ = labelled " trains " m ++ l₆ in
    let l₄ = labelled " cars " n ++ l₅ in
    let l₃ = labelled " room " C ++ l₄ in
    let l₂ = labelled " tracks " W ++ l₃ in
    let first_three : length (labelled "steps " h ++ l₂) ≤ 83 + length l₄ =
    omega (arith, labelled-then "steps " h l₂, labelled-then " tracks " W l₃, labelled-then " room " C l₄, width-most h, width-most W, width-most C) in
    omega (
      arith,
      first_three,
      labelled-then " cars " n l₅,
      labelled-then " trains " m l₆,
      labelled-then " passes " passes (ascii "\n"),
      width-most n,
      width-most m,
      width-most passes,
    )

cars-short : (a n : ℕ) → a + n ≤ 10000 → length (car_list (up_from a n)) ≤ 5 * n
cars-short a zero w = omega arith
cars-short a (suc n) w =
    omega
    (arith, labelled-then " " a (car_list (up_from (suc a) n)), width-below a 4 (omega arith) (omega arith) (omega arith), cars-short (suc a) n (omega arith))

pub train-short : (t a n : ℕ) → t < 1000 → a + n ≤ 10000 → length (train_line t (up_from a n)) ≤ 11 + 5 * n
unfolding train_line
train-short t a n few w =
    let cars = car_list (up_from a n) in
    let last : length (cars ++ ascii "\n") ≡ length cars + 1 = length-append cars (ascii "\n") in
    omega (arith, labelled-then "train " t (ascii ":" ++ (cars ++ ascii "\n")), last, cars-short a n w, width-below t 3 (omega arith) (omega arith) few)
