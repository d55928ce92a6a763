-- The choice that the table of picks leads to is the cheapest.
use mathlib.Core.Path.{◌≡◌, refl, ap, ◌∙◌}
use mathlib.Core.List.{List}
use Prim.Native.Nat.{ℕ, suc, ◌+◌, ◌-◌, ◌*◌, ◌<◌}
use native.Mathlib.Omega.{arith}
use lib.ListN.{length, get_or}
use Rattle.choice.specs.Choice.{picks_most, Cheapest, Choosable}
use Rattle.choice.specs.Rows.{first_least, priced, spare_of, Table, reached}
use Rattle.choice.proofs.Path.{Walk, asked-within, path-rising, path-least, path-smallest}
use Rattle.choice.proofs.Table.{table-room}

-- where in the row of a block the table leads to; a row has one place more than there are numbers to spare
abbrev pub place_in : List ℕ → List ℕ → List ℕ → ℕ → ℕ
place_in weights costs picks b = reached picks (spare_of weights costs + 1) b

module _ {weights costs picks : List ℕ} (ch : Choosable weights costs) (t : Table weights costs 0 picks) where
  walk : {x : ℕ → ℕ} → ((b : ℕ) → b < length weights → x b ≡ b + place_in weights costs picks (suc b)) →
      Walk (λ b. get_or weights b 0) (λ i. get_or costs i 0) (length costs) (length weights) (spare_of weights costs) (place_in weights costs picks) x
  walk number =
      let spare = spare_of weights costs in
      let asked = place_in weights costs picks in
      record {
        whole = omega (arith, ch.enough);
        start = refl;
        picked =
            λ k b e l.
            let same : length weights - suc b ≡ k = omega arith in
            t.pick b (asked b) (omega arith) (omega arith) l ∙
            ap (λ (n : ℕ). first_least (priced (λ a. get_or weights a 0) (λ i. get_or costs i 0) spare n b) (spare - asked b) (asked b)) same;
        number = number;
      }

  -- where the table leads to lies in the table
  pub place-within : (b : ℕ) → b < length weights → b * (spare_of weights costs + 1) + place_in weights costs picks b < picks_most
  place-within b l = omega (arith, table-room ch b l, asked-within (walk (λ a m. refl)) b (omega arith))

  pub chosen-cheapest : {x : ℕ → ℕ} → ((b : ℕ) → b < length weights → x b ≡ b + place_in weights costs picks (suc b)) → Cheapest weights costs x
  chosen-cheapest number =
      let p = walk number in
      record {
        rising = path-rising p;
        least = λ y r. path-least p r ch.some;
        smallest = λ y r same b l agree. path-smallest p r b l agree same;
      }
