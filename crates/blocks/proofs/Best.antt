-- The cheapest numbers for a row of cars: each car has a number that its pair allows, none cost less, and of those that cost as much
-- none are smaller at the first car where they differ. Rows that no pair joins go together.
use mathlib.Core.Path.{◌≡◌, sym, ap, ◌∙◌}
use mathlib.Core.Logic.{⊎_elim}
use mathlib.Core.Bool.{Bool, true, false}
use mathlib.Core.List.{List}
use Prim.Native.Nat.{ℕ, suc, ◌+◌, ◌≤◌, ◌<◌}
use native.Mathlib.Nat.{le_refl, eq-or-lt_of_le}
use native.Mathlib.Omega.{arith}
use lib.ListN.{length, get_or}
use Rattle.yard.specs.Words.{tally, total, up_from}
use Rattle.yard.proofs.general.Bools.{clash}
use Rattle.yard.proofs.general.Numbers.{le-or-lt}
use Rattle.yard.proofs.yards.Counting.{total-split}
use Rattle.yard.proofs.general.Lists.{total-range}

-- what is asked of numbers by car: how many there are, what each costs, and which cars j, j + 1 are a pair, or a break
pub record Asked : Type 0 where
  pub numbers : ℕ
  pub cost : ℕ → ℕ
  pub joined : ℕ → Bool
  pub broken : ℕ → Bool

-- the same where a list tells what each number costs
abbrev pub asked_by : List ℕ → (ℕ → Bool) → (ℕ → Bool) → Asked
asked_by costs joined broken = record { numbers = length costs; cost = λ i. get_or costs i 0; joined = joined; broken = broken }

-- the n cars from a on have numbers that rise along their pairs, and at a break by one at least
pub record Fits (q : Asked) (a n : ℕ) (y : ℕ → ℕ) : Type 0 where
  pub below : (j : ℕ) → a ≤ j → j < a + n → y j < q.numbers
  pub follows : (j : ℕ) → a ≤ j → suc j < a + n → q.joined j ≡ true → y j + tally (q.broken j) ≤ y (suc j)

abbrev pub spent : Asked → ℕ → ℕ → (ℕ → ℕ) → ℕ
spent q a n y = total (λ j. q.cost (y j)) (up_from a n)

pub record Best (q : Asked) (a n : ℕ) (x : ℕ → ℕ) : Type 0 where
  pub fits : Fits q a n x
  pub least : (y : ℕ → ℕ) → Fits q a n y → spent q a n x ≤ spent q a n y
  pub smallest : (y : ℕ → ℕ) → Fits q a n y → spent q a n y ≡ spent q a n x
      → (k : ℕ) → a ≤ k → k < a + n → ((j : ℕ) → a ≤ j → j < k → y j ≡ x j) → x k ≤ y k

-- ---- rows

module _ (q : Asked) where
  pub best_none : (a : ℕ) (x : ℕ → ℕ) → Best q a 0 x
  best_none a x =
      record {
        fits = record { below = λ j l m. absurd (omega arith); follows = λ j l m e. absurd (omega arith) };
        least = λ y f. le_refl 0;
        smallest = λ y f same k l m agree. absurd (omega arith);
      }

  -- what is best by car is best by the same numbers said otherwise
  pub best-same : (a n : ℕ) (x z : ℕ → ℕ) → ((j : ℕ) → a ≤ j → j < a + n → x j ≡ z j) → Best q a n x → Best q a n z
  best-same a n x z same b =
      record {
        fits =
            record {
              below = λ j l m. omega (arith, same j l m, b.fits.below j l m);
              follows =
                  λ j l m e. omega (arith, same j l (omega arith), same (suc j) (omega arith) m, b.fits.follows j l m e);
            };
        least = λ y f. omega (arith, cost, b.least y f);
        smallest =
            λ y f e k l m agree.
            omega (arith, same k l m, b.smallest y f (omega (arith, e, cost)) k l m (λ j near low. agree j near low ∙ sym (same j near (omega arith))));
      }
    where
      cost : spent q a n x ≡ spent q a n z
      cost = total-range (λ j. q.cost (x j)) (λ j. q.cost (z j)) a n (λ j l m. ap q.cost (same j l m))

  -- two rows, one behind the other, that no pair joins
  module _ (a m n : ℕ) where
    fits-front : (y : ℕ → ℕ) → Fits q a (m + n) y → Fits q a m y
    fits-front y f =
        record { below = λ j l h. f.below j l (omega arith); follows = λ j l h e. f.follows j l (omega arith) e }

    fits-back : (y : ℕ → ℕ) → Fits q a (m + n) y → Fits q (a + m) n y
    fits-back y f =
        record { below = λ j l h. f.below j (omega arith) (omega arith); follows = λ j l h e. f.follows j (omega arith) (omega arith) e }

    split : (y : ℕ → ℕ) → spent q a (m + n) y ≡ spent q a m y + spent q (a + m) n y
    split y = total-split (λ j. q.cost (y j)) a m n

    pub best-join : (x : ℕ → ℕ) → ((j : ℕ) → a ≤ j → suc j ≡ a + m → q.joined j ≡ false) → Best q a m x → Best q (a + m) n x → Best q a (m + n) x
    best-join x apart b c = record { fits = record { below = below; follows = follows }; least = least; smallest = smallest }
      where
        below : (j : ℕ) → a ≤ j → j < a + (m + n) → x j < q.numbers
        below j l h = ⊎_elim (λ far. c.fits.below j far (omega arith)) (λ near. b.fits.below j l near) (le-or-lt (a + m) j)

        follows : (j : ℕ) → a ≤ j → suc j < a + (m + n) → q.joined j ≡ true → x j + tally (q.broken j) ≤ x (suc j)
        follows j l h e =
            ⊎_elim
            (λ far. c.fits.follows j far (omega arith) e)
            (λ near. ⊎_elim (λ last. clash e (apart j l last)) (λ more. b.fits.follows j l more e) (eq-or-lt_of_le near))
            (le-or-lt (a + m) j)

        least : (y : ℕ → ℕ) → Fits q a (m + n) y → spent q a (m + n) x ≤ spent q a (m + n) y
        least y f = omega (arith, split x, split y, b.least y (fits-front y f), c.least y (fits-back y f))

        smallest : (y : ℕ → ℕ) → Fits q a (m + n) y → spent q a (m + n) y ≡ spent q a (m + n) x
            → (k : ℕ) → a ≤ k → k < a + (m + n) → ((j : ℕ) → a ≤ j → j < k → y j ≡ x j) → x k ≤ y k
        smallest y f same k l h agree =
            let front = b.least y (fits-front y f) in
            let back = c.least y (fits-back y f) in
            ⊎_elim
            (λ far. c.smallest y (fits-back y f) (omega (arith, same, split x, split y, front, back)) k far (omega arith) (λ i g s. agree i (omega arith) s))
            (λ near. b.smallest y (fits-front y f) (omega (arith, same, split x, split y, front, back)) k l near agree)
            (le-or-lt (a + m) k)
