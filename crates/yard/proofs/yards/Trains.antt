-- Laws of trains and breaks: which cars a train has, and how the breaks before a car grow along its train.
use mathlib.Core.Path.{◌≡◌, refl, sym, ap, ◌∙◌}
use mathlib.Core.Logic.{⊎_elim}
use mathlib.Core.Bool.{Bool, true, false, cond}
use mathlib.Core.List.{List, [], ◌∷◌}
use Prim.Native.Nat.{ℕ, zero, suc, ◌+◌, ◌-◌, max, ◌≤◌, ◌<◌}
use native.Mathlib.Omega.{arith}
use lib.Dec.{eqb}
use lib.ListN.{length, get_or, take}
use borrow.Author.Tests.{le-leb, lt-leb, eqb-true}
use Rattle.yard.specs.Words.{tally, most, count}
use Rattle.yard.specs.Night.{sum, item_of, train_of, first_car, broken, breaks, breaks_before}
use Rattle.yard.proofs.general.Numbers.{le-or-lt}
use Rattle.yard.proofs.general.Lists.{count_head, count-tail}
use Rattle.yard.proofs.yards.Codes.{total-last}
use Rattle.yard.proofs.yards.Counting.{length-passing}

-- the item of a list by car, or by train
pub item_of-suc : (l : List ℕ) (i : ℕ) → item_of l (suc i) ≡ get_or l i 0
item_of-suc l i = ap (λ (k : ℕ). get_or l k 0) (less i)
  where
    less : (i : ℕ) → suc i - 1 ≡ i
    less i = omega arith

pub first_car-suc : (l : List ℕ) (i : ℕ) → first_car l (suc i) ≡ suc (sum (take i l))
first_car-suc l i = ap (λ (k : ℕ). suc (sum (take k l))) (less i)
  where
    less : (i : ℕ) → suc i - 1 ≡ i
    less i = omega arith

-- a car behind the first i trains and within the next is a car of train i + 1
pub train-of : (l : List ℕ) (i c : ℕ) → i < length l → sum (take i l) < c → c ≤ sum (take i l) + get_or l i 0 → train_of l c ≡ suc i
train-of [] i c m a b = absurd (omega arith)
train-of (n ∷ l) zero c m a b = ap (λ (t : Bool). cond t 1 (suc (train_of l (c - n)))) (le-leb c n (omega arith))
train-of (n ∷ l) (suc i) c m a b =
    ap (λ (t : Bool). cond t 1 (suc (train_of l (c - n)))) (lt-leb c n (omega arith)) ∙
    ap suc (train-of l i (c - n) (omega arith) (omega arith) (omega arith))

-- and each car is a car of one train
pub train-in : (l : List ℕ) (c : ℕ) → 1 ≤ c → c ≤ sum l → (i : ℕ) × (i < length l) × (sum (take i l) < c) × (c ≤ sum (take i l) + get_or l i 0)
train-in [] c a b = absurd (omega arith)
train-in (n ∷ l) c a b = ⊎_elim (λ e. (0, omega arith, omega arith, omega arith)) (λ e. later e (train-in l (c - n) (omega arith) (omega arith))) (le-or-lt c n)
  where
    later :
        n < c → ((i : ℕ) × (i < length l) × (sum (take i l) < c - n) × (c - n ≤ sum (take i l) + get_or l i 0)) →
        (i : ℕ) × (i < length (n ∷ l)) × (sum (take i (n ∷ l)) < c) × (c ≤ sum (take i (n ∷ l)) + get_or (n ∷ l) i 0)
    later e r = (suc r.0, omega (arith, r.1), omega (arith, r.2), omega (arith, r.3))

-- the cars of the first i trains, and of the next, are cars of the night
pub train-end : (l : List ℕ) (i : ℕ) → i < length l → sum (take i l) + get_or l i 0 ≤ sum l
train-end [] i m = absurd (omega arith)
train-end (n ∷ l) zero m = omega arith
train-end (n ∷ l) (suc i) m = omega (arith, train-end l i (omega arith))

-- ---- the largest number of a list

pub most-above : (f : ℕ → ℕ) (l : List ℕ) (x : ℕ) → 0 < count x l → f x ≤ most f l
most-above f [] x m = absurd (omega arith)
most-above f (y ∷ l) x m = go (eqb x y) refl m (most-above f l x)
  where
    go : (b : Bool) → eqb x y ≡ b → 0 < tally b + count x l → (0 < count x l → f x ≤ most f l) → f x ≤ max (f y) (most f l)
    go true e h later = omega (arith, ap f (eqb-true x y e))
    go false e h later = omega (arith, later (omega arith))

pub most-reached : (f : ℕ → ℕ) (l : List ℕ) → 0 < length l → (x : ℕ) × (0 < count x l) × (f x ≡ most f l)
most-reached f [] m = absurd (omega arith)
most-reached f (y ∷ l) m =
    ⊎_elim
    (λ le. (y, count_head y l, omega arith))
    (λ lt. later lt (most-reached f l (more l (omega arith))))
    (le-or-lt (most f l) (f y))
  where
    more : (u : List ℕ) → 0 < most f u → 0 < length u
    more [] h = h
    more (x ∷ u) h = omega arith

    later : f y < most f l → ((x : ℕ) × (0 < count x l) × (f x ≡ most f l)) → (x : ℕ) × (0 < count x (y ∷ l)) × (f x ≡ max (f y) (most f l))
    later lt r = (r.0, count-tail r.0 y l r.1, omega (arith, r.2))

-- ---- breaks

pub breaks-suc : (inbound : List ℕ) (j n : ℕ) → breaks inbound j (suc n) ≡ breaks inbound j n + tally (broken inbound (j + n))
breaks-suc inbound j n =
    length-passing (broken inbound) j (suc n) ∙
    (total-last (λ x. tally (broken inbound x)) j n ∙ ap (λ (k : ℕ). k + tally (broken inbound (j + n))) (sym (length-passing (broken inbound) j n)))

-- the breaks before a car, by its train's number
pub breaks_before-train : (lengths inbound : List ℕ) (i c : ℕ) → train_of lengths c ≡ suc i
    → breaks_before lengths inbound c ≡ breaks inbound (suc (sum (take i lengths))) (c - suc (sum (take i lengths)))
breaks_before-train lengths inbound i c e =
    ap (λ (head : ℕ). breaks inbound head (c - head)) (ap (λ (t : ℕ). first_car lengths t) e ∙ first_car-suc lengths i)
