-- Laws of a sum or a test of all items over what is left of a list, and of a sum and a largest item over the first of it and one item more.
use mathlib.Core.Path.{◌≡◌, refl, sym, ap, ◌∙◌}
use mathlib.Core.Bool.{Bool, true, false, ◌&&◌, and_assoc, and-true}
use mathlib.Core.List.{List, [], ◌∷◌}
use Prim.Native.Nat.{ℕ, zero, suc, ◌+◌, max, ◌≤◌, ◌<◌}
use native.Mathlib.Nat.{add-zero, zero-add, add-suc, suc-add}
use native.Mathlib.Omega.{arith}
use native.Mathlib.Numerals.{add-one}
use mir.Val.{bool_byte}
use lib.ListN.{length, get_or, take, drop, drop_of_length-le}
use lib.Seq.{take-suc, drop-cons}
use Rattle.yard.specs.Words.{tally, total, most, every, up_from}
use Rattle.yard.specs.Night.{sum}
use Rattle.yard.proofs.general.Bools.{and_left, and_right}
use Rattle.yard.proofs.general.Lists.{total-append}

-- what is left, with its first item taken off, and where nothing is left
pub total-next : (f : ℕ → ℕ) (l : List ℕ) (i : ℕ) → i < length l → total f (drop i l) ≡ f (get_or l i 0) + total f (drop (i + 1) l)
total-next f l i m = rw (add-one, drop-cons l i 0) refl

pub total-end : (f : ℕ → ℕ) (l : List ℕ) (i : ℕ) → length l ≤ i → total f (drop i l) ≡ 0
total-end f l i m = ap (λ (u : List ℕ). total f u) (drop_of_length-le l m)

-- all items passed pass the test, and all that are left, exactly if all do: one item more, and where nothing is left
module _ (p : ℕ → Bool) (l : List ℕ) (i : ℕ) (all whole : Bool) (left : (all && every p (drop i l)) ≡ whole) where
  pub every-next : {here : Bool} → i < length l → here ≡ p (get_or l i 0) → ((all && here) && every p (drop (i + 1) l)) ≡ whole
  every-next {here} m e = and_assoc all here (every p (drop (i + 1) l)) ∙ ap (λ (b : Bool). all && b) (sym opened) ∙ left
    where
      opened : every p (drop i l) ≡ (here && every p (drop (i + 1) l))
      opened = rw (e, add-one, drop-cons l i 0) refl

  pub every-end : length l ≤ i → all ≡ whole
  every-end m = sym (and-true all) ∙ ap (λ (u : List ℕ). all && every p u) (sym (drop_of_length-le l m)) ∙ left

-- where all items pass, each does
pub each : (p : ℕ → Bool) (l : List ℕ) → every p l ≡ true → (i : ℕ) → i < length l → p (get_or l i 0) ≡ true
each p [] t i m = absurd (omega arith)
each p (x ∷ l) t zero m = and_left (p x) (every p l) t
each p (x ∷ l) t (suc i) m = each p l (and_right (p x) (every p l) t) i (omega arith)

-- no item is above the largest
pub item-most : (l : List ℕ) (i : ℕ) → i < length l → get_or l i 0 ≤ most (λ x. x) l
item-most [] i m = absurd (omega arith)
item-most (x ∷ l) zero m = omega arith
item-most (x ∷ l) (suc i) m = omega (arith, item-most l i (omega arith))

-- the sum of the first items, and one more
pub sum-next : (l : List ℕ) (i : ℕ) → i < length l → sum (take (suc i) l) ≡ sum (take i l) + get_or l i 0
sum-next l i m = ap sum (take-suc l i 0 m) ∙ (total-append (λ x. x) (take i l) (get_or l i 0 ∷ []) ∙ omega arith)

-- the largest so far, and one more
pub most-suc : (f : ℕ → ℕ) (n a : ℕ) → most f (up_from a (suc n)) ≡ max (most f (up_from a n)) (f (a + n))
most-suc f zero a = omega (arith, ap f (add-zero a))
most-suc f (suc n) a = omega (arith, most-suc f n (suc a), ap f (suc-add a n ∙ sym (add-suc a n)))

pub most-next : (f : ℕ → ℕ) (n : ℕ) → most f (up_from 0 (n + 1)) ≡ max (most f (up_from 0 n)) (f n)
most-next f n = rw add-one (most-suc f n 0 ∙ ap (λ (k : ℕ). max (most f (up_from 0 n)) (f k)) (zero-add n))

-- a yes counts once at most
pub tally-most : (b : Bool) → tally b ≤ 1
tally-most true = omega arith
tally-most false = omega arith

-- what a test is as a number is how often it counts
pub byte-tally : (b : Bool) → bool_byte b ≡ tally b
byte-tally true = refl
byte-tally false = refl
