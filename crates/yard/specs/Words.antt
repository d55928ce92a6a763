-- Small words on numbers and lists that the other pages use.
use Rattle.std.specs.Prelude.{ℕ, zero, suc, ◌+◌, max, Bool, true, false, cond, ◌&&◌, List, [], ◌∷◌, ltb, eqb}

-- 1 for yes, 0 for no
abbrev pub tally : Bool → ℕ
tally true = 1
tally false = 0

-- the sum of what f gives for each item
abbrev pub total : (ℕ → ℕ) → List ℕ → ℕ
total f [] = 0
total f (x ∷ l) = f x + total f l

-- the largest number that f gives for an item, 0 where there is none
abbrev pub most : (ℕ → ℕ) → List ℕ → ℕ
most f [] = 0
most f (x ∷ l) = max (f x) (most f l)

-- the items that pass a test, in their order
abbrev pub keep : (ℕ → Bool) → List ℕ → List ℕ
keep p [] = []
keep p (x ∷ l) = cond (p x) (x ∷ keep p l) (keep p l)

-- all items pass a test
abbrev pub every : (ℕ → Bool) → List ℕ → Bool
every p [] = true
every p (x ∷ l) = p x && every p l

-- how often a number stands in a list, and whether it does
abbrev pub count : ℕ → List ℕ → ℕ
count x l = total (λ y. tally (eqb x y)) l

abbrev pub listed : ℕ → List ℕ → Bool
listed x l = ltb 0 (count x l)

-- the place of a number in a list, from 0: how many items stand before it
abbrev pub place : ℕ → List ℕ → ℕ
place x [] = 0
place x (y ∷ l) = cond (eqb x y) 0 (suc (place x l))

-- two lists are the same, item by item
abbrev pub same : List ℕ → List ℕ → Bool
same [] [] = true
same [] (y ∷ m) = false
same (x ∷ l) [] = false
same (x ∷ l) (y ∷ m) = eqb x y && same l m

-- the n numbers from a on
abbrev pub up_from : ℕ → ℕ → List ℕ
up_from a zero = []
up_from a (suc n) = a ∷ up_from (suc a) n

-- the first of the n numbers from a on that passes a test, or a + n where none does
abbrev pub first : (ℕ → Bool) → ℕ → ℕ → ℕ
first p zero a = a
first p (suc n) a =
    let later = first p n (suc a) in
    cond (p a) a later
