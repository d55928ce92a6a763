-- Laws of sums, counts and kept items over any list.
use mathlib.Core.Path.{◌≡◌, refl, sym, ap, ap₂, ◌∙◌, subst}
use mathlib.Core.Logic.{◌⊎◌, inl, inr, ⊎_elim}
use mathlib.Core.Bool.{Bool, true, false, cond, ◌&&◌}
use mathlib.Core.List.{List, [], ◌∷◌, ◌++◌, map}
use Prim.Native.Nat.{ℕ, zero, suc, ◌+◌, ◌*◌, ◌≤◌, ◌<◌}
use native.Mathlib.Nat.{le_refl, eq-or-lt_of_le, zero-mul, one-mul, mul-one, add-mul}
use native.Mathlib.Omega.{arith}
use lib.Dec.{eqb}
use lib.ListN.{length, get_or, take, drop}
use lib.Seq.{get_or-take, get_or-drop}
use borrow.Author.Tests.{eq-eqb, ne_eqb, eqb-true, eqb-false}
use Rattle.yard.specs.Words.{tally, total, keep, count, up_from}
use Rattle.yard.proofs.general.Bools.{split}
use Rattle.yard.proofs.general.Numbers.{le-or-lt}

-- ---- sums

pub total-append : (f : ℕ → ℕ) (l m : List ℕ) → total f (l ++ m) ≡ total f l + total f m
total-append f [] m = omega arith
total-append f (x ∷ l) m = omega (arith, total-append f l m)

pub total-add : (f g : ℕ → ℕ) (l : List ℕ) → total (λ x. f x + g x) l ≡ total f l + total g l
total-add f g [] = refl
total-add f g (x ∷ l) = omega (arith, total-add f g l)

pub total-none : (l : List ℕ) → total (λ x. 0) l ≡ 0
total-none [] = refl
total-none (x ∷ l) = omega (arith, total-none l)

pub total-length : (l : List ℕ) → total (λ x. 1) l ≡ length l
total-length [] = refl
total-length (x ∷ l) = omega (arith, total-length l)

pub total-small : (f : ℕ → ℕ) → ((x : ℕ) → f x ≤ 1) → (l : List ℕ) → total f l ≤ length l
total-small f small [] = omega arith
total-small f small (x ∷ l) = omega (arith, small x, total-small f small l)

pub tally-small : (b : Bool) → tally b ≤ 1
tally-small true = omega arith
tally-small false = omega arith

pub total-keep : (f : ℕ → ℕ) (p : ℕ → Bool) (l : List ℕ) → total f (keep p l) ≡ total (λ x. cond (p x) (f x) 0) l
total-keep f p [] = refl
total-keep f p (x ∷ l) = go (p x) (total-keep f p l)
  where
    go : (b : Bool) → total f (keep p l) ≡ total (λ y. cond (p y) (f y) 0) l
        → total f (cond b (x ∷ keep p l) (keep p l)) ≡ cond b (f x) 0 + total (λ y. cond (p y) (f y) 0) l
    go true e = omega arith
    go false e = omega arith

-- ---- a number among the items of a list

pub count_head : (x : ℕ) (l : List ℕ) → 0 < count x (x ∷ l)
count_head x l = rw (eq-eqb x x refl) (omega arith)

pub count-tail : (x y : ℕ) (l : List ℕ) → 0 < count x l → 0 < count x (y ∷ l)
count-tail x y l h = omega arith

pub count-append : (x : ℕ) (l m : List ℕ) → count x (l ++ m) ≡ count x l + count x m
count-append x l m = total-append (λ y. tally (eqb x y)) l m

-- sums of items that f and g agree on
pub total-same : (f g : ℕ → ℕ) (l : List ℕ) → ((x : ℕ) → 0 < count x l → f x ≡ g x) → total f l ≡ total g l
total-same f g [] e = refl
total-same f g (x ∷ l) e = omega (arith, e x (count_head x l), total-same f g l (λ y h. e y (count-tail y x l h)))

-- ---- kept items

pub keep_append : (p : ℕ → Bool) (l m : List ℕ) → keep p (l ++ m) ≡ keep p l ++ keep p m
keep_append p [] m = refl
keep_append p (x ∷ l) m = go (p x) (keep_append p l m)
  where
    go : (b : Bool) → keep p (l ++ m) ≡ keep p l ++ keep p m → cond b (x ∷ keep p (l ++ m)) (keep p (l ++ m)) ≡ cond b (x ∷ keep p l) (keep p l) ++ keep p m
    go true e = ap (λ t. x ∷ t) e
    go false e = e

pub keep_same : (p q : ℕ → Bool) (l : List ℕ) → ((x : ℕ) → 0 < count x l → p x ≡ q x) → keep p l ≡ keep q l
keep_same p q [] e = refl
keep_same p q (x ∷ l) e =
    rw (e x (count_head x l)) (ap (λ t. cond (q x) (x ∷ t) t) (keep_same p q l (λ y h. e y (count-tail y x l h))))

pub keep-keep : (p q : ℕ → Bool) (l : List ℕ) → keep p (keep q l) ≡ keep (λ x. q x && p x) l
keep-keep p q [] = refl
keep-keep p q (x ∷ l) = go (q x) (keep-keep p q l)
  where
    go : (b : Bool) → keep p (keep q l) ≡ keep (λ y. q y && p y) l
        → keep p (cond b (x ∷ keep q l) (keep q l)) ≡ cond (b && p x) (x ∷ keep (λ y. q y && p y) l) (keep (λ y. q y && p y) l)
    go true e = ap (λ t. cond (p x) (x ∷ t) t) e
    go false e = e

pub keep-none : (p : ℕ → Bool) (l : List ℕ) → ((x : ℕ) → 0 < count x l → p x ≡ false) → keep p l ≡ []
keep-none p [] e = refl
keep-none p (x ∷ l) e = rw (e x (count_head x l)) (keep-none p l (λ y h. e y (count-tail y x l h)))

cond-zero : (b : Bool) → cond b zero zero ≡ zero
cond-zero true = refl
cond-zero false = refl

-- how often a number is kept: as often as it was there if it passes, else never
pub count-keep : (x : ℕ) (p : ℕ → Bool) (l : List ℕ) → count x (keep p l) ≡ cond (p x) (count x l) 0
count-keep x p l = total-keep (λ y. tally (eqb x y)) p l ∙ (total-same _ _ l (λ y h. alike y) ∙ whole (p x))
  where
    alike : (y : ℕ) → cond (p y) (tally (eqb x y)) 0 ≡ cond (p x) (tally (eqb x y)) 0
    alike y =
        ⊎_elim
        (λ e. ap (λ (z : ℕ). cond (p z) (tally (eqb x y)) 0) (sym (eqb-true x y e)))
        (λ e. rw e (cond-zero (p y) ∙ sym (cond-zero (p x))))
        (split (eqb x y))

    whole : (b : Bool) → total (λ y. cond b (tally (eqb x y)) 0) l ≡ cond b (count x l) 0
    whole true = refl
    whole false = total-none l

pub count_kept : (x : ℕ) (p : ℕ → Bool) (l : List ℕ) → 0 < count x (keep p l) → (p x ≡ true) × (0 < count x l)
count_kept x p l h = go (p x) refl (subst (λ (n : ℕ). 0 < n) (count-keep x p l) h)
  where
    go : (b : Bool) → p x ≡ b → 0 < cond b (count x l) 0 → (p x ≡ true) × (0 < count x l)
    go true e h = (e, h)
    go false e h = absurd (omega arith)

-- ---- the numbers from a on

pub length-up_from : (a n : ℕ) → length (up_from a n) ≡ n
length-up_from a zero = refl
length-up_from a (suc n) = ap suc (length-up_from (suc a) n)

pub count-up_from-out : (x a n : ℕ) → (x < a) ⊎ (a + n ≤ x) → count x (up_from a n) ≡ 0
count-up_from-out x a zero o = refl
count-up_from-out x a (suc n) o =
    omega (arith, ap tally (ne_eqb x a (λ e. apart e o)), count-up_from-out x (suc a) n (further o))
  where
    apart : x ≡ a → (x < a) ⊎ (a + suc n ≤ x) → ⊥
    apart e o = ⊎_elim (λ h. omega arith) (λ h. omega arith) o

    further : (x < a) ⊎ (a + suc n ≤ x) → (x < suc a) ⊎ (suc a + n ≤ x)
    further o = ⊎_elim (λ h. inl (omega arith)) (λ h. inr (omega arith)) o

pub count-up_from-in : (x a n : ℕ) → a ≤ x → x < a + n → count x (up_from a n) ≡ 1
count-up_from-in x a zero l h = absurd (omega arith)
count-up_from-in x a (suc n) l h = ⊎_elim (λ e. here e) (λ m. there m (count-up_from-in x (suc a) n m (omega arith))) (eq-or-lt_of_le l)
  where
    here : a ≡ x → count x (up_from a (suc n)) ≡ 1
    here e = omega (arith, ap tally (eq-eqb x a (sym e)), count-up_from-out x (suc a) n (inl (omega arith)))

    there : a < x → count x (up_from (suc a) n) ≡ 1 → count x (up_from a (suc n)) ≡ 1
    there m r = omega (arith, ap tally (ne_eqb x a (λ e. omega arith)))

pub up_from-bounds : (x a n : ℕ) → 0 < count x (up_from a n) → (a ≤ x) × (x < a + n)
up_from-bounds x a n h = (
  ⊎_elim (λ l. l) (λ l. absurd (omega (arith, count-up_from-out x a n (inl l)))) (le-or-lt a x),
  ⊎_elim (λ l. absurd (omega (arith, count-up_from-out x a n (inr l)))) (λ l. l) (le-or-lt (a + n) x),
)

-- ---- sums over the n numbers from a on

pub total-below : (f g : ℕ → ℕ) (a n : ℕ) → ((j : ℕ) → a ≤ j → j < a + n → f j ≤ g j) → total f (up_from a n) ≤ total g (up_from a n)
total-below f g a zero le = le_refl 0
total-below f g a (suc n) le =
    omega (arith, le a (le_refl a) (omega arith), total-below f g (suc a) n (λ j l m. le j (omega arith) (omega arith)))

-- where no item is above its fellow and the sums are equal, the items are
pub total-tight : (f g : ℕ → ℕ) (a n : ℕ) → ((j : ℕ) → a ≤ j → j < a + n → f j ≤ g j) → total g (up_from a n) ≤ total f (up_from a n)
    → (j : ℕ) → a ≤ j → j < a + n → f j ≡ g j
total-tight f g a zero le same j l m = absurd (omega arith)
total-tight f g a (suc n) le same j l m =
    ⊎_elim
    (λ e. omega (arith, ap f e, ap g e, rest, le a (le_refl a) (omega arith)))
    (λ far. total-tight f g (suc a) n later (omega (arith, le a (le_refl a) (omega arith))) j far (omega arith))
    (eq-or-lt_of_le l)
  where
    later : (i : ℕ) → suc a ≤ i → i < suc a + n → f i ≤ g i
    later i far near = le i (omega arith) (omega arith)

    rest : total f (up_from (suc a) n) ≤ total g (up_from (suc a) n)
    rest = total-below f g (suc a) n later

-- sums of items that are the same
pub total-range : (f g : ℕ → ℕ) (a n : ℕ) → ((j : ℕ) → a ≤ j → j < a + n → f j ≡ g j) → total f (up_from a n) ≡ total g (up_from a n)
total-range f g a n same = total-same f g (up_from a n) (λ j among. let b = up_from-bounds j a n among in same j b.0 b.1)

-- sums of items that agree but for one
pub total-but : (f g : ℕ → ℕ) (a n k : ℕ) → a ≤ k → k < a + n → ((j : ℕ) → (j ≡ k → ⊥) → f j ≡ g j)
    → total f (up_from a n) + g k ≡ total g (up_from a n) + f k
total-but f g a zero k l m same = absurd (omega arith)
total-but f g a (suc n) k l m same =
    ⊎_elim
    (λ e. omega (arith, ap f e, ap g e, total-range f g (suc a) n (λ j far near. same j (λ q. omega arith))))
    (λ far. omega (arith, same a (λ q. omega arith), total-but f g (suc a) n k far (omega arith) same))
    (eq-or-lt_of_le l)

-- ---- lists made item by item, and parts of a list

pub map_at : (g : ℕ → ℕ) (l : List ℕ) (i : ℕ) → i < length l → get_or (map g l) i 0 ≡ g (get_or l i 0)
map_at g [] i m = absurd (omega arith)
map_at g (x ∷ l) zero m = refl
map_at g (x ∷ l) (suc i) m = map_at g l i (omega arith)

-- a list made by two rules that agree on its items
pub map-alike : (f g : ℕ → ℕ) (l : List ℕ) → ((i : ℕ) → i < length l → f (get_or l i 0) ≡ g (get_or l i 0)) → map f l ≡ map g l
map-alike f g [] same = refl
map-alike f g (x ∷ l) same =
    ap₂ (λ (y : ℕ) (u : List ℕ). y ∷ u) (same 0 (omega arith)) (map-alike f g l (λ i m. same (suc i) (omega arith)))

-- an item of a part of a list
pub part-item : (l : List ℕ) (s k i : ℕ) → i < k → get_or (take k (drop s l)) i 0 ≡ get_or l (s + i) 0
part-item l s k i m = get_or-take k (drop s l) i 0 m ∙ get_or-drop s l i 0

-- ---- a sum by items is a sum by values

total-scaled : (g : ℕ → ℕ) (c : ℕ) (l : List ℕ) → total (λ x. g x * c) l ≡ total g l * c
total-scaled g c [] = omega arith
total-scaled g c (x ∷ l) = omega (arith, total-scaled g c l)

total-at : (f : ℕ → ℕ) (y a n : ℕ) → a ≤ y → y < a + n → total (λ x. tally (eqb x y) * f x) (up_from a n) ≡ f y
total-at f y a n l h =
    total-same _ _ (up_from a n) (λ x m. turned x) ∙
    (total-scaled (λ x. tally (eqb y x)) (f y) (up_from a n) ∙ (ap (λ (k : ℕ). k * f y) (count-up_from-in y a n l h) ∙ one-mul (f y)))
  where
    turned : (x : ℕ) → tally (eqb x y) * f x ≡ tally (eqb y x) * f y
    turned x =
        ⊎_elim
        (λ e. rw (eqb-true x y e) refl)
        (λ e. omega (arith, ap (λ (b : Bool). tally b * f x) e, ap (λ (b : Bool). tally b * f y) (ne_eqb y x (λ q. eqb-false x y e (sym q)))))
        (split (eqb x y))

pub total-values : (f : ℕ → ℕ) (a n : ℕ) (l : List ℕ) → ((x : ℕ) → 0 < count x l → (a ≤ x) × (x < a + n))
    → total f l ≡ total (λ x. count x l * f x) (up_from a n)
total-values f a n [] b = sym (total-same _ _ (up_from a n) (λ x m. zero-mul (f x)) ∙ total-none (up_from a n))
total-values f a n (y ∷ l) b =
    omega (
      arith,
      total-values f a n l (λ x h. b x (count-tail x y l h)),
      total-at f y a n (b y (count_head y l)).0 (b y (count_head y l)).1,
      total-same (λ x. (tally (eqb x y) + count x l) * f x) (λ x. tally (eqb x y) * f x + count x l * f x) (up_from a n)
          (λ x m. add-mul (tally (eqb x y)) (count x l) (f x)),
      total-add (λ x. tally (eqb x y) * f x) (λ x. count x l * f x) (up_from a n),
    )

-- lists that hold each number equally often have equal sums
pub total-alike : (f : ℕ → ℕ) (l m : List ℕ) (a n : ℕ) → ((x : ℕ) → 0 < count x l → (a ≤ x) × (x < a + n))
    → ((x : ℕ) → count x l ≡ count x m) → total f l ≡ total f m
total-alike f l m a n b e =
    total-values f a n l b ∙
    (total-same _ _ (up_from a n) (λ x h. ap (λ (k : ℕ). k * f x) (e x)) ∙
    sym (total-values f a n m (λ x h. b x (subst (λ (k : ℕ). 0 < k) (sym (e x)) h))))

-- as many numbers as there are to take, none twice: each is taken once
full : (g : ℕ → ℕ) (a n : ℕ) → ((x : ℕ) → g x ≤ 1) → total g (up_from a n) ≡ n → (x : ℕ) → a ≤ x → x < a + n → g x ≡ 1
full g a zero small e x l h = absurd (omega arith)
full g a (suc n) small e x l h =
    ⊎_elim
    (λ q. omega (arith, ap g q, small a, total-small g small (up_from (suc a) n), length-up_from (suc a) n))
    (λ m. full g (suc a) n small (omega (arith, small a, total-small g small (up_from (suc a) n), length-up_from (suc a) n)) x m (omega arith))
    (eq-or-lt_of_le l)

pub pigeonhole : (l : List ℕ) (a : ℕ) → ((x : ℕ) → 0 < count x l → (a ≤ x) × (x < a + length l)) → ((x : ℕ) → count x l ≤ 1)
    → (x : ℕ) → a ≤ x → x < a + length l → count x l ≡ 1
pigeonhole l a b small =
    full (λ x. count x l) a (length l) small
    (total-same _ _ (up_from a (length l)) (λ x m. sym (mul-one (count x l))) ∙
    (sym (total-values (λ x. 1) a (length l) l b) ∙ total-length l))
