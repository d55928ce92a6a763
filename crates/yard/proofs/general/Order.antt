-- Laws of places in a list, and of which of two numbers a list meets first.
use mathlib.Core.Path.{◌≡◌, refl, sym, ap, ap₂, ◌∙◌, subst}
use mathlib.Core.Logic.{⊎_elim}
use mathlib.Core.Bool.{Bool, true, false, cond, not}
use mathlib.Core.List.{List, [], ◌∷◌, ◌++◌}
use Prim.Native.Nat.{ℕ, zero, suc, ◌+◌, ◌-◌, ◌≤◌, ◌<◌}
use native.Mathlib.Nat.{eq-or-lt_of_le}
use native.Mathlib.Omega.{arith}
use lib.Dec.{ltb, eqb, leb-suc-suc}
use lib.ListN.{length}
use borrow.Author.Tests.{eq-eqb, ne_eqb, eqb-true, lt-ltb, le-ltb, ltb-true}
use Rattle.yard.specs.Words.{tally, count, keep, place, up_from}
use Rattle.yard.proofs.general.Bools.{clash}
use Rattle.yard.proofs.general.Numbers.{le-or-lt}
use Rattle.yard.proofs.general.Lists.{count_head, count-up_from-in, up_from-bounds}

-- the list meets a before b
abbrev pub before : ℕ → ℕ → List ℕ → Bool
before a b l = ltb (place a l) (place b l)

-- ---- places

pub place_here : (x : ℕ) (l : List ℕ) → place x (x ∷ l) ≡ 0
place_here x l = rw (eq-eqb x x refl) refl

pub place-there : (x y : ℕ) (l : List ℕ) → (x ≡ y → ⊥) → place x (y ∷ l) ≡ suc (place x l)
place-there x y l n = rw (ne_eqb x y n) refl

pub place-among : (x : ℕ) (l : List ℕ) → 0 < count x l → place x l < length l
place-among x [] h = absurd (omega arith)
place-among x (y ∷ l) h = go (eqb x y) h (place-among x l)
  where
    go : (b : Bool) → 0 < tally b + count x l → (0 < count x l → place x l < length l) → cond b 0 (suc (place x l)) < suc (length l)
    go true h later = omega arith
    go false h later = omega (arith, later (omega arith))

pub place-left : (x : ℕ) (u v : List ℕ) → 0 < count x u → place x (u ++ v) ≡ place x u
place-left x [] v h = absurd (omega arith)
place-left x (y ∷ u) v h = go (eqb x y) h (place-left x u v)
  where
    go : (b : Bool) → 0 < tally b + count x u → (0 < count x u → place x (u ++ v) ≡ place x u) → cond b 0 (suc (place x (u ++ v))) ≡ cond b 0 (suc (place x u))
    go true h later = refl
    go false h later = ap suc (later (omega arith))

pub place-right : (x : ℕ) (u v : List ℕ) → count x u ≡ 0 → place x (u ++ v) ≡ length u + place x v
place-right x [] v h = omega arith
place-right x (y ∷ u) v h = go (eqb x y) h (place-right x u v)
  where
    go : (b : Bool) → tally b + count x u ≡ 0 → (count x u ≡ 0 → place x (u ++ v) ≡ length u + place x v)
        → cond b 0 (suc (place x (u ++ v))) ≡ suc (length u) + place x v
    go true h later = absurd (omega arith)
    go false h later = omega (arith, later (omega arith))

-- two numbers do not share a place
pub place-apart : (a b : ℕ) (l : List ℕ) → (a ≡ b → ⊥) → 0 < count a l → place a l ≡ place b l → ⊥
place-apart a b [] n h e = omega arith
place-apart a b (y ∷ l) n h e = go (eqb a y) (eqb b y) refl refl h e (place-apart a b l n)
  where
    go : (s t : Bool) → eqb a y ≡ s → eqb b y ≡ t → 0 < tally s + count a l
        → cond s 0 (suc (place a l)) ≡ cond t 0 (suc (place b l)) → (0 < count a l → place a l ≡ place b l → ⊥) → ⊥
    go true true p q h e later = n (eqb-true a y p ∙ sym (eqb-true b y q))
    go true false p q h e later = omega arith
    go false true p q h e later = omega arith
    go false false p q h e later = later (omega arith) (omega arith)

-- ---- what is kept keeps its order

ltb-suc : (i j : ℕ) → ltb (suc i) (suc j) ≡ ltb i j
ltb-suc i j = leb-suc-suc (suc i) j

before-cons : (s t : Bool) (i j i' j' : ℕ) → ltb i j ≡ ltb i' j' → ltb (cond s 0 (suc i)) (cond t 0 (suc j)) ≡ ltb (cond s 0 (suc i')) (cond t 0 (suc j'))
before-cons true true i j i' j' e = refl
before-cons true false i j i' j' e = lt-ltb 0 (suc j) (omega arith) ∙ sym (lt-ltb 0 (suc j') (omega arith))
before-cons false true i j i' j' e = le-ltb (suc i) 0 (omega arith) ∙ sym (le-ltb (suc i') 0 (omega arith))
before-cons false false i j i' j' e = ltb-suc i j ∙ (e ∙ sym (ltb-suc i' j'))

-- an item that is neither of the two does not count
pub before-skip : (a b y : ℕ) (l : List ℕ) → (a ≡ y → ⊥) → (b ≡ y → ⊥) → before a b (y ∷ l) ≡ before a b l
before-skip a b y l na nb = rw (place-there a y l na, place-there b y l nb) (ltb-suc (place a l) (place b l))

pub before-keep : (p : ℕ → Bool) (a b : ℕ) (l : List ℕ) → p a ≡ true → p b ≡ true → before a b (keep p l) ≡ before a b l
before-keep p a b [] pa pb = refl
before-keep p a b (y ∷ l) pa pb = go (p y) refl (before-keep p a b l pa pb)
  where
    other : (x : ℕ) → p x ≡ true → p y ≡ false → x ≡ y → ⊥
    other x px py e = clash (ap p (sym e) ∙ px) py

    go : (k : Bool) → p y ≡ k → before a b (keep p l) ≡ before a b l → before a b (cond k (y ∷ keep p l) (keep p l)) ≡ before a b (y ∷ l)
    go true e same = before-cons (eqb a y) (eqb b y) (place a (keep p l)) (place b (keep p l)) (place a l) (place b l) same
    go false e same = same ∙ sym (before-skip a b y l (other a pa e) (other b pb e))

-- ---- one list behind the other

pub before-left : (a b : ℕ) (u v : List ℕ) → 0 < count a u → 0 < count b u → before a b (u ++ v) ≡ before a b u
before-left a b u v ha hb = rw (place-left a u v ha, place-left b u v hb) refl

pub before-right : (a b : ℕ) (u v : List ℕ) → count a u ≡ 0 → count b u ≡ 0 → before a b (u ++ v) ≡ before a b v
before-right a b u v ha hb = rw (place-right a u v ha, place-right b u v hb) (ltb-shift (length u) (place a v) (place b v))
  where
    ltb-shift : (k i j : ℕ) → ltb (k + i) (k + j) ≡ ltb i j
    ltb-shift k i j =
        ⊎_elim (λ h. le-ltb (k + i) (k + j) (omega arith) ∙ sym (le-ltb i j h)) (λ h. lt-ltb (k + i) (k + j) (omega arith) ∙ sym (lt-ltb i j h)) (le-or-lt j i)

pub before-across : (a b : ℕ) (u v : List ℕ) → 0 < count a u → count b u ≡ 0 → before a b (u ++ v) ≡ true
before-across a b u v ha hb = lt-ltb (place a (u ++ v)) (place b (u ++ v)) (omega (arith, place-left a u v ha, place-right b u v hb, place-among a u ha))

-- of two numbers exactly one is met first
pub before-turned : (a b : ℕ) (l : List ℕ) → (a ≡ b → ⊥) → 0 < count a l → before b a l ≡ not (before a b l)
before-turned a b l n h =
    ⊎_elim
    (λ le. rw (le-ltb (place a l) (place b l) le) (lt-ltb (place b l) (place a l) (strict le)))
    (λ lt. rw (lt-ltb (place a l) (place b l) lt) (le-ltb (place b l) (place a l) (omega arith)))
    (le-or-lt (place b l) (place a l))
  where
    strict : place b l ≤ place a l → place b l < place a l
    strict le = ⊎_elim (λ e. absurd (place-apart a b l n h (sym e))) (λ lt. lt) (eq-or-lt_of_le le)

-- ---- a list that holds n numbers from a on once each, and meets each before the next, is those numbers in order

abbrev pub Holds : List ℕ → ℕ → ℕ → Type 0
Holds l a n = (x : ℕ) → count x l ≡ count x (up_from a n)

pub up_from-before : (a n j : ℕ) → a ≤ j → suc j < a + n → before j (suc j) (up_from a n) ≡ true
up_from-before a zero j l h = absurd (omega arith)
up_from-before a (suc n) j l h = ⊎_elim (λ e. here e) (λ m. later m (up_from-before (suc a) n j m (omega arith))) (eq-or-lt_of_le l)
  where
    first-place : a ≡ j → place j (up_from a (suc n)) ≡ 0
    first-place e = ap (λ (x : ℕ). place x (up_from a (suc n))) (sym e) ∙ place_here a (up_from (suc a) n)

    here : a ≡ j → before j (suc j) (up_from a (suc n)) ≡ true
    here e =
        lt-ltb (place j (up_from a (suc n))) (place (suc j) (up_from a (suc n)))
        (omega (arith, first-place e, place-there (suc j) a (up_from (suc a) n) (λ q. omega arith)))

    later : a < j → before j (suc j) (up_from (suc a) n) ≡ true → before j (suc j) (up_from a (suc n)) ≡ true
    later m r = before-skip j (suc j) a (up_from (suc a) n) (λ e. omega arith) (λ e. omega arith) ∙ r

pub up_from-when_in_order : (l : List ℕ) (a n : ℕ) → Holds l a n → ((j : ℕ) → a ≤ j → suc j < a + n → before j (suc j) l ≡ true) → l ≡ up_from a n
up_from-when_in_order [] a zero c o = refl
up_from-when_in_order [] a (suc n) c o = absurd (omega (arith, c a, count-up_from-in a a (suc n) (omega arith) (omega arith)))
up_from-when_in_order (x ∷ l) a zero c o = absurd (omega (arith, c x, count_head x l))
up_from-when_in_order (x ∷ l) a (suc n) c o =
    let e : x ≡ a = front (up_from-bounds x a (suc n) (subst (λ (k : ℕ). 0 < k) (c x) (count_head x l))) in
    ap₂ (λ (y : ℕ) (t : List ℕ). y ∷ t) e
    (up_from-when_in_order l (suc a) n
    (λ y. omega (arith, c y, ap (λ (z : ℕ). tally (eqb y z)) e))
    (λ j m h. sym (before-skip j (suc j) x l (λ q. omega arith) (λ q. omega arith)) ∙ o j (omega arith) (omega arith)))
  where
    front : (a ≤ x) × (x < a + suc n) → x ≡ a
    front b = ⊎_elim (λ q. sym q) (λ m. absurd (late (x - 1) (omega arith) m)) (eq-or-lt_of_le b.0)
      where
        late : (j : ℕ) → x ≡ suc j → a < x → ⊥
        late j q m =
            let r : place j (x ∷ l) < place (suc j) (x ∷ l) = ltb-true (place j (x ∷ l)) (place (suc j) (x ∷ l)) (o j (omega arith) (omega (arith, b.1))) in
            omega (arith, ap (λ (z : ℕ). place z (x ∷ l)) (sym q), place_here x l)
