-- What std's `position` finds by index is what the yard's search finds by place, from 1.
use mathlib.Core.Path.{◌≡◌, refl, sym, ap, ◌∙◌}
use mathlib.Core.Bool.{Bool, true, false, cond, not}
use mathlib.Core.List.{List, [], ◌∷◌}
use Prim.Native.Nat.{ℕ, zero, suc, ◌+◌, ◌<◌}
use native.Mathlib.Nat.{add-zero, zero-add}
use native.Mathlib.Numerals.{add-one}
use native.Mathlib.Omega.{arith}
use lib.Dec.{eqb, ltb, leb}
use lib.ListN.{length, get_or}
use borrow.Author.Tests.{lt-ltb, le-ltb, ltb-true, ltb-false}
use Rattle.std.specs.Prelude.{Option, Some, None}
use Rattle.std.specs.Option.{option_map}
use Rattle.std.specs.List.{find, position, position_or_len, range_with_len}
use Rattle.std.proofs.lemmas.List.Sums.{prefix_len-le-length}
use Rattle.yard.specs.Words.{first}
use Rattle.yard.specs.Night.{item_of}
use Rattle.yard.specs.Answers.{first_with}
use Rattle.yard.proofs.calls.Tests.{item-at}
use Rattle.scan.specs.Found.{found}

-- tests by number, of which the one from a on tell what p tells of the items
first-shifted : (p q : ℕ → Bool) (items : List ℕ) (a : ℕ) → ((i : ℕ) → i < length items → q (a + i) ≡ p (get_or items i 0)) →
    first q (length items) a ≡ a + position_or_len p items
first-shifted p q [] a same = omega arith
first-shifted p q (x ∷ items) a same =
    let here : q a ≡ p x = ap q (sym (add-zero a)) ∙ same 0 (omega arith) in
    let later = first-shifted p q items (suc a) (λ i h. ap q (moved i) ∙ same (suc i) (omega arith)) in
    ap (λ b. cond b a (first q (length items) (suc a))) here ∙ go (p x) later
  where
    moved : (i : ℕ) → suc a + i ≡ a + suc i
    moved i = omega arith

    go : (b : Bool) → first q (length items) (suc a) ≡ suc a + position_or_len p items →
        cond b a (first q (length items) (suc a)) ≡ a + cond (not b) (1 + position_or_len p items) 0
    go true e = omega arith
    go false e = omega arith

module _ (p : ℕ → Bool) (items : List ℕ) where
  pub first-position_or_len : first (λ k. p (item_of items k)) (length items) 1 ≡ 1 + position_or_len p items
  first-position_or_len =
      first-shifted p (λ k. p (item_of items k)) items 1 (λ i h. let e : 1 + i ≡ suc i = omega arith in ap (λ k. p (item_of items k)) e ∙ ap p (item-at items i))

  -- where an item passes, and where none does
  pub first-Some : {i : ℕ} → Some i ≡ position p items → (i + 1 ≡ first (λ k. p (item_of items k)) (length items) 1) × (i < length items)
  first-Some {i} e = go (position_or_len p items) refl (ltb (position_or_len p items) (length items)) refl e
    where
      go : (n : ℕ) → position_or_len p items ≡ n → (b : Bool) → ltb n (length items) ≡ b → Some i ≡ cond b (Some n) None →
          (i + 1 ≡ first (λ k. p (item_of items k)) (length items) 1) × (i < length items)
      go n at true l q =
          let same : n ≡ i = cc in
          (omega (arith, first-position_or_len), omega (arith, ltb-true n (length items) l))
      go n at false l q = cc

  pub first-None : None ≡ position p items → length items + 1 ≡ first (λ k. p (item_of items k)) (length items) 1
  first-None e = go (position_or_len p items) refl (ltb (position_or_len p items) (length items)) refl e
    where
      go : (n : ℕ) → position_or_len p items ≡ n → (b : Bool) → ltb n (length items) ≡ b → None ≡ cond b (Some n) None →
          length items + 1 ≡ first (λ k. p (item_of items k)) (length items) 1
      go n at true l q = cc
      go n at false l q = omega (arith, first-position_or_len, ltb-false n (length items) l, prefix_len-le-length (λ x. not (p x)) items)

  -- the same by place, as a search tells it
  pub option_map-position : option_map (λ i. i + 1) (position p items) ≡ found (1 + length items) (first (λ k. p (item_of items k)) (length items) 1)
  option_map-position = rw first-position_or_len (go (position_or_len p items) (ltb (position_or_len p items) (length items)) refl)
    where
      go : (n : ℕ) (b : Bool) → ltb n (length items) ≡ b → option_map (λ i. i + 1) (cond b (Some n) None) ≡ found (1 + length items) (1 + n)
      go n true l = rw (lt-ltb (1 + n) (1 + length items) (omega (arith, ltb-true n (length items) l))) (ap Some (omega arith))
      go n false l = rw (le-ltb (1 + n) (1 + length items) (omega (arith, ltb-false n (length items) l))) refl

  -- the same by index, from 0, as a search tells it
  pub position-found : position p items ≡ found (length items) (first (λ i. p (get_or items i 0)) (length items) 0)
  position-found =
      ap (found (length items))
      (sym
      (first-shifted p (λ i. p (get_or items i 0)) items 0 (λ i h. ap (λ (k : ℕ). p (get_or items k 0)) (zero-add i)) ∙ zero-add (position_or_len p items)))

-- the search for a number, and for the first item that is not below a bound
module _ (number : ℕ) (items : List ℕ) where
  pub with_found : {i : ℕ} → Some i ≡ position (λ x. eqb x number) items → i + 1 ≡ first_with number items
  with_found e = (first-Some (λ x. eqb x number) items e).0

  pub with_inside : {i : ℕ} → Some i ≡ position (λ x. eqb x number) items → i < length items
  with_inside e = (first-Some (λ x. eqb x number) items e).1

  pub with_none : None ≡ position (λ x. eqb x number) items → length items + 1 ≡ first_with number items
  with_none e = first-None (λ x. eqb x number) items e

  pub with_place : {r : Option ℕ} → r ≡ option_map (λ i. i + 1) (position (λ x. eqb x number) items) → r ≡ found (1 + length items) (first_with number items)
  with_place e = e ∙ option_map-position (λ x. eqb x number) items

module _ (bound : ℕ) (items : List ℕ) where
  pub over_found : {i : ℕ} → Some i ≡ position (λ x. leb bound x) items → i + 1 ≡ first (λ k. leb bound (item_of items k)) (length items) 1
  over_found e = (first-Some (λ x. leb bound x) items e).0

  pub over_inside : {i : ℕ} → Some i ≡ position (λ x. leb bound x) items → i < length items
  over_inside e = (first-Some (λ x. leb bound x) items e).1

  pub over_none : None ≡ position (λ x. leb bound x) items → length items + 1 ≡ first (λ k. leb bound (item_of items k)) (length items) 1
  over_none e = first-None (λ x. leb bound x) items e

  pub over_place : {r : Option ℕ} → r ≡ option_map (λ i. i + 1) (position (λ x. leb bound x) items) →
      r ≡ found (1 + length items) (first (λ k. leb bound (item_of items k)) (length items) 1)
  over_place e = e ∙ option_map-position (λ x. leb bound x) items

-- what std's `find` finds among the numbers from a on
pub find-found : (p : ℕ → Bool) (a n : ℕ) → find p (range_with_len a n) ≡ found (a + n) (first p n a)
find-found p a zero = rw (le-ltb a (a + 0) (omega arith)) refl
find-found p a (suc n) =
    let next : a + 1 + n ≡ a + suc n = omega arith in
    let later = find-found p (a + 1) n ∙ (ap (λ (e : ℕ). found e (first p n (a + 1))) next ∙ ap (λ (k : ℕ). found (a + suc n) (first p n k)) (add-one a)) in
    go (p a) later
  where
    go : (b : Bool) → find p (range_with_len (a + 1) n) ≡ found (a + suc n) (first p n (suc a)) →
        cond b (Some a) (find p (range_with_len (a + 1) n)) ≡ found (a + suc n) (cond b a (first p n (suc a)))
    go true e = rw (lt-ltb a (a + suc n) (omega arith)) refl
    go false e = e

pub option_map-same : (r : Option ℕ) → option_map (λ k. k) r ≡ r
option_map-same None = refl
option_map-same (Some k) = refl
