-- Laws of the marks, over any number of words: at first no car is marked, and marking a car as it comes keeps the marks at the cars listed so far.
use mathlib.Core.Path.{◌≡◌, sym, ap, ap₂, ◌∙◌}
use mathlib.Core.Logic.{◌⊎◌, inl, inr}
use mathlib.Core.Bool.{Bool, true, false, not, ◌||◌}
use mathlib.Core.List.{List, [], ◌∷◌}
use Prim.Native.Nat.{ℕ, suc, ◌+◌, ◌*◌, ◌/◌, ◌%◌, ◌^◌, ◌≤◌, ◌<◌}
use native.Mathlib.Nat.{add-zero, mod-lt, mod_self, mod-eq_of_lt, eq-or-lt_of_le, zero-div}
use native.Mathlib.Numerals.{add-one}
use native.Mathlib.Omega.{arith}
use lib.Arith.{mod-mul}
use lib.Bits.{bit_or}
use lib.Dec.{ltb, eqb, lit<}
use lib.ListN.{length, get_or, take, set, replicate, length-set, length-replicate, get_or-replicate, get_or-eq_default}
use lib.Seq.{take-suc, get_or-set_same, get_or-set_other}
use borrow.Author.Tests.{lt-ltb, eq-eqb, ne_eqb, eqb-true, eqb-false}
use Rattle.yard.specs.Words.{tally, count, listed}
use Rattle.yard.specs.Replay.{bit}
use Rattle.yard.specs.Answers.{in_range, bad_place, first_bad}
use Rattle.yard.proofs.general.Bools.{split, clash, same_test, not-true, not-false}
use Rattle.yard.proofs.general.Numbers.{le-or-lt}
use Rattle.yard.proofs.general.Lists.{count-append}
use Rattle.yard.proofs.yards.Formed.{bad-at}
use Rattle.scan.proofs.Left.{left-start, place-hits, place-goes}
use Rattle.scan.proofs.Range.{between}
use Rattle.marks.specs.Marks.{marked, markable, Marks, Sought, Looked}
use Rattle.marks.proofs.Word.{bit-set, bit-was-set}

-- words as they are at first
abbrev pub fresh : ℕ → List ℕ
fresh n = replicate n 0

pub markable-fresh : (n : ℕ) → markable (fresh n) ≡ 64 * n
unfolding markable
markable-fresh n = ap (λ (k : ℕ). 64 * k) (length-replicate n 0)

pub marked-fresh : (n x : ℕ) → marked (fresh n) x ≡ false
unfolding marked
marked-fresh n x =
    ap (bit (x / length (fresh n) % 64)) (item (x % length (fresh n)) (le-or-lt n (x % length (fresh n))))
    ∙ ap (λ (q : ℕ). eqb (q % 2) 1) (zero-div (2 ^ (x / length (fresh n) % 64)))
  where
    item : (i : ℕ) → (n ≤ i) ⊎ (i < n) → get_or (fresh n) i 0 ≡ 0
    item i (inl h) = get_or-eq_default (fresh n) 0 (omega (arith, length-replicate {A = ℕ} n 0))
    item i (inr h) = get_or-replicate n i 0 0 h

-- of the numbers 1 to n, no two are alike mod n
alike : (n x y : ℕ) → 1 ≤ x → x ≤ n → 1 ≤ y → y ≤ n → x % n ≡ y % n → x ≡ y
alike n x y lx hx ly hy e = go (eq-or-lt_of_le hx) (eq-or-lt_of_le hy)
  where
    go : (x ≡ n) ⊎ (x < n) → (y ≡ n) ⊎ (y < n) → x ≡ y
    go (inl p) (inl q) = p ∙ sym q
    go (inl p) (inr q) = absurd (omega (arith, sym (mod-eq_of_lt q) ∙ sym e ∙ ap (λ (z : ℕ). z % n) p ∙ mod_self n))
    go (inr p) (inl q) = absurd (omega (arith, sym (mod-eq_of_lt p) ∙ e ∙ ap (λ (z : ℕ). z % n) q ∙ mod_self n))
    go (inr p) (inr q) = sym (mod-eq_of_lt p) ∙ e ∙ mod-eq_of_lt q

-- two cars have different bits, or bits of different words
own-bit : (n x y : ℕ) → 1 ≤ x → x ≤ 64 * n → 1 ≤ y → y ≤ 64 * n → x % n ≡ y % n → x / n % 64 ≡ y / n % 64 → x ≡ y
own-bit n x y lx hx ly hy w b =
    alike (64 * n) x y lx hx ly hy
    (mod-mul x (lit< tt) (omega arith) ∙ ap₂ (λ (p q : ℕ). p * n + q) b w ∙ sym (mod-mul y (lit< tt) (omega arith)))

-- the words with a car's bit set
abbrev pub marking : List ℕ → ℕ → List ℕ
marking words car =
    let at = car % length words in
    set words at (bit_or (get_or words at 0) (2 ^ (car / length words % 64)))

module _ (words : List ℕ) (car : ℕ) (l : 1 ≤ car) (h : car ≤ markable words) where
  pub in_words : car % length words < length words
  unfolding markable
  in_words = mod-lt car (omega arith)

  pub was-marked : eqb (get_or words (car % length words) 0) (bit_or (get_or words (car % length words) 0) (2 ^ (car / length words % 64))) ≡ marked words car
  unfolding marked
  was-marked = bit-was-set (get_or words (car % length words) 0) (car / length words % 64)

  pub marks-one : Marks words car (marking words car)
  unfolding marked markable
  marks-one =
      record {
        room = ap (λ (k : ℕ). 64 * k) same;
        now = λ x k m. ap (λ (z : ℕ). bit (x / z % 64) (get_or (marking words car) (x % z) 0)) same ∙ at x k m (split (eqb (x % n) (car % n)));
      }
    where
      n : ℕ
      n = length words

      same : length (marking words car) ≡ n
      same = length-set words (car % n) (bit_or (get_or words (car % n) 0) (2 ^ (car / n % 64)))

      -- in the car's word, a bit is the car's if the number is
      here : (x : ℕ) → 1 ≤ x → x ≤ 64 * n → x % n ≡ car % n → eqb (x / n % 64) (car / n % 64) ≡ eqb x car
      here x k m e =
          same_test _ _
          (λ t. eq-eqb x car (own-bit n x car k m l h e (eqb-true (x / n % 64) (car / n % 64) t)))
          (λ t. eq-eqb (x / n % 64) (car / n % 64) (ap (λ (z : ℕ). z / n % 64) (eqb-true x car t)))

      at : (x : ℕ) → 1 ≤ x → x ≤ 64 * n → (eqb (x % n) (car % n) ≡ true) ⊎ (eqb (x % n) (car % n) ≡ false)
          → bit (x / n % 64) (get_or (marking words car) (x % n) 0) ≡ (eqb x car || bit (x / n % 64) (get_or words (x % n) 0))
      at x k m (inl t) =
          let e : x % n ≡ car % n = eqb-true (x % n) (car % n) t in
          rw (
            e,
            get_or-set_same words (car % n) (bit_or (get_or words (car % n) 0) (2 ^ (car / n % 64))) 0 in_words,
            bit-set (x / n % 64) (get_or words (car % n) 0) (car / n % 64),
            here x k m e,
          )
      at x k m (inr f) =
          let other : eqb x car ≡ false = ne_eqb x car (λ q. eqb-false (x % n) (car % n) f (ap (λ (z : ℕ). z % n) q)) in
          rw (other, get_or-set_other words (car % n) (x % n) (bit_or (get_or words (car % n) 0) (2 ^ (car / n % 64))) 0 (eqb-false (x % n) (car % n) f))

one_more : (b : Bool) (n : ℕ) → ltb 0 (n + (tally b + 0)) ≡ (b || ltb 0 n)
one_more true n = lt-ltb 0 (n + (1 + 0)) (omega arith)
one_more false n = rw add-zero

-- a car is listed at the first i + 1 places if it is the last of them or listed before
pub listed_next : (x : ℕ) (l : List ℕ) (i : ℕ) → i < length l → listed x (take (suc i) l) ≡ (eqb x (get_or l i 0) || listed x (take i l))
listed_next x l i h =
    ap (listed x) (take-suc l i 0 h)
    ∙ ap (ltb 0) (count-append x (take i l) (get_or l i 0 ∷ []))
    ∙ one_more (eqb x (get_or l i 0)) (count x (take i l))

module _ (inbound : List ℕ) where
  pub nothing-sought : (n : ℕ) → length inbound ≤ 64 * n → Sought inbound (fresh n) 0
  nothing-sought n h =
      record { room = omega (arith, markable-fresh n); met = λ x k m. marked-fresh n x; left = left-start (bad_place inbound) (length inbound) 1 }

  -- a place is looked at, and told to be out of range or not: where it is not, its car is marked now, and was marked before or not
  module _ (marks : List ℕ) (i : ℕ) (so : Sought inbound marks i) (h : i < length inbound) {out : Bool} (told : out ≡ not (in_range inbound (get_or inbound i 0))) where
    pub looked : {car : ℕ} {seen : Bool} {after : List ℕ} → out ≡ false → car ≡ get_or inbound i 0 → seen ≡ marked marks car → Marks marks car after → Looked inbound i seen after
    looked {car} {seen} fits is e now =
        record {
          found = λ t. place-hits (bad_place inbound) (length inbound) (first_bad inbound) i so.left h (again ∙ t);
          on = λ f. record {
            room = omega (arith, now.room, so.room);
            met =
                λ x k n.
                rw (add-one, listed_next x inbound i h, now.now x k (omega (arith, now.room)), so.met x k (omega (arith, now.room)))
                (ap (λ (y : ℕ). eqb x y || listed x (take i inbound)) is);
            left = place-goes (bad_place inbound) (length inbound) (first_bad inbound) i so.left h (again ∙ f);
          };
        }
      where
        inside : in_range inbound (get_or inbound i 0) ≡ true
        inside = not-false (in_range inbound (get_or inbound i 0)) (sym told ∙ fits)

        again : bad_place inbound (suc i) ≡ seen
        again =
            let fit = between 1 (get_or inbound i 0) (length inbound) inside in
            bad-at inbound i ∙ rw inside (sym (e ∙ ap (marked marks) is ∙ so.met (get_or inbound i 0) fit.0 (omega (arith, fit.1, so.room))))

    pub looked-out : {after : List ℕ} → out ≡ true → Looked inbound i out after
    looked-out told-out =
        record {
          found =
              λ t.
              place-hits (bad_place inbound) (length inbound) (first_bad inbound) i so.left h
              (bad-at inbound i ∙ rw (not-true (in_range inbound (get_or inbound i 0)) (sym told ∙ told-out)));
          on = λ e. clash told-out e;
        }
