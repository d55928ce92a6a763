-- Sorting stably by the low bits, one bit at a time, orders the cars by the number that those bits make, and by the inbound order where the numbers are equal.
use mathlib.Core.Path.{◌≡◌, refl, sym, ap, ◌∙◌}
use mathlib.Core.Bool.{Bool, true, false, cond, not}
use mathlib.Core.List.{List, ◌++◌}
use Prim.Native.Nat.{ℕ, zero, suc, ◌+◌, ◌*◌, ◌%◌, ◌^◌, ◌<◌}
use native.Mathlib.Nat.{mod-lt, le_of_lt}
use native.Mathlib.Omega.{arith}
use lib.Dec.{ltb, leb, eqb}
use lib.Pow.{pow_pos}
use borrow.Author.Tests.{eq-eqb, ne_eqb, lt-ltb, le-ltb, ltb-true, le-leb, lt-leb}
use Rattle.yard.specs.Words.{tally, count, keep, place}
use Rattle.yard.specs.Replay.{bit}
use Rattle.yard.specs.Answers.{ruled}
use Rattle.yard.proofs.general.Numbers.{compared}
use Rattle.yard.proofs.general.Lists.{count-keep}
use Rattle.yard.proofs.general.Order.{before, before-left, before-right, before-across, before-keep}
use Rattle.yard.proofs.yards.Codes.{low-suc, low-zero}
use Rattle.yard.proofs.yards.Replay.{sorted, sorted-count}

-- x stands before y: the smaller number first, and where they are equal as the tie says
abbrev pub ahead : ℕ → ℕ → Bool → Bool
ahead x y tie = cond (eqb x y) tie (ltb x y)

pub ahead-lt : (x y : ℕ) (tie : Bool) → x < y → ahead x y tie ≡ true
ahead-lt x y tie m = ap (λ (b : Bool). cond b tie (ltb x y)) (ne_eqb x y (λ e. omega arith)) ∙ lt-ltb x y m

pub ahead-gt : (x y : ℕ) (tie : Bool) → y < x → ahead x y tie ≡ false
ahead-gt x y tie m = ap (λ (b : Bool). cond b tie (ltb x y)) (ne_eqb x y (λ e. omega arith)) ∙ le-ltb x y (omega arith)

pub ahead-eq : (x y : ℕ) (tie : Bool) → x ≡ y → ahead x y tie ≡ tie
ahead-eq x y tie e = ap (λ (b : Bool). cond b tie (ltb x y)) (eq-eqb x y e)

-- numbers that compare alike stand alike
pub ahead-alike : (x y u v : ℕ) (tie : Bool) → (x < y → u < v) → (x ≡ y → u ≡ v) → (y < x → v < u) → ahead x y tie ≡ ahead u v tie
ahead-alike x y u v tie lt eq gt =
    compared (ahead x y tie ≡ ahead u v tie) x y
    (λ m. ahead-lt x y tie m ∙ sym (ahead-lt u v tie (lt m)))
    (λ m. ahead-eq x y tie m ∙ sym (ahead-eq u v tie (eq m)))
    (λ m. ahead-gt x y tie m ∙ sym (ahead-gt u v tie (gt m)))

module _ (code : ℕ → ℕ) (inbound : List ℕ) (a b : ℕ) (differ : a ≡ b → ⊥) (ma : 0 < count a inbound) (mb : 0 < count b inbound) where
  pub sorted_before : (s : ℕ) → before a b (sorted code inbound s) ≡ ahead (code a % 2 ^ s) (code b % 2 ^ s) (before a b inbound)
  sorted_before zero = sym (ahead-eq (code a % 2 ^ 0) (code b % 2 ^ 0) (before a b inbound) (low-zero (code a) ∙ sym (low-zero (code b))))
  sorted_before (suc s) = go (bit s (code a)) (bit s (code b)) refl refl (sorted_before s)
    where
      u : List ℕ
      u = keep (λ c. not (bit s (code c))) (sorted code inbound s)

      v : List ℕ
      v = keep (λ c. bit s (code c)) (sorted code inbound s)

      low : (c : ℕ) (k : Bool) → bit s (code c) ≡ k → code c % 2 ^ suc s ≡ tally k * 2 ^ s + code c % 2 ^ s
      low c k e = low-suc s (code c) ∙ ap (λ (d : Bool). tally d * 2 ^ s + code c % 2 ^ s) e

      in-u : (c : ℕ) → 0 < count c inbound → bit s (code c) ≡ false → 0 < count c u
      in-u c m e =
          omega (
            arith,
            count-keep c (λ c. not (bit s (code c))) (sorted code inbound s),
            ap (λ (d : Bool). cond (not d) (count c (sorted code inbound s)) 0) e,
            sorted-count code inbound s c,
          )

      not-u : (c : ℕ) → bit s (code c) ≡ true → count c u ≡ 0
      not-u c e = count-keep c (λ c. not (bit s (code c))) (sorted code inbound s) ∙ ap (λ (d : Bool). cond (not d) (count c (sorted code inbound s)) 0) e

      shifted : (k : Bool) → bit s (code a) ≡ k → bit s (code b) ≡ k
          → ahead (code a % 2 ^ s) (code b % 2 ^ s) (before a b inbound) ≡ ahead (code a % 2 ^ suc s) (code b % 2 ^ suc s) (before a b inbound)
      shifted k e f =
          ahead-alike (code a % 2 ^ s) (code b % 2 ^ s) (code a % 2 ^ suc s) (code b % 2 ^ suc s) (before a b inbound)
          (λ m. omega (arith, low a k e, low b k f))
          (λ m. omega (arith, low a k e, low b k f))
          (λ m. omega (arith, low a k e, low b k f))

      go :
          (p q : Bool) → bit s (code a) ≡ p → bit s (code b) ≡ q →
          before a b (sorted code inbound s) ≡ ahead (code a % 2 ^ s) (code b % 2 ^ s) (before a b inbound) →
          before a b (u ++ v) ≡ ahead (code a % 2 ^ suc s) (code b % 2 ^ suc s) (before a b inbound)
      go false false e f r =
          before-left a b u v (in-u a ma e) (in-u b mb f) ∙
          (before-keep (λ c. not (bit s (code c))) a b (sorted code inbound s) (ap not e) (ap not f) ∙
          (r ∙ shifted false e f))
      go true true e f r =
          before-right a b u v (not-u a e) (not-u b f) ∙
          (before-keep (λ c. bit s (code c)) a b (sorted code inbound s) e f ∙
          (r ∙ shifted true e f))
      go false true e f r =
          before-across a b u v (in-u a ma e) (not-u b f) ∙
          sym (ahead-lt (code a % 2 ^ suc s) (code b % 2 ^ suc s) (before a b inbound)
          (omega (arith, low a false e, low b true f, mod-lt (code a) (pow_pos s))))
      go true false e f r =
          le-ltb (place a (u ++ v)) (place b (u ++ v))
          (le_of_lt (ltb-true (place b (u ++ v)) (place a (u ++ v)) (before-across b a u v (in-u b mb f) (not-u a e)))) ∙
          sym (ahead-gt (code a % 2 ^ suc s) (code b % 2 ^ suc s) (before a b inbound)
          (omega (arith, low a true e, low b false f, mod-lt (code b) (pow_pos s))))

-- the rule for a pair says just that: code not smaller, and greater where the pair is a break
pub ruled-ahead : (x y : ℕ) (tie : Bool) → ahead x y tie ≡ ruled x y (not tie)
ruled-ahead x y true =
    compared (ahead x y true ≡ leb x y) x y
    (λ m. ahead-lt x y true m ∙ sym (le-leb x y (omega arith)))
    (λ m. ahead-eq x y true m ∙ sym (le-leb x y (omega arith)))
    (λ m. ahead-gt x y true m ∙ sym (lt-leb x y m))
ruled-ahead x y false =
    compared (ahead x y false ≡ ltb x y) x y
    (λ m. ahead-lt x y false m ∙ sym (lt-ltb x y m))
    (λ m. ahead-eq x y false m ∙ sym (le-ltb x y (omega arith)))
    (λ m. ahead-gt x y false m ∙ sym (le-ltb x y (omega arith)))
