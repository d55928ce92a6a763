-- The codes that a night allows: how many there are, F(h) or, where it is closed, F(h) - 1; number q of them, which is the usable
-- code number q, or number q + 1 where the night is closed; and the fewest steps that give enough of them.
use mathlib.Core.Path.{◌≡◌, refl, sym, ap, ◌∙◌, subst}
use mathlib.Core.Logic.{⊎_elim}
use mathlib.Core.Bool.{Bool, true, false, cond, not, ◌&&◌}
use mathlib.Core.List.{List, ◌∷◌}
use Prim.Native.Nat.{ℕ, zero, suc, ◌+◌, ◌-◌, ◌^◌, ◌≤◌, ◌<◌}
use native.Mathlib.Nat.{add-zero, eq-or-lt_of_le}
use native.Mathlib.Numerals.{add-one}
use native.Mathlib.Omega.{arith}
use lib.Dec.{leb, eqb}
use lib.ListN.{length, get_or, drop}
use lib.Seq.{get_or-drop}
use lib.Pow.{pow_pos}
use borrow.Author.Tests.{eq-eqb, ne_eqb, leb-true, le-leb}
use Rattle.yard.specs.Words.{tally, keep, first, up_from}
use Rattle.yard.specs.Night.{Night, night_of, most_breaks}
use Rattle.yard.specs.Codes.{usable, usable_codes, allowed, allowed_codes, code_number, F, fewest_steps}
use Rattle.yard.specs.Derived.{steps_needed}
use Rattle.yard.specs.Demands.{Least}
use Rattle.yard.proofs.general.Bools.{clash, and_both, and_left, and_right, not-true, same_test}
use Rattle.yard.proofs.general.First.{first-le, first-hit, first-least}
use Rattle.yard.proofs.general.Lists.{keep_same, up_from-bounds}
use Rattle.yard.proofs.yards.Codes.{bit-above}
use Rattle.yard.proofs.yards.Counting.{passing, length-passing, F-counts, F-above, F-rising}
use Rattle.yard.proofs.yards.Plans.{usable-gaps}

-- ---- usable codes

pub usable-count : (W h : ℕ) → 0 < W → passing (usable W h) (2 ^ h) ≡ F W h
usable-count W h pos = F-counts W pos (usable W) (λ h x. usable-gaps W h x pos) h

-- F(h) is how many codes below 2^h are usable
pub F-usable : (W h : ℕ) → 0 < W → length (usable_codes W h) ≡ F W h
unfolding usable_codes
F-usable W h pos = length-passing (usable W h) 0 (2 ^ h) ∙ usable-count W h pos

-- a car with code 0 is never pulled
zero-usable : (W h : ℕ) → 0 < W → usable W h 0 ≡ true
zero-usable W h pos =
    (usable-gaps W h 0 pos).1
    (record { lowest = λ l b set. clash set (bit-above l 0 (pow_pos l)); neighbours = λ k l b c set. clash set (bit-above k 0 (pow_pos k)) })

-- ---- allowed codes

module _ (closed : Bool) (W h : ℕ) where
  pub allowed-usable : (x : ℕ) → allowed closed W h x ≡ true → usable W h x ≡ true
  unfolding allowed
  allowed-usable x e = and_left (usable W h x) (not (closed && eqb x 0)) e

  pub allowed-some : (x : ℕ) → allowed closed W h x ≡ true → closed ≡ true → 0 < x
  unfolding allowed
  allowed-some x e shut = go x refl
    where
      barred : not (closed && eqb x 0) ≡ true
      barred = and_right (usable W h x) (not (closed && eqb x 0)) e

      go : (y : ℕ) → x ≡ y → 0 < y
      go zero z = clash (and_both shut (eq-eqb x 0 z)) (not-true (closed && eqb x 0) barred)
      go (suc y) z = omega arith

  -- a usable code is allowed unless it is 0 in a closed night
  pub usable-allowed : (x : ℕ) → (closed ≡ true → 0 < x) → usable W h x ≡ true → allowed closed W h x ≡ true
  unfolding allowed
  usable-allowed x some e = and_both e (go closed some)
    where
      go : (b : Bool) → (b ≡ true → 0 < x) → not (b && eqb x 0) ≡ true
      go true m = ap not (ne_eqb x 0 (λ z. omega (arith, m refl)))
      go false m = refl

  -- codes above 0 are allowed where they are usable
  allowed_same : (x : ℕ) → 0 < x → allowed closed W h x ≡ usable W h x
  allowed_same x some = same_test (allowed closed W h x) (usable W h x) (allowed-usable x) (usable-allowed x (λ _. some))

  -- 0 and the usable codes above it
  above : List ℕ
  above = keep (usable W h) (up_from 1 (2 ^ h - 1))

  kept-codes : (p : ℕ → Bool) → ((x : ℕ) → 0 < x → p x ≡ usable W h x) → keep p (up_from 0 (2 ^ h)) ≡ cond (p 0) (0 ∷ above) above
  unfolding above
  kept-codes p same =
      let others = up_from 1 (2 ^ h - 1) in
      let all : 2 ^ h ≡ suc (2 ^ h - 1) = omega (arith, pow_pos h) in
      ap (λ (k : ℕ). keep p (up_from 0 k)) all ∙
      ap (λ (rest : List ℕ). cond (p 0) (0 ∷ rest) rest) (keep_same p (usable W h) others (λ x m. same x (up_from-bounds x 1 (2 ^ h - 1) m).0))

  module _ (pos : 0 < W) where
    usable-is : usable_codes W h ≡ 0 ∷ above
    unfolding usable_codes
    usable-is = kept-codes (usable W h) (λ x m. refl) ∙ ap (λ (b : Bool). cond b (0 ∷ above) above) (zero-usable W h pos)

    allowed-is : allowed_codes closed W h ≡ cond closed above (0 ∷ above)
    unfolding allowed_codes allowed
    allowed-is =
        kept-codes (allowed closed W h) allowed_same ∙
        (ap (λ (b : Bool). cond (b && not (closed && true)) (0 ∷ above) above) (zero-usable W h pos) ∙ go closed)
      where
        go : (b : Bool) → cond (not (b && true)) (0 ∷ above) above ≡ cond b above (0 ∷ above)
        go true = refl
        go false = refl

    -- there are F(h) allowed codes, or F(h) - 1 where the night is closed
    counted : length (allowed_codes closed W h) + tally closed ≡ F W h
    counted = ap (λ (l : List ℕ). length l + tally closed) allowed-is ∙ (go closed ∙ (sym (ap length usable-is) ∙ F-usable W h pos))
      where
        go : (b : Bool) → length (cond b above (0 ∷ above)) + tally b ≡ length (0 ∷ above)
        go true = add-one (length above)
        go false = add-zero (length (0 ∷ above))

    pub F-allowed : length (allowed_codes closed W h) ≡ F W h - tally closed
    F-allowed = omega (arith, counted)

    pub allowed-count : passing (allowed closed W h) (2 ^ h) + tally closed ≡ F W h
    unfolding allowed_codes
    allowed-count = omega (arith, counted, length-passing (allowed closed W h) 0 (2 ^ h))

    -- the allowed codes are the usable ones, from the second on where the night is closed
    pub allowed-drop : allowed_codes closed W h ≡ drop (tally closed) (usable_codes W h)
    allowed-drop = allowed-is ∙ (go closed ∙ sym (ap (drop (tally closed)) usable-is))
      where
        go : (b : Bool) → cond b above (0 ∷ above) ≡ drop (tally b) (0 ∷ above)
        go true = refl
        go false = refl

    -- so the allowed code number q is the usable code number q, or number q + 1 where the night is closed
    pub allowed-number : (q : ℕ) → code_number closed W h q ≡ get_or (usable_codes W h) (tally closed + q) 0
    unfolding code_number
    allowed-number q = ap (λ (l : List ℕ). get_or l q 0) allowed-drop ∙ get_or-drop (tally closed) (usable_codes W h) q 0

-- ---- the fewest steps

-- the fewest steps are the least that give more usable codes than there are breaks
pub fewest-least : (W c : ℕ) → 0 < W → Least (λ h. c < F W h) (fewest_steps W c)
unfolding fewest_steps
fewest-least W c pos =
    record {
      holds =
          ⊎_elim
          (λ e. subst (λ (h : ℕ). c < F W h) (sym e) (F-above W c pos))
          (λ m. leb-true (suc c) (F W found) (first-hit enough c 0 (omega (arith, m))))
          (eq-or-lt_of_le within);
      least = λ h more. ⊎_elim (λ le. le) (λ far. omega (arith, far, within)) (first-least enough c 0 h (omega arith) (le-leb (suc c) (F W h) more));
    }
  where
    enough : ℕ → Bool
    enough h = leb (suc c) (F W h)

    found : ℕ
    found = first enough c 0

    within : found ≤ c
    within = omega (arith, first-le enough c 0)

module _ (n : Night) (pos : 0 < n.tracks) where
  -- the steps that a night needs, in document 02's words: the least h with F(h), less 1 where the night is closed, at least c + 1
  pub needed-least : Least (λ h. suc (most_breaks n.lengths n.inbound) ≤ F n.tracks h - tally n.closed) (steps_needed n)
  unfolding steps_needed
  needed-least =
      let c = most_breaks n.lengths n.inbound in
      let own = fewest-least n.tracks (c + tally n.closed) pos in
      record { holds = omega (arith, own.holds); least = λ h more. own.least h (omega (arith, more)) }

-- closed, a night needs at most one step more than open, and no step less
pub closed-one-more : (lengths inbound : List ℕ) (W C : ℕ) → 0 < W
    → let needs : Bool → ℕ = λ closed. steps_needed (night_of lengths inbound closed W C) in (needs false ≤ needs true) × (needs true ≤ suc (needs false))
unfolding steps_needed
closed-one-more lengths inbound W C pos =
    let c = most_breaks lengths inbound in
    let free = fewest-least W (c + 0) pos in
    let shut = fewest-least W (c + 1) pos in (
      free.least (fewest_steps W (c + 1)) (omega (arith, shut.holds)),
      shut.least (suc (fewest_steps W (c + 0))) (omega (arith, free.holds, F-rising W (fewest_steps W (c + 0)) pos)),
    )
