-- The gap rule of a code in two parts, the low bits and those above: its widest gap is within one part, or between them.
use mathlib.Core.Path.{◌≡◌, refl, sym, ap, ap₂, subst, ◌∙◌}
use mathlib.Core.Bool.{Bool, true, false, cond}
use mathlib.Core.List.{List}
use Prim.Native.Nat.{ℕ, zero, suc, ◌+◌, ◌*◌, ◌-◌, ◌/◌, ◌%◌, ◌^◌, max, ◌≤◌, ◌<◌}
use native.Mathlib.Nat.{le_refl, add_comm, le-div_iff_mul-le, mod-lt, add-zero, add-suc, two-pow-succ, div-one, div-add-mod'}
use native.Mathlib.Numerals.{add-one, one-add}
use native.Mathlib.Omega.{arith}
use lib.Dec.{eqb, lit<}
use lib.Count.{count_leading_zeros, count_trailing_zeros, under, leading_unique}
use lib.ListN.{get_or}
use lib.Pow.{pow_pos, shr-shr, shr_lt, field, mod-mod-pow}
use Rattle.yard.specs.Limits.{limits, first_limits}
use Rattle.yard.specs.Words.{tally}
use Rattle.yard.specs.Replay.{bit}
use Rattle.yard.specs.Codes.{fewest_tracks}
use Rattle.yard.proofs.yards.Codes.{low-suc, low-zero}
use Rattle.codes.specs.Gap.{height, widest_gap, gaps}
use Rattle.codes.proofs.Gap.{fewest-gap, told}

-- ---- one bit more

module _ (h x : ℕ) {b : Bool} (is : bit h x ≡ b) where
  height-suc : height (suc h) x ≡ cond b (suc h) (height h x)
  height-suc = ap (λ (c : Bool). cond c (suc h) (height h x)) is

  gap-suc : widest_gap (suc h) x ≡ cond b (max (widest_gap h x) (suc h - height h x)) (widest_gap h x)
  gap-suc = ap (λ (c : Bool). cond c (max (widest_gap h x) (suc h - height h x)) (widest_gap h x)) is

-- ---- the zeros at either end

-- the low bits have as many digits as their height tells
height-length : (h x : ℕ) → (height h x ≤ h) × (x % 2 ^ h < 2 ^ height h x) × (2 ^ height h x ≤ 2 * (x % 2 ^ h) + 1)
height-length zero x = omega (arith, low-zero x)
height-length (suc h) x = go (bit h x) refl (height-length h x)
  where
    low-one : {b : Bool} → bit h x ≡ b → x % 2 ^ suc h ≡ tally b * 2 ^ h + x % 2 ^ h
    low-one e = low-suc h x ∙ ap (λ (b : Bool). tally b * 2 ^ h + x % 2 ^ h) e

    go : (b : Bool) → bit h x ≡ b → (height h x ≤ h) × (x % 2 ^ h < 2 ^ height h x) × (2 ^ height h x ≤ 2 * (x % 2 ^ h) + 1)
        → (height (suc h) x ≤ suc h) × (x % 2 ^ suc h < 2 ^ height (suc h) x) × (2 ^ height (suc h) x ≤ 2 * (x % 2 ^ suc h) + 1)
    go true e lower =
        rw (height-suc h x e)
        (omega (arith, low-one e, two-pow-succ h, mod-lt x (pow_pos h)))
    go false e lower = rw (height-suc h x e) (omega (arith, low-one e))

pub zeros-above : (h x : ℕ) → count_leading_zeros h (x % 2 ^ h) ≡ h - height h x
zeros-above h x =
    let long = height-length h x in
    sym (leading_unique h (x % 2 ^ h) (h - height h x) (height h x) (omega (arith, long.0)) long.1 long.2)

-- bit k above the low h bits is bit k of the part above
bit-over : (h x k : ℕ) → bit (h + k) x ≡ bit k (x / 2 ^ h)
bit-over h x k = ap (λ (q : ℕ). eqb (q % 2) 1) (sym (shr-shr x h k))

-- the lowest set bit of a number is this one
pub record Lowest (t y : ℕ) : Type 0 where
  pub set : bit t y ≡ true
  pub none : (j : ℕ) → j < t → bit j y ≡ false

zeros-below : (k y : ℕ) → 0 < y → y < 2 ^ k → (count_trailing_zeros k y < k) × Lowest (count_trailing_zeros k y) y
unfolding count_trailing_zeros
zeros-below zero y some m = absurd (omega arith)
zeros-below (suc k) y some m = go (y % 2) refl (mod-lt y (lit< tt)) (λ half. zeros-below k (y / 2) half small)
  where
    small : y / 2 < 2 ^ k
    small = shr_lt k 1 (omega (arith, ap (λ (j : ℕ). 2 ^ j) (add-one k)))

    -- bit j + 1 of a number is bit j of its half
    later : (j : ℕ) → bit (suc j) y ≡ bit j (y / 2)
    later j = ap (λ (i : ℕ). bit i y) (sym (one-add j)) ∙ bit-over 1 y j

    first : {d : ℕ} → y % 2 ≡ d → bit 0 y ≡ eqb d 1
    first e = ap (λ (q : ℕ). eqb (q % 2) 1) (div-one y) ∙ ap (λ (d : ℕ). eqb d 1) e

    free : y % 2 ≡ 0 → (t : ℕ) → ((j : ℕ) → j < t → bit j (y / 2) ≡ false) → (j : ℕ) → j < suc t → bit j y ≡ false
    free e t none zero l = first e
    free e t none (suc j) l = later j ∙ none j (omega arith)

    go : (d : ℕ) → y % 2 ≡ d → d < 2 → (0 < y / 2 → (count_trailing_zeros k (y / 2) < k) × Lowest (count_trailing_zeros k (y / 2)) (y / 2))
        → (under (y % 2) (count_trailing_zeros k (y / 2)) < suc k) × Lowest (under (y % 2) (count_trailing_zeros k (y / 2))) y
    go zero e b rest =
        let half = rest (omega (arith, div-add-mod' y 2)) in
        rw e (
          omega (arith, half.0),
          record {
            set = later (count_trailing_zeros k (y / 2)) ∙ half.1.set;
            none = free e (count_trailing_zeros k (y / 2)) half.1.none;
          },
        )
    go (suc zero) e b rest = rw e (omega arith, record { set = first e; none = λ j l. absurd (omega arith) })
    go (suc (suc d)) e b rest = absurd (omega arith)

-- ---- both parts

max-first : (a b h t : ℕ) → b ≤ h → max a (suc (h + t) - b) ≡ max (max a (suc t)) (h - b + t + 1)
max-first a b h t l = omega arith

max-one : (t : ℕ) → max 1 (suc t - 0) ≡ suc t
max-one t = omega arith

max-next : (a b c h i k : ℕ) → max (max (max a b) c) (suc (h + k) - (h + i)) ≡ max (max a (max b (suc k - i))) c
max-next a b c h i k =
    let same : suc (h + k) - (h + i) ≡ suc k - i = omega arith in
    rw same (max-apart (suc k - i))
  where
    max-apart : (d : ℕ) → max (max (max a b) c) d ≡ max (max a (max b d)) c
    max-apart d = omega arith

module _ (h x t : ℕ) (lowest : Lowest t (x / 2 ^ h)) where
  abbrev y : ℕ
  y = x / 2 ^ h

  -- up to the lowest set bit above the low part nothing is added
  below : (j : ℕ) → j ≤ t → (height (h + j) x ≡ height h x) × (widest_gap (h + j) x ≡ widest_gap h x) × (height j y ≡ 0) × (widest_gap j y ≡ 1)
  below zero l = (ap (λ (k : ℕ). height k x) (add-zero h), ap (λ (k : ℕ). widest_gap k x) (add-zero h), refl, refl)
  below (suc j) l =
      let lower = below j (omega arith) in
      let free = lowest.none j l in
      let over = bit-over h x j ∙ free in (
        ap (λ (k : ℕ). height k x) (add-suc h j) ∙ (height-suc (h + j) x over ∙ lower.0),
        ap (λ (k : ℕ). widest_gap k x) (add-suc h j) ∙ (gap-suc (h + j) x over ∙ lower.1),
        height-suc j y free ∙ lower.2,
        gap-suc j y free ∙ lower.3,
      )

  -- the first k bits above the low part, the lowest set one among them
  record Joins (k : ℕ) : Type 0 where
    high : height (h + k) x ≡ h + height k y
    widest : widest_gap (h + k) x ≡ max (max (widest_gap h x) (widest_gap k y)) (h - height h x + t + 1)

  joins-first : Joins (suc t)
  joins-first =
      let lower = below t (le_refl t) in
      let over = bit-over h x t ∙ lowest.set in
      let here : widest_gap (suc t) y ≡ suc t = gap-suc t y lowest.set ∙ rw (lower.2, lower.3) (max-one t) in
      record {
        high = ap (λ (k : ℕ). height k x) (add-suc h t) ∙ (height-suc (h + t) x over ∙ omega (arith, height-suc t y lowest.set));
        widest =
            ap (λ (k : ℕ). widest_gap k x) (add-suc h t) ∙
            (gap-suc (h + t) x over ∙
            rw (lower.0, lower.1, here) (max-first (widest_gap h x) (height h x) h t (height-length h x).0));
      }

  joins-next : (k : ℕ) → Joins k → Joins (suc k)
  joins-next k lower = go (bit k y) refl
    where
      go : (b : Bool) → bit k y ≡ b → Joins (suc k)
      go true e =
          let over = bit-over h x k ∙ e in
          record {
            high = ap (λ (k : ℕ). height k x) (add-suc h k) ∙ (height-suc (h + k) x over ∙ omega (arith, height-suc k y e));
            widest =
                ap (λ (k : ℕ). widest_gap k x) (add-suc h k) ∙
                (gap-suc (h + k) x over ∙
                (rw (lower.high, lower.widest) (max-next (widest_gap h x) (widest_gap k y) (h - height h x + t + 1) h (height k y) k) ∙
                ap (λ (g : ℕ). max (max (widest_gap h x) g) (h - height h x + t + 1)) (sym (gap-suc k y e))));
          }
      go false e =
          let over = bit-over h x k ∙ e in
          record {
            high = ap (λ (k : ℕ). height k x) (add-suc h k) ∙ (height-suc (h + k) x over ∙ omega (arith, lower.high, height-suc k y e));
            widest =
                ap (λ (k : ℕ). widest_gap k x) (add-suc h k) ∙
                (gap-suc (h + k) x over ∙ omega (arith, lower.widest, gap-suc k y e));
          }

  joins : (d : ℕ) → Joins (suc t + d)
  joins zero = subst Joins (sym (add-zero (suc t))) joins-first
  joins (suc d) = subst Joins (sym (add-suc (suc t) d)) (joins-next (suc t + d) (joins d))

-- ---- the rule by the parts alone

-- the rule asks nothing but the bits
gap_same : (h x z : ℕ) → ((k : ℕ) → k < h → bit k x ≡ bit k z) → (height h x ≡ height h z) × (widest_gap h x ≡ widest_gap h z)
gap_same zero x z same = (refl, refl)
gap_same (suc h) x z same =
    let lower = gap_same h x z (λ k l. same k (omega arith)) in
    let top = same h (omega arith) in (
      height-suc h x top ∙ ap (λ (i : ℕ). cond (bit h z) (suc h) i) lower.0,
      gap-suc h x top ∙ ap₂ (λ (g i : ℕ). cond (bit h z) (max g (suc h - i)) g) lower.1 lower.0,
    )

bit-low : (h x k : ℕ) → k < h → bit k (x % 2 ^ h) ≡ bit k x
bit-low h x k l =
    let parted : h ≡ h - suc k + 1 + k = omega arith in
    ap (λ (q : ℕ). eqb (q % 2) 1) (ap (λ (n : ℕ). x % 2 ^ n / 2 ^ k) parted ∙ field x (h - suc k + 1) k) ∙
    ap (λ (d : ℕ). eqb d 1) (mod-mod-pow (x / 2 ^ k) (h - suc k) 1)

pub gap-joined : (h g x : ℕ) → 2 ^ h ≤ x → x < 2 ^ (h + g) → widest_gap (h + g) x
    ≡ max (max (widest_gap h (x % 2 ^ h)) (widest_gap g (x / 2 ^ h))) (count_leading_zeros h (x % 2 ^ h) + count_trailing_zeros g (x / 2 ^ h) + 1)
gap-joined h g x from m =
    let y : ℕ = x / 2 ^ h in
    let above : y < 2 ^ g = shr_lt g h (omega (arith, ap (λ (n : ℕ). 2 ^ n) (add_comm h g))) in
    let some : 0 < y = (le-div_iff_mul-le (pow_pos h)).1 (omega arith) in
    let low = zeros-below g y some above in
    let t : ℕ = count_trailing_zeros g y in
    let whole : suc t + (g - suc t) ≡ g = omega (arith, low.0) in
    rw (zeros-above h x, (gap_same h (x % 2 ^ h) x (bit-low h x)).1) (rw whole at (joins h x t low.1 (g - suc t))).widest

-- ---- a code above the table's, by the entries of its two bytes

module _ (table : List ℕ) (is : table ≡ gaps first_limits.steps) (code : ℕ) (from : 2 ^ first_limits.steps ≤ code) (m : code < 2 ^ limits.steps) where
  pub low_byte : code % 2 ^ first_limits.steps < 2 ^ first_limits.steps
  low_byte = mod-lt code (pow_pos first_limits.steps)

  pub high_byte : code / 2 ^ first_limits.steps < 2 ^ first_limits.steps
  high_byte = shr_lt first_limits.steps first_limits.steps m

  pub worked-out : max (max (get_or table (code % 2 ^ first_limits.steps) 0) (get_or table (code / 2 ^ first_limits.steps) 0))
      (count_leading_zeros first_limits.steps (code % 2 ^ first_limits.steps) + count_trailing_zeros first_limits.steps (code / 2 ^ first_limits.steps) + 1)
      ≡ fewest_tracks limits.steps code
  worked-out =
      rw (told table is (code % 2 ^ first_limits.steps) low_byte, told table is (code / 2 ^ first_limits.steps) high_byte)
      (sym (fewest-gap limits.steps code (omega arith) ∙ gap-joined first_limits.steps first_limits.steps code from m))
