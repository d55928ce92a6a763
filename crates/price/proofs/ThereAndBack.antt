-- The way to whole sixteenths and back: where it starts at a timing it ends there, and it ends nowhere else.
use Rattle.std.proofs.Common.{◌≡◌, ℕ, ◌+◌, ◌*◌, ◌/◌, ◌^◌, ◌<◌, ◌≤◌, true, false, cond, not, T, pos, sym, refl, ap, ◌∙◌, subst, true≢false, zero-le, lt_of_lt_of_le, lt_of_le_of_lt, le_of_lt, div-lt_iff_lt-mul, arith, lit<, lit≤, le→leb, lt→ltb, ltb-true, lt-ltb}
use mathlib.Core.Path.{subst⁻¹}
use mathlib.Core.Bool.{false≢true}
use lib.Ieee.{Float, nan, inf, fin, binary64, up, down, lt, mul, fits, is_nan, of_int, of_bits, to_bits, to_unsigned, in_float}
use lib.Ieee.Fits.{down_pos}
use lib.Ieee.Exact.{HasValue}
use lib.Ieee.Back.{round_whole, unsigned_back}
use lib.Ieee.Bits.{of_bits-to_bits}
use Rattle.yard.specs.Price.{seconds, sixteenths, timing}
use Rattle.yard.proofs.prices.Price.{seconds-value, sixteen, sixteen-times, seconds-fits, seconds-worth, seconds-timing, timing-seconds, timing-most}
use Rattle.yard.proofs.general.Bools.{not_so}
use Rattle.yard.proofs.prices.PriceDoubles.{lt-values, value-number}

abbrev pub scaled : Float → Float
scaled x = mul binary64 x sixteen

-- what the two tests before the cut say: above -1, and below 65,537
pub record Between (y : Float) : Type 0 where
  pub low : lt (fin true 1 (pos 0)) y ≡ true
  pub high : lt y (fin false 65537 (pos 0)) ≡ true

pub between-cut : (y : Float) → Between y → T (lt y (fin false 1 (pos 64))) × (to_unsigned 64 y ≤ 65536)
unfolding lt to_unsigned
between-cut nan b = absurd (false≢true b.low)
between-cut (inf true) b = absurd (false≢true b.low)
between-cut (inf false) b = absurd (false≢true b.high)
between-cut (fin true m e) b = (lt→ltb 0 (m * up e * 1 + 2 ^ 64 * down e) (omega (arith, down_pos e)), zero-le)
between-cut (fin false m e) b =
    let under : m * up e * 1 < 65537 * down e = ltb-true (m * up e * 1) (65537 * down e) b.high in
    let cut : m * up e / down e < 65537 = (div-lt_iff_lt-mul (down_pos e)).1 (omega arith) in
    (lt→ltb (m * up e * 1) (2 ^ 64 * down e) (omega arith), omega arith)

pub between-few : (y : Float) → Between y → to_unsigned 64 y < 2 ^ 53
between-few y b = lt_of_le_of_lt (between-cut y b).1 (lit< tt)

-- the two tests before the cut
pub between : (x : Float) → lt (fin true 1 (pos 0)) (scaled x) ≡ true → lt (scaled x) (fin false 65537 (pos 0)) ≡ true → Between (scaled x)
between x low high = record { low = low; high = high }

pub few-cut : {k : ℕ} (x : Float) → k ≡ to_unsigned 64 (scaled x) → Between (scaled x) → k < 2 ^ 53
few-cut x cut b = subst⁻¹ (λ (k : ℕ). k < 2 ^ 53) cut (between-few (scaled x) b)

pub seconds-number : {y : Float} (k : ℕ) → y ≡ seconds k → k < 2 ^ 53 → T (not (is_nan y))
seconds-number k worth few = subst⁻¹ (λ (y : Float). T (not (is_nan y))) worth (value-number (seconds k) false k 16 (seconds-value k few))

pub scaled-number : (x : Float) → Between (scaled x) → T (not (is_nan x))
unfolding lt mul is_nan
scaled-number nan b = absurd (false≢true b.low)
scaled-number (inf s) b = tt
scaled-number (fin s m e) b = tt

-- a double that is not negative is above -1
above : (y : Float) (a c : ℕ) → HasValue y false a c → lt (fin true 1 (pos 0)) y ≡ true
unfolding lt
above nan a c v = elim v [ ]
above (inf _) a c v = elim v [ ]
above (fin true m e) a c v = absurd (true≢false v.0)
above (fin false m e) a c v = lt-ltb 0 (1 * down e + m * up e * 1) (omega (arith, down_pos e))

module _ (x : Float) (fit : T (fits binary64 x)) where
  -- a timing passes the tests, and its sixteenths are what the cut leaves
  module _ (t : timing x ≡ true) where
    few : sixteenths x < 2 ^ 53
    few = lt_of_le_of_lt (timing-most x t) (lit< tt)

    scaled-is : scaled x ≡ of_int binary64 (pos (sixteenths x))
    scaled-is = ap scaled (timing-seconds x fit t) ∙ sixteen-times (sixteenths x) few

    whole : HasValue (of_int binary64 (pos (sixteenths x))) false (sixteenths x) 1
    unfolding of_int
    whole = round_whole binary64 false (sixteenths x) (le_of_lt few)

    pub timing-between : Between (scaled x)
    timing-between =
        rw scaled-is
        (record {
          low = above (of_int binary64 (pos (sixteenths x))) (sixteenths x) 1 whole;
          high =
              lt-values (of_int binary64 (pos (sixteenths x))) (fin false 65537 (pos 0)) (sixteenths x) 65537 1 (lit< tt) whole (refl, refl)
              ∙ lt-ltb (sixteenths x) 65537 (lt_of_le_of_lt (timing-most x t) (lit< tt));
        })

    pub timing-cut : to_unsigned 64 (scaled x) ≡ sixteenths x
    unfolding in_float
    timing-cut = ap (to_unsigned 64) scaled-is ∙
        (unsigned_back binary64 64 (sixteenths x) (le→leb (sixteenths x) (2 ^ 53) (le_of_lt few)) (lt_of_lt_of_le few (lit≤ tt))).1

  -- what the way ends in: k sixteenths, and the double y that they are worth
  module _ {A : Type 0} (sixteenths_as : ℕ → A) (not_allowed : A) where
    pub declined : (timing x ≡ true → ⊥) → not_allowed ≡ cond (timing x) (sixteenths_as (sixteenths x)) not_allowed
    declined h = rw (not_so (timing x) h)

    module _ (k : ℕ) (y : Float) (cut : k ≡ to_unsigned 64 (scaled x)) (worth : y ≡ seconds k) where
      pub accepted : Between (scaled x) → to_bits binary64 y ≡ to_bits binary64 x → sixteenths_as k ≡ cond (timing x) (sixteenths_as (sixteenths x)) not_allowed
      accepted b e =
          let most : k ≤ 65536 = subst⁻¹ (λ (n : ℕ). n ≤ 65536) cut (between-cut (scaled x) b).1 in
          let small : k < 2 ^ 53 = lt_of_le_of_lt most (lit< tt) in
          let same : seconds k ≡ x = sym (of_bits-to_bits binary64 (seconds k) (seconds-fits k)) ∙
          ap (of_bits binary64) (ap (to_bits binary64) (sym worth) ∙ e) ∙ of_bits-to_bits binary64 x fit in
          sym
          (subst (λ (z : Float). cond (timing z) (sixteenths_as (sixteenths z)) not_allowed ≡ sixteenths_as k) same
          (rw (seconds-timing k most, seconds-worth k small)))

      pub unlike-bits : (to_bits binary64 y ≡ to_bits binary64 x → ⊥) → not_allowed ≡ cond (timing x) (sixteenths_as (sixteenths x)) not_allowed
      unlike-bits h = declined (λ t. h (ap (to_bits binary64) (worth ∙ ap seconds (cut ∙ timing-cut t) ∙ sym (timing-seconds x fit t))))
