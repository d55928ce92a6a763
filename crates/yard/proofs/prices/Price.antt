-- The laws of the price of a night: what a timing is, that the price is exact, how prices compare, and when which answer is given.
use Prim.Native.Nat.{ℕ, ◌+◌, ◌*◌, ◌/◌, ◌%◌, ◌^◌, ◌≤◌, ◌<◌}
use native.Mathlib.Nat.{lt_of_le_of_lt, lt_of_lt_of_le, le_of_lt, mul_assoc, mul-one, mul-le-mul_left, mul-div_cancel, mul-mod_left, div-add-mod', add-zero}
use native.Mathlib.Omega.{arith}
use mathlib.Core.Path.{◌≡◌, refl, sym, ap, ◌∙◌}
use mathlib.Core.Logic.{◌↔◌, inl, inr}
use mathlib.Core.Bool.{Bool, true, false, cond, true≢false, false≢true}
use lib.Dec.{T, leb, ltb, eqb, lit<, lit≤}
use lib.IntN.{pos, negsuc}
use lib.Pow.{shl_lt}
use lib.Ieee.{Float, nan, inf, fin, binary64, up, down, mul, lt, eq, le, fits, of_int}
use lib.Ieee.Fits.{round-fits, down_pos}
use lib.Ieee.Exact.{HasValue, round_exact}
use lib.Ieee.Back.{round_whole}
use lib.Ieee.Scale.{round_same}
use borrow.Author.Tests.{leb-true, eqb-true, le-leb, eq-eqb, ne_eqb}
use Rattle.yard.specs.declared.Timings.{Timings}
use Rattle.yard.specs.declared.PriceAnswer.{PriceAnswer}
use Rattle.yard.specs.declared.Limits.{Limits}
use Rattle.yard.specs.Limits.{limits}
use Rattle.yard.specs.declared.Answer.{Answer}
use Rattle.yard.specs.Answers.{says, verdict, answers, AllHold, FirstFails}
use Rattle.yard.specs.Price.{seconds, positive_zero, sixteenths, timing, timing_ask, price_asks, Priceable, price_worth, priced, price_answer, Prices}
use Rattle.yard.proofs.general.Bools.{clash, and_left, and_right, and_both}
use Rattle.yard.proofs.calls.Verdict.{verdict-done}
use Rattle.yard.proofs.calls.Asks.{Right, Sound, plain-right, accepted-exactly, refused-exactly}
use Rattle.yard.proofs.calls.Rights.{count-right}
use Rattle.yard.proofs.prices.PriceDoubles.{Compares, value-unique, mul-values, lt-values, eq-values, le-values}

-- ---- The double worth k sixteenths, for a k below 2^53.
abbrev pub sixteen : Float
sixteen = fin false 1 (pos 4)

abbrev pub sixteenth : Float
sixteenth = fin false 1 (negsuc 3)

pub seconds-fits : (k : ℕ) → T (fits binary64 (seconds k))
unfolding seconds
seconds-fits k = round-fits binary64 false k 16

module _ (k : ℕ) (small : k < 2 ^ 53) where
  pub seconds-value : HasValue (seconds k) false k 16
  unfolding seconds
  seconds-value =
      round_exact binary64 false k 16 k 1070 (lit< tt) small (lt_of_lt_of_le (shl_lt 53 1070 small) (lit≤ tt)) (sym (mul_assoc k (2 ^ 1070) 16))

  pub sixteen-times : mul binary64 (seconds k) sixteen ≡ of_int binary64 (pos k)
  unfolding of_int
  sixteen-times =
      mul-values binary64 (seconds k) sixteen k 16 16 1 (lit< tt) (lit< tt) seconds-value (refl, refl)
      ∙ round_same binary64 false (k * 16) 16 k 1 (lit< tt) (lit< tt) (mul-one (k * 16))

  pub one-sixteenth : mul binary64 (of_int binary64 (pos k)) sixteenth ≡ seconds k
  unfolding of_int seconds
  one-sixteenth =
      mul-values binary64 (of_int binary64 (pos k)) sixteenth k 1 1 16 (lit< tt) (lit< tt) (round_whole binary64 false k (le_of_lt small)) (refl, refl)
      ∙ round_same binary64 false (k * 1) 16 k 16 (lit< tt) (lit< tt) (ap (λ (n : ℕ). n * 16) (mul-one k))

-- ---- A double is a timing exactly if it is the double worth k sixteenths for some k up to 65,536.
pub value-worth : (x : Float) (k : ℕ) → HasValue x false k 16 → sixteenths x ≡ k
value-worth nan k v = elim v [ ]
value-worth (inf _) k v = elim v [ ]
value-worth (fin s m e) k v = ap (λ (n : ℕ). n / down e) v.1 ∙ mul-div_cancel k (down_pos e)

pub value-timing : (x : Float) (k : ℕ) → HasValue x false k 16 → k ≤ 4096 * 16 → timing x ≡ true
value-timing nan k v h = elim v [ ]
value-timing (inf _) k v h = elim v [ ]
value-timing (fin true m e) k v h = absurd (true≢false v.0)
value-timing (fin false m e) k v h =
    and_both
    (eq-eqb (m * up e * 16 % down e) 0 (ap (λ (n : ℕ). n % down e) v.1 ∙ mul-mod_left k (down e)))
    (rw (value-worth (fin false m e) k v) (le-leb k (4096 * 16) h))

pub timing-value : (x : Float) → timing x ≡ true → HasValue x false (sixteenths x) 16
timing-value nan t = absurd (false≢true t)
timing-value (inf s) t = absurd (false≢true t)
timing-value (fin true m e) t = absurd (false≢true t)
timing-value (fin false m e) t =
    let n = m * up e * 16 in
    let whole : n % down e ≡ 0 = eqb-true (n % down e) 0 (and_left (eqb (n % down e) 0) (leb (n / down e) (4096 * 16)) t) in
    (refl, sym (div-add-mod' n (down e)) ∙ ap (λ (r : ℕ). n / down e * down e + r) whole ∙ add-zero (n / down e * down e))

pub timing-most : (x : Float) → timing x ≡ true → sixteenths x ≤ 4096 * 16
timing-most nan t = absurd (false≢true t)
timing-most (inf s) t = absurd (false≢true t)
timing-most (fin true m e) t = absurd (false≢true t)
timing-most (fin false m e) t =
    leb-true (sixteenths (fin false m e)) (4096 * 16) (and_right (eqb (m * up e * 16 % down e) 0) (leb (m * up e * 16 / down e) (4096 * 16)) t)

-- a timing has few enough sixteenths for the laws above
few : {k : ℕ} → k ≤ 4096 * 16 → k < 2 ^ 53
few h = lt_of_le_of_lt h (lit< tt)

pub timing-seconds : (x : Float) → T (fits binary64 x) → timing x ≡ true → x ≡ seconds (sixteenths x)
timing-seconds x f t =
    value-unique binary64 x (seconds (sixteenths x)) false (sixteenths x) 16 (lit< tt) f (seconds-fits (sixteenths x))
    (timing-value x t) (seconds-value (sixteenths x) (few (timing-most x t)))

pub seconds-timing : (k : ℕ) → k ≤ 4096 * 16 → timing (seconds k) ≡ true
seconds-timing k h = value-timing (seconds k) k (seconds-value k (few h)) h

pub timing-exactly : (x : Float) → T (fits binary64 x) → timing x ≡ true ↔ (k : ℕ) × (k ≤ 4096 * 16) × (x ≡ seconds k)
timing-exactly x f = (λ t. (sixteenths x, timing-most x t, timing-seconds x f t), λ w. rw w.2 (seconds-timing w.0 w.1))

-- ---- Different sixteenths are different doubles.
pub seconds-worth : (k : ℕ) → k < 2 ^ 53 → sixteenths (seconds k) ≡ k
seconds-worth k h = value-worth (seconds k) k (seconds-value k h)

pub seconds-one : (j k : ℕ) → j < 2 ^ 53 → k < 2 ^ 53 → seconds j ≡ seconds k → j ≡ k
seconds-one j k hj hk e = sym (seconds-worth j hj) ∙ ap sixteenths e ∙ seconds-worth k hk

-- ---- What price answers, and why.
timing-right : (a : ℕ) (x : Float) → Right (timing_ask a x)
timing-right a x = plain-right 12 (timing x) a (timing x ≡ true) (λ e. e, λ e. e)

module _ (L : Limits) (steps passes : ℕ) (t : Timings) where
  price-sound : Sound (price_asks L steps passes t)
  price-sound = (
    count-right 5 0 L.steps steps,
    λ _. (count-right 7 0 L.passes passes, λ _. (timing-right 1 t.pull, λ _. (timing-right 2 t.push, λ _. tt))),
  )

  price-holds : AllHold (price_asks L steps passes t) ↔ Priceable L steps passes t
  price-holds = (
    λ (steps_in, more).
        let (passes_in, more) = more in
        let (pull_in, more) = more in
        record { steps_in = steps_in; passes_in = passes_in; pull_in = pull_in; push_in = more.0 },
    λ p. (p.steps_in, (p.passes_in, (p.pull_in, (p.push_in, tt)))),
  )

  abbrev asked : Answer
  asked = verdict (answers (price_asks L steps passes t)) (says 0 0 0)

  -- price is given exactly if its counts lie in their ranges and both timings are allowed
  pub price-accepts-exactly : (price_answer L steps passes t).number ≡ 0 ↔ Priceable L steps passes t
  unfolding price_answer
  price-accepts-exactly =
      let exactly = accepted-exactly (says 0 0 0) refl (price_asks L steps passes t) price-sound in
      (λ e. price-holds.0 (exactly.0 e), λ p. exactly.1 (price-holds.1 p))

  pub price-done : Priceable L steps passes t → price_answer L steps passes t ≡ priced (says 0 0 0) (seconds (price_worth steps passes t))
  unfolding price_answer
  price-done p =
      let done = verdict-done (answers (price_asks L steps passes t)) (says 0 0 0) (price-accepts-exactly.1 p) in
      ap (λ (r : Answer). priced r (cond (eqb r.number 0) (seconds (price_worth steps passes t)) positive_zero)) done

  -- it refuses with k, A and B, and positive zero, exactly if the first ask that does not hold has number k, and tells A and B
  pub price-refuses-exactly : (k a b : ℕ) → 0 < k
      → (price_answer L steps passes t ≡ priced (says k a b) positive_zero) ↔ FirstFails k a b (price_asks L steps passes t)
  unfolding price_answer
  price-refuses-exactly k a b some =
      let exactly = refused-exactly (says 0 0 0) refl k a b some (price_asks L steps passes t) price-sound in (
        λ e. exactly.0 (ap (λ (r : PriceAnswer). says r.number r.a r.b) e),
        λ f.
            ap (λ (r : Answer). priced r (cond (eqb r.number 0) (seconds (price_worth steps passes t)) positive_zero)) (exactly.1 f)
            ∙ ap (λ (z : Bool). priced (says k a b) (cond z (seconds (price_worth steps passes t)) positive_zero)) (ne_eqb k 0 (λ z. omega (arith, z, some))),
      )

  -- the four refusals
  pub steps_out : L.steps < steps → FirstFails 1 5 0 (price_asks L steps passes t)
  steps_out h = inl (λ w. omega (arith, h, w.1), refl, (refl, refl))

  pub passes_out : steps ≤ L.steps → L.passes < passes → FirstFails 1 7 0 (price_asks L steps passes t)
  passes_out h k = inr ((omega arith, h), inl (λ w. omega (arith, k, w.1), refl, (refl, refl)))

  pub pull_out : steps ≤ L.steps → passes ≤ L.passes → timing t.pull ≡ false → FirstFails 13 1 0 (price_asks L steps passes t)
  pull_out h k p = inr ((omega arith, h), inr ((omega arith, k), inl (λ e. clash e p, refl, (refl, refl))))

  pub push_out : steps ≤ L.steps → passes ≤ L.passes → timing t.pull ≡ true → timing t.push ≡ false → FirstFails 13 2 0 (price_asks L steps passes t)
  push_out h k p q = inr ((omega arith, h), inr ((omega arith, k), inr (p, inl (λ e. clash e q, refl, (refl, refl)))))

-- ---- A price is exact, and prices compare as their sixteenths do, at any limits of up to 2^36 steps and passes.
pub worth-small : (L : Limits) → L.steps + L.passes ≤ 2 ^ 36 → (steps passes : ℕ) (t : Timings) → Priceable L steps passes t
    → price_worth steps passes t < 2 ^ 53
worth-small L small steps passes t all =
    omega (arith, mul-le-mul_left steps (timing-most t.pull all.pull_in), mul-le-mul_left passes (timing-most t.push all.push_in))

pub limits-small : limits.steps + limits.passes ≤ 2 ^ 36
limits-small = lit≤ tt

-- a night that price does not refuse, with its price and what that is worth in sixteenths
pub record PricedNight (L : Limits) : Type 0 where
  pub steps : ℕ
  pub passes : ℕ
  pub timings : Timings
  pub all : Priceable L steps passes timings

abbrev pub price : {L : Limits} → PricedNight L → Float
price {L} n = (price_answer L n.steps n.passes n.timings).price

abbrev pub worth : {L : Limits} → PricedNight L → ℕ
worth n = price_worth n.steps n.passes n.timings

module _ (L : Limits) (small : L.steps + L.passes ≤ 2 ^ 36) where
  price-seconds : (n : PricedNight L) → price n ≡ seconds (worth n)
  price-seconds n = ap (λ (r : PriceAnswer). r.price) (price-done L n.steps n.passes n.timings n.all)

  small-worth : (n : PricedNight L) → worth n < 2 ^ 53
  small-worth n = worth-small L small n.steps n.passes n.timings n.all

  pub price-value : (n : PricedNight L) → HasValue (price n) false (worth n) 16
  price-value n = rw (price-seconds n) (seconds-value (worth n) (small-worth n))

  pub price-sixteen-times : (n : PricedNight L) → mul binary64 (price n) sixteen ≡ of_int binary64 (pos (worth n))
  price-sixteen-times n = rw (price-seconds n) (sixteen-times (worth n) (small-worth n))

  prices-as : {doubles : Float → Float → Bool} {numbers : ℕ → ℕ → Bool} → Compares doubles numbers → (n o : PricedNight L)
      → doubles (price n) (price o) ≡ numbers (worth n) (worth o)
  prices-as compares n o = compares (price n) (price o) (worth n) (worth o) 16 (lit< tt) (price-value n) (price-value o)

  pub prices-lt : (n o : PricedNight L) → lt (price n) (price o) ≡ ltb (worth n) (worth o)
  prices-lt = prices-as lt-values

  pub prices-le : (n o : PricedNight L) → le (price n) (price o) ≡ leb (worth n) (worth o)
  prices-le = prices-as le-values

  pub prices-eq : (n o : PricedNight L) → eq (price n) (price o) ≡ eqb (worth n) (worth o)
  prices-eq = prices-as eq-values

-- ---- What keeps the promise of price: a refusal with its reason, or the price; and for every input there is one answer.
module _ (steps passes : ℕ) (t : Timings) {r : PriceAnswer} where
  pub refused-prices : {k a b : ℕ} → 0 < k → r ≡ priced (says k a b) positive_zero → FirstFails k a b (price_asks limits steps passes t) → Prices steps passes t r
  refused-prices {k} {a} {b} some e f = record { answer = e ∙ sym ((price-refuses-exactly limits steps passes t k a b some).1 f) }

  pub done-prices : r ≡ priced (says 0 0 0) (seconds (price_worth steps passes t)) → Priceable limits steps passes t → Prices steps passes t r
  done-prices e p = record { answer = e ∙ sym (price-done limits steps passes t p) }

pub price-one : (steps passes : ℕ) (t : Timings) (r r' : PriceAnswer) → Prices steps passes t r → Prices steps passes t r' → r ≡ r'
price-one steps passes t r r' p q = p.answer ∙ sym q.answer
