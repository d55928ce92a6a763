-- The price of a night: timings in sixteenths of a second, the tests in document 01's order, then the exact double.
use Rattle.std.specs.Prelude.{ℕ, ◌+◌, ◌*◌, ◌/◌, ◌%◌, ◌≡◌, Bool, true, false, cond, not, ◌&&◌, List, [], ◌∷◌, leb, eqb, pos, Float}
use Rattle.std.specs.Float.{nan, inf, fin, binary64}
use Rattle.std.specs.Float.Ieee.{round, up, down}
use Rattle.yard.specs.declared.Answer.{Answer}
use Rattle.yard.specs.declared.Timings.{Timings}
use Rattle.yard.specs.declared.PriceAnswer.{PriceAnswer}
use Rattle.yard.specs.declared.Limits.{Limits}
use Rattle.yard.specs.Limits.{limits}
use Rattle.yard.specs.Demands.{Within}
use Rattle.yard.specs.Answers.{says, verdict, Ask, answers, plain, count_ask}

-- the double worth k sixteenths of a second: the one nearest to k / 16, which below 2^53 sixteenths is k / 16 itself
unfoldable pub seconds : ℕ → Float
seconds k = round binary64 false k 16

abbrev pub positive_zero : Float
positive_zero = fin false 0 (pos 0)

-- what a double, m * 2^e, is worth in whole sixteenths
abbrev pub sixteenths : Float → ℕ
sixteenths nan = 0
sixteenths (inf negative) = 0
sixteenths (fin negative m e) = m * up e * 16 / down e

-- a double is a timing: 0 to 4096 and a multiple of 1/16; not-a-number, an infinity or a negative zero is none
abbrev pub timing : Float → Bool
timing nan = false
timing (inf negative) = false
timing (fin negative m e) = not negative && eqb (m * up e * 16 % down e) 0 && leb (sixteenths (fin negative m e)) (4096 * 16)

-- 13: a timing not allowed; A says which
abbrev pub timing_ask : ℕ → Float → Ask
timing_ask a x = plain 13 (timing x) a (timing x ≡ true)

-- Price: steps, passes and the two timings of a night.
abbrev pub price_asks : Limits → ℕ → ℕ → Timings → List Ask
price_asks L steps passes t =
    count_ask 5 0 L.steps steps ∷
    count_ask 7 0 L.passes passes ∷
    timing_ask 1 t.pull ∷
    timing_ask 2 t.push ∷
    []

-- all that price asks
pub record Priceable (L : Limits) (steps passes : ℕ) (t : Timings) : Type 0 where
  pub steps_in : Within 0 L.steps steps
  pub passes_in : Within 0 L.passes passes
  pub pull_in : timing t.pull ≡ true
  pub push_in : timing t.push ≡ true

-- steps times pull plus passes times push, in sixteenths
abbrev pub price_worth : ℕ → ℕ → Timings → ℕ
price_worth steps passes t = steps * sixteenths t.pull + passes * sixteenths t.push

-- an answer with its double
abbrev pub priced : Answer → Float → PriceAnswer
priced r price = record { number = r.number; a = r.a; b = r.b; price = price }

unfoldable pub price_answer : Limits → ℕ → ℕ → Timings → PriceAnswer
price_answer L steps passes t =
    let r = verdict (answers (price_asks L steps passes t)) (says 0 0 0) in
    priced r (cond (eqb r.number 0) (seconds (price_worth steps passes t)) positive_zero)

-- what price promises
pub record Prices (steps passes : ℕ) (t : Timings) (r : PriceAnswer) : Type 0 where
  pub answer : r ≡ price_answer limits steps passes t
