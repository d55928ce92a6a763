-- What the yard is told. A call asks one thing after the other; the first ask that is not passed refuses it, with its number and
-- details. What an ask asks, and what its details mean, stands beside it in plain words; that both readings agree is a law
-- (`Right` in proofs/calls/Asks.antt).
use Rattle.std.specs.Prelude.{ℕ, suc, ◌-◌, ◌^◌, ◌≤◌, ◌≡◌, ◌⊎◌, Bool, cond, not, ◌&&◌, ◌||◌, List, [], ◌∷◌, ◌++◌, leb, ltb, eqb, length, take, drop}
use Rattle.yard.specs.declared.Answer.{Answer}
use Rattle.yard.specs.Words.{listed, first}
use Rattle.yard.specs.Night.{Night, Plan, sum, item_of, pair, broken}
use Rattle.yard.specs.Replay.{code_of, pull_size, lowest_early, first_early, first_overfull, in_order}
use Rattle.yard.specs.Derived.{steps_needed}
use Rattle.yard.specs.Demands.{Least, Within, NoneEmpty, EachOnce, CodesBelow, KeepsClear, NeverEarly, HasRoom, BuildsTrains, Sortable}
use Rattle.yard.specs.Demands.{EmptyTrain, WideCode, ZeroCode, BadPlace, ListedAt, TakesEarly, EarlyStep, OverfullStep, BreaksRule}

-- a number and its two details
abbrev pub says : ℕ → ℕ → ℕ → Answer
says number a b = record { number = number; a = a; b = b }

abbrev pub test : Bool → Answer → Answer
test ok refusal = cond ok (says 0 0 0) refusal

abbrev pub verdict : List Answer → Answer → Answer
verdict [] done = done
verdict (t ∷ tests) done =
    let later = verdict tests done in
    cond (eqb t.number 0) later t

-- these items at the front of a buffer, and no others changed
abbrev pub onto : List ℕ → List ℕ → List ℕ
onto items buffer = items ++ drop (length items) buffer

-- a lent buffer after the call: a refused call writes nothing, an accepted one its items at the front
abbrev pub written : Answer → List ℕ → List ℕ → List ℕ
written r items buffer = cond (eqb r.number 0) (onto items buffer) buffer

-- An ask: the number of its refusal, whether it is passed, A and B where it is not; what it asks, and what A and B then mean, in
-- plain words.
pub record Ask : Type 1 where
  pub number : ℕ
  pub passed : Bool
  pub a : ℕ
  pub b : ℕ
  pub asked : Type 0
  pub told : ℕ → ℕ → Type 0

abbrev pub answered : Ask → Answer
answered q = test q.passed (says q.number q.a q.b)

abbrev pub answers : List Ask → List Answer
answers [] = []
answers (q ∷ asks) = answered q ∷ answers asks

-- all that is asked holds
abbrev pub AllHold : List Ask → Type 0
AllHold [] = Unit
AllHold (q ∷ asks) = q.asked × AllHold asks

-- the first ask that does not hold has number k, and tells a and b
abbrev pub FirstFails : ℕ → ℕ → ℕ → List Ask → Type 0
FirstFails k a b [] = ⊥
FirstFails k a b (q ∷ asks) = ((q.asked → ⊥) × (q.number ≡ k) × q.told a b) ⊎ (q.asked × FirstFails k a b asks)

-- an ask whose A is one number and nothing more; one whose A is the least such and such, and of whose B something is said for that
-- A; the same with nothing for B
abbrev pub plain : ℕ → Bool → ℕ → Type 0 → Ask
plain number passed a asked =
    record { number = number; passed = passed; a = a; b = 0; asked = asked; told = λ x y. (x ≡ a) × (y ≡ 0) }

abbrev pub least_with : ℕ → Bool → ℕ → ℕ → Type 0 → (ℕ → Type 0) → (ℕ → ℕ → Type 0) → Ask
least_with number passed a b asked P R =
    record { number = number; passed = passed; a = a; b = b; asked = asked; told = λ x y. Least P x × R x y }

abbrev pub least_of : ℕ → Bool → ℕ → Type 0 → (ℕ → Type 0) → Ask
least_of number passed a asked P = least_with number passed a 0 asked P (λ x y. y ≡ 0)

-- 1: a count out of its range; A says which
abbrev pub count_ask : ℕ → ℕ → ℕ → ℕ → Ask
count_ask a low high x = plain 1 (leb low x && leb x high) a (Within low high x)

abbrev pub count_test : ℕ → ℕ → ℕ → ℕ → Answer
count_test a low high x = answered (count_ask a low high x)

-- the first place of a list that has a number, or one past the last where none has it
abbrev pub first_with : ℕ → List ℕ → ℕ
first_with x items = first (λ k. eqb (item_of items k) x) (length items) 1

-- 2: a train of length 0, A the first such train, or lengths not adding up to n
abbrev pub empty_train : List ℕ → ℕ
empty_train lengths = first_with 0 lengths

abbrev pub train_ask : List ℕ → Ask
train_ask lengths =
    least_of 2 (ltb (length lengths) (empty_train lengths)) (empty_train lengths) (NoneEmpty lengths) (EmptyTrain lengths)

abbrev pub train_test : List ℕ → Answer
train_test lengths = answered (train_ask lengths)

abbrev pub sum_ask : List ℕ → ℕ → Ask
sum_ask lengths n = plain 2 (eqb (sum lengths) n) 0 (sum lengths ≡ n)

abbrev pub sum_test : List ℕ → ℕ → Answer
sum_test lengths n = answered (sum_ask lengths n)

-- 3: inbound list not each car once, A the first place with a number out of range or met before, B where a number met before is
-- first listed, 0 for a number out of range
abbrev pub in_range : List ℕ → ℕ → Bool
in_range inbound car = leb 1 car && leb car (length inbound)

abbrev pub bad_place : List ℕ → ℕ → Bool
bad_place inbound k =
    let car = item_of inbound k in
    not (in_range inbound car) || listed car (take (k - 1) inbound)

abbrev pub first_bad : List ℕ → ℕ
first_bad inbound = first (bad_place inbound) (length inbound) 1

abbrev pub first_listing : List ℕ → ℕ → ℕ
first_listing inbound k =
    let car = item_of inbound k in
    cond (in_range inbound car) (first_with car inbound) 0

abbrev pub inbound_ask : List ℕ → Ask
inbound_ask inbound =
    let bad = first_bad inbound in
    least_with 3 (ltb (length inbound) bad) bad (first_listing inbound bad) (EachOnce inbound) (BadPlace inbound) (ListedAt inbound)

abbrev pub inbound_test : List ℕ → Answer
inbound_test inbound = answered (inbound_ask inbound)

-- 4: a list of another length than its count, or a buffer too short; A says which
abbrev pub list_test : ℕ → Bool → Answer
list_test a ok = test ok (says 4 a 0)

abbrev pub length_ask : ℕ → ℕ → ℕ → Ask
length_ask a size n = plain 4 (eqb size n) a (size ≡ n)

abbrev pub buffer_ask : ℕ → ℕ → ℕ → Ask
buffer_ask a n size = plain 4 (leb n size) a (n ≤ size)

-- 5: the fewest steps are above the limit, A the fewest steps: the least limit that some plan keeps to
abbrev pub limit_ask : Night → ℕ → Ask
limit_ask n limit = least_of 5 (leb (steps_needed n) limit) (steps_needed n) (Sortable n limit) (Sortable n)

abbrev pub limit_test : ℕ → ℕ → Answer
limit_test needed limit = test (leb needed limit) (says 5 needed 0)

-- 6: a track overfilled, A the first such step, B its cars
abbrev pub room_ask : Plan → Ask
room_ask p =
    let full = first_overfull p in
    least_with 6 (leb p.steps full) full (pull_size p full) (HasRoom p) (OverfullStep p) (λ k cars. cars ≡ pull_size p k)

abbrev pub room_test : Plan → Answer
room_test p = answered (room_ask p)

-- 7: a code not below 2^h, A the first such car
abbrev pub wide_code : ℕ → List ℕ → ℕ
wide_code h codes = first (λ car. leb (2 ^ h) (item_of codes car)) (length codes) 1

abbrev pub code_ask : ℕ → List ℕ → Ask
code_ask h codes = least_of 7 (ltb (length codes) (wide_code h codes)) (wide_code h codes) (CodesBelow h codes) (WideCode h codes)

abbrev pub code_test : ℕ → List ℕ → Answer
code_test h codes = answered (code_ask h codes)

-- 14: a zero code in a closed night, A the first such car: it would roll to its destination before the first pull
abbrev pub no_zero : Bool → List ℕ → Bool
no_zero closed codes = not closed || ltb (length codes) (first_with 0 codes)

abbrev pub zero_ask : Plan → Ask
zero_ask p = least_of 14 (no_zero p.night.closed p.codes) (first_with 0 p.codes) (KeepsClear p) (ZeroCode p)

abbrev pub zero_test : Bool → List ℕ → Answer
zero_test closed codes = test (no_zero closed codes) (says 14 (first_with 0 codes) 0)

-- 8: a car pulled early, A the lowest car of the first such step, B that step
abbrev pub early_ask : Plan → Ask
early_ask p =
    record {
      number = 8;
      passed = leb p.steps (first_early p);
      a = lowest_early p (first_early p);
      b = first_early p;
      asked = NeverEarly p;
      told = λ car k. Least (EarlyStep p) k × Least (TakesEarly p k) car;
    }

abbrev pub early_test : Plan → Answer
early_test p = answered (early_ask p)

-- the rule for a pair j, j + 1 of one train: the code of j + 1 is at least that of j, and greater where the pair is a break
abbrev pub ruled : ℕ → ℕ → Bool → Bool
ruled low high brk = cond brk (ltb low high) (leb low high)

abbrev pub unruled : Plan → ℕ → Bool
unruled p j = pair p.night.lengths j && not (ruled (code_of p j) (code_of p (suc j)) (broken p.night.inbound j))

-- 9: trains out of order, A the lowest j + 1 whose pair breaks the rule
abbrev pub first_unruled : Plan → ℕ
first_unruled p = first (unruled p) (length p.night.inbound - 1) 1

abbrev pub order_ask : Plan → Ask
order_ask p = least_of 9 (in_order p) (suc (first_unruled p)) (BuildsTrains p) (BreaksRule p)

abbrev pub order_test : Plan → Answer
order_test p = answered (order_ask p)
