-- Refusals by name, and the answers that tell them: the number, and the details A and B.
use Rattle.std.specs.Prelude.{ℕ, Float, Result, Ok, Err, unwrap_or}
use Rattle.yard.specs.declared.Answer.{Answer}
use Rattle.yard.specs.declared.CardAnswer.{CardAnswer}
use Rattle.yard.specs.declared.PriceAnswer.{PriceAnswer}
use Rattle.yard.specs.declared.Head.{Head}
use Rattle.yard.specs.declared.refusal.CountName.{CountName}
use Rattle.yard.specs.declared.refusal.CountName.TheVariants as count_name
use Rattle.yard.specs.declared.refusal.ListName.{ListName}
use Rattle.yard.specs.declared.refusal.ListName.TheVariants as list_name
use Rattle.yard.specs.declared.refusal.TimingName.{TimingName}
use Rattle.yard.specs.declared.refusal.TimingName.TheVariants as timing_name
use Rattle.yard.specs.declared.refusal.Refusal.{Refusal}
use Rattle.yard.specs.declared.refusal.Refusal.TheVariants as refusal
use Rattle.yard.specs.declared.told.Derived.{Derived}
use Rattle.yard.specs.declared.told.Checked.{Checked}
use Rattle.yard.specs.Answers.{says}
use Rattle.yard.specs.Card.{reader_says, no_head}
use Rattle.yard.specs.Price as price

-- the details that name a count, a list or buffer, and a timing
abbrev pub detail_of_count : CountName → ℕ
detail_of_count count_name.Cars = 1
detail_of_count count_name.Trains = 2
detail_of_count count_name.Tracks = 3
detail_of_count count_name.Room = 4
detail_of_count count_name.Steps = 5
detail_of_count count_name.Stage = 6
detail_of_count count_name.Passes = 7

abbrev pub detail_of_list : ListName → ℕ
detail_of_list list_name.Lengths = 1
detail_of_list list_name.Inbound = 2
detail_of_list list_name.Codes = 3
detail_of_list list_name.Tracks = 4
detail_of_list list_name.Places = 5
detail_of_list list_name.Card = 6

abbrev pub detail_of_timing : TimingName → ℕ
detail_of_timing timing_name.Pull = 1
detail_of_timing timing_name.Push = 2

-- the answer that tells a refusal
abbrev pub refused : Refusal → Answer
refused (refusal.CountOutOfRange name) = says 1 (detail_of_count name) 0
refused (refusal.EmptyTrain train) = says 2 train 0
refused refusal.LengthsNotAdding = says 2 0 0
refused (refusal.InboundWrong place listed) = says 3 place (unwrap_or listed 0)
refused (refusal.ListOrBufferWrong name) = says 4 (detail_of_list name) 0
refused (refusal.LimitTooLow steps) = says 5 steps 0
refused (refusal.TrackOverfilled step cars) = says 6 step cars
refused (refusal.CodeTooLarge car) = says 7 car 0
refused (refusal.CarPulledEarly car step) = says 8 car step
refused (refusal.TrainsOutOfOrder car) = says 9 car 0
refused (refusal.CardTooShort bytes) = says 10 bytes 0
refused (refusal.CardEdition edition) = says 11 edition 0
refused (refusal.CardEndWrong bytes) = says 12 bytes 0
refused (refusal.TimingNotAllowed name) = says 13 (detail_of_timing name) 0
refused (refusal.ZeroCode car) = says 14 car 0
refused refusal.WrongEdition = says 17 0 0

-- the answer of a call or a test: its refusal, or what it tells where it is done
abbrev pub answer_of : {A : Type 0} → (A → Answer) → Result A Refusal → Answer
answer_of done (Ok x) = done x
answer_of done (Err e) = refused e

-- a test tells nothing where it is passed; derive its plan's steps and passes; check the passes and the fullest pull; replay its
-- passes, and the writer the bytes of the card
abbrev pub test_told : Result Unit Refusal → Answer
test_told r = answer_of (λ _. says 0 0 0) r

abbrev pub plan_told : Result Derived Refusal → Answer
plan_told r = answer_of (λ plan. says 0 plan.steps plan.passes) r

abbrev pub check_told : Result Checked Refusal → Answer
check_told r = answer_of (λ plan. says 0 plan.passes plan.fullest) r

abbrev pub count_told : Result ℕ Refusal → Answer
count_told r = answer_of (λ n. says 0 n 0) r

-- the price and the card reader have answers of their own: positive zero, and a head of zeros, where they refuse
abbrev pub price_told : Result Float Refusal → PriceAnswer
price_told (Ok x) = price.priced (says 0 0 0) x
price_told (Err e) = price.priced (refused e) price.positive_zero

abbrev pub card_told : Result Head Refusal → CardAnswer
card_told (Ok head) = reader_says (says 0 0 0) head
card_told (Err e) = reader_says (refused e) no_head
