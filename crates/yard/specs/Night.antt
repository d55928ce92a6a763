-- The night and the plan; trains, pairs and breaks. Cars, trains and places in a list count from 1, tracks and steps from 0.
use Rattle.std.specs.Prelude.{ℕ, suc, ◌-◌, Bool, cond, not, List, [], ◌∷◌, leb, ltb, eqb, length, get_or, take}
use Rattle.yard.specs.declared.Counts.{Counts}
use Rattle.yard.specs.Words.{total, most, keep, place, up_from}

-- A night: the lengths of the outbound trains, the inbound order of the cars, its mark, the sorting tracks and the room on each. Its
-- mark says whether it is closed, so that the destination tracks serve other work until the first pull, or open.
pub record Night : Type 0 where
  pub lengths : List ℕ
  pub inbound : List ℕ
  pub closed : Bool
  pub tracks : ℕ
  pub room : ℕ

-- A plan: the night, the number of steps, and one code for each car, in car order.
pub record Plan : Type 0 where
  pub night : Night
  pub steps : ℕ
  pub codes : List ℕ

-- the night and the plan of what a call is given
abbrev pub night_of : List ℕ → List ℕ → Bool → ℕ → ℕ → Night
night_of lengths inbound closed tracks room =
    record { lengths = lengths; inbound = inbound; closed = closed; tracks = tracks; room = room }

abbrev pub plan_of : List ℕ → List ℕ → Bool → ℕ → ℕ → ℕ → List ℕ → Plan
plan_of lengths inbound closed tracks room steps codes =
    record { night = night_of lengths inbound closed tracks room; steps = steps; codes = codes }

-- the same where a caller gives the counts by name
abbrev pub night_given : List ℕ → List ℕ → Bool → Counts → Night
night_given lengths inbound closed counts = night_of lengths inbound closed counts.tracks counts.room

abbrev pub plan_given : List ℕ → List ℕ → List ℕ → Bool → Counts → Plan
plan_given lengths inbound codes closed counts = plan_of lengths inbound closed counts.tracks counts.room counts.steps codes

-- the mark as a number, as a caller in C gives it and the card reader tells it: 0 is open, every other number closed
abbrev pub closed_by : ℕ → Bool
closed_by mark = not (eqb mark 0)

-- the cars of a list by car, 1 to n
abbrev pub cars : ℕ → List ℕ
cars n = up_from 1 n

abbrev pub sum : List ℕ → ℕ
sum l = total (λ x. x) l

-- the item of a list by car, or of the list of lengths by train
abbrev pub item_of : List ℕ → ℕ → ℕ
item_of l j = get_or l (j - 1) 0

-- the train of a car: train 1 is cars 1 to n1, train 2 the next n2, and so on
abbrev pub train_of : List ℕ → ℕ → ℕ
train_of [] car = 1
train_of (n ∷ lengths) car = cond (leb car n) 1 (suc (train_of lengths (car - n)))

-- a train's first car, and its cars in order
abbrev pub first_car : List ℕ → ℕ → ℕ
first_car lengths train = suc (sum (take (train - 1) lengths))

abbrev pub cars_of : List ℕ → ℕ → List ℕ
cars_of lengths train = up_from (first_car lengths train) (item_of lengths train)

-- cars j and j + 1 are a pair of one train
abbrev pub pair : List ℕ → ℕ → Bool
pair lengths j = eqb (train_of lengths j) (train_of lengths (suc j))

-- j + 1 comes in before j
abbrev pub broken : List ℕ → ℕ → Bool
broken inbound j = ltb (place (suc j) inbound) (place j inbound)

-- the breaks among the n pairs of neighbours from j, j + 1 on
abbrev pub breaks : List ℕ → ℕ → ℕ → ℕ
breaks inbound j n = length (keep (broken inbound) (up_from j n))

-- the breaks in a train, those before a car in its train, and the most in one train
abbrev pub breaks_in : List ℕ → List ℕ → ℕ → ℕ
breaks_in lengths inbound train = breaks inbound (first_car lengths train) (item_of lengths train - 1)

abbrev pub breaks_before : List ℕ → List ℕ → ℕ → ℕ
breaks_before lengths inbound car =
    let head = first_car lengths (train_of lengths car) in
    breaks inbound head (car - head)

abbrev pub most_breaks : List ℕ → List ℕ → ℕ
most_breaks lengths inbound = most (breaks_in lengths inbound) (up_from 1 (length lengths))
