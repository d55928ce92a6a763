-- What the demands speak of, in plain statements: a well-formed night, well-formed codes, what a good replay does, and
-- what makes a place, a step or a pair bad.
use Rattle.std.specs.Prelude.{ℕ, suc, ◌+◌, ◌-◌, ◌≤◌, ◌<◌, ◌^◌, ◌≡◌, ◌⊎◌, true, false, List, [], length}
use Rattle.yard.specs.Words.{count}
use Rattle.yard.specs.declared.Limits.{Limits}
use Rattle.yard.specs.Night.{Night, Plan, cars, sum, item_of, pair, broken, cars_of}
use Rattle.yard.specs.Replay.{bit, code_of, yard_at, pulled, pull_size, built}

-- x is the least number of which P holds
pub record Least (P : ℕ → Type 0) (x : ℕ) : Type 0 where
  pub holds : P x
  pub least : (y : ℕ) → P y → x ≤ y

-- x lies in a range
abbrev pub Within : ℕ → ℕ → ℕ → Type 0
Within low high x = (low ≤ x) × (x ≤ high)

-- no train is empty
abbrev pub NoneEmpty : List ℕ → Type 0
NoneEmpty lengths = (t : ℕ) → Within 1 (length lengths) t → 1 ≤ item_of lengths t

-- the inbound list has each car once and nothing else: as often as the list 1 to n has it
abbrev pub EachOnce : List ℕ → Type 0
EachOnce inbound = (car : ℕ) → count car inbound ≡ count car (cars (length inbound))

-- each code is below 2^h
abbrev pub CodesBelow : ℕ → List ℕ → Type 0
CodesBelow h codes = (car : ℕ) → Within 1 (length codes) car → item_of codes car < 2 ^ h

-- the replay pulls no car in a step its code does not name
unfoldable pub NeverEarly : Plan → Type 0
NeverEarly p = (k : ℕ) → k < p.steps → (car : ℕ) → 0 < count car (pulled p k) → bit k (code_of p car) ≡ true

-- the replay never finds more on a sorting track than it has room for when its step comes
unfoldable pub HasRoom : Plan → Type 0
HasRoom p = (k : ℕ) → k < p.steps → pull_size p k ≤ p.night.room

-- the replay of a closed night rolls no car to a destination before the first pull: at stage 0 those tracks are empty
unfoldable pub KeepsClear : Plan → Type 0
KeepsClear p =
    p.night.closed ≡ true → (t : ℕ) → Within 1 (length p.night.lengths) t → (yard_at p 0).standing (p.night.tracks + t - 1) ≡ []

-- the replay leaves every train on its destination track, in order
unfoldable pub BuildsTrains : Plan → Type 0
BuildsTrains p = (t : ℕ) → Within 1 (length p.night.lengths) t → built p t ≡ cars_of p.night.lengths t

-- the counts of a night, and its steps or step limit, lie in their ranges
pub record InLimits (L : Limits) (n m W C h : ℕ) : Type 0 where
  pub cars : Within 1 L.cars n
  pub trains : Within 1 L.trains m
  pub tracks : Within 1 L.tracks W
  pub room : Within 1 L.room C
  pub steps : Within 0 L.steps h

-- the lists of a night are well formed
pub record Listed (lengths inbound : List ℕ) : Type 0 where
  pub nonempty : NoneEmpty lengths
  pub adds : sum lengths ≡ length inbound
  pub once : EachOnce inbound

-- a night whose counts and lists are well formed, with its steps or step limit
pub record Given (L : Limits) (n : Night) (h : ℕ) : Type 0 where
  pub counts : InLimits L (length n.inbound) (length n.lengths) n.tracks n.room h
  pub lists : Listed n.lengths n.inbound

-- the codes of a plan are well formed
pub record CodesFormed (p : Plan) : Type 0 where
  pub each : length p.codes ≡ length p.night.inbound
  pub below : CodesBelow p.steps p.codes

-- a train of length 0, and a car whose code is not below 2^h
abbrev pub EmptyTrain : List ℕ → ℕ → Type 0
EmptyTrain lengths t = Within 1 (length lengths) t × (item_of lengths t ≡ 0)

abbrev pub WideCode : ℕ → List ℕ → ℕ → Type 0
WideCode h codes car = Within 1 (length codes) car × (2 ^ h ≤ item_of codes car)

-- a car of a closed night whose code is 0, so that it would roll to its destination at once
abbrev pub ZeroCode : Plan → ℕ → Type 0
ZeroCode p car = (p.night.closed ≡ true) × Within 1 (length p.codes) car × (code_of p car ≡ 0)

-- the number at place k is that of a car; it was met before, at place j; a place with a number out of range or met before
abbrev pub CarAt : List ℕ → ℕ → Type 0
CarAt inbound k = Within 1 (length inbound) (item_of inbound k)

abbrev pub MetAt : List ℕ → ℕ → ℕ → Type 0
MetAt inbound k j = (1 ≤ j) × (j < k) × (item_of inbound j ≡ item_of inbound k)

abbrev pub BadPlace : List ℕ → ℕ → Type 0
BadPlace inbound k = Within 1 (length inbound) k × ((CarAt inbound k → ⊥) ⊎ ((j : ℕ) × MetAt inbound k j))

-- where the number at a bad place k was first listed: 0 for a number out of range, or else the first place before k that has it
abbrev pub ListedAt : List ℕ → ℕ → ℕ → Type 0
ListedAt inbound k j = ((CarAt inbound k → ⊥) × (j ≡ 0)) ⊎ (CarAt inbound k × Least (MetAt inbound k) j)

-- the lengths are well formed, and the inbound list is not: place a is the first with a number out of range or met before, and b
-- tells where that number was first listed
pub record ListedWrong (lengths inbound : List ℕ) (a b : ℕ) : Type 0 where
  pub nonempty : NoneEmpty lengths
  pub adds : sum lengths ≡ length inbound
  pub place : Least (BadPlace inbound) a
  pub listing : ListedAt inbound a b

-- a night whose counts are well formed, with its steps or step limit, and whose inbound list is not
pub record InboundWrong (L : Limits) (n : Night) (h a b : ℕ) : Type 0 where
  pub counts : InLimits L (length n.inbound) (length n.lengths) n.tracks n.room h
  pub lists : ListedWrong n.lengths n.inbound a b

-- a plan whose night and codes are well formed, but for a zero code in a closed night; car a is the first with it, and b says nothing
pub record ZeroWrong (L : Limits) (p : Plan) (a b : ℕ) : Type 0 where
  pub given : Given L p.night p.steps
  pub codes : CodesFormed p
  pub car : Least (ZeroCode p) a
  pub unused : b ≡ 0

-- step k takes a car that its code does not name; some car
unfoldable pub TakesEarly : Plan → ℕ → ℕ → Type 0
TakesEarly p k car = (0 < count car (pulled p k)) × (bit k (code_of p car) ≡ false)

unfoldable pub EarlyStep : Plan → ℕ → Type 0
EarlyStep p k = (k < p.steps) × ((car : ℕ) × TakesEarly p k car)

-- step k finds more on its track than there is room for
unfoldable pub OverfullStep : Plan → ℕ → Type 0
OverfullStep p k = (k < p.steps) × (p.night.room < pull_size p k)

-- the rule for a pair j, j + 1 of one train: the code of j + 1 is at least that of j, and greater where the pair is a break
pub record Ruled (p : Plan) (j : ℕ) : Type 0 where
  pub at_least : code_of p j ≤ code_of p (suc j)
  pub greater : broken p.night.inbound j ≡ true → code_of p j < code_of p (suc j)

-- car c is the second of a pair of one train that breaks the rule
unfoldable pub BreaksRule : Plan → ℕ → Type 0
BreaksRule p c =
    (j : ℕ) × (c ≡ suc j) × Within 1 (length p.night.inbound) j × Within 1 (length p.night.inbound) c ×
    (pair p.night.lengths j ≡ true) × (Ruled p j → ⊥)

-- room aside, a plan that builds the trains of its night, and in a closed one keeps the destinations clear until the first pull; and a
-- night for which one keeps to a step limit, whatever codes it gives
pub record Sorts (p : Plan) : Type 0 where
  pub codes : CodesFormed p
  pub clear : KeepsClear p
  pub never : NeverEarly p
  pub builds : BuildsTrains p

pub record Sortable (n : Night) (limit : ℕ) : Type 0 where
  pub steps : ℕ
  pub codes : List ℕ
  pub within : steps ≤ limit
  pub sorts : Sorts (record { night = n; steps = steps; codes = codes })
