-- The gap rule of a code: the widest gap between neighbouring set bits, the lowest counted from -1, at least 1.
use Rattle.std.specs.Prelude.{ℕ, zero, suc, ◌-◌, ◌^◌, max, cond, List, map}
use Rattle.yard.specs.Words.{up_from}
use Rattle.yard.specs.Replay.{bit}

-- the highest set bit below h, counted from 1, or 0 where there is none
abbrev pub height : ℕ → ℕ → ℕ
height zero code = 0
height (suc h) code = cond (bit h code) (suc h) (height h code)

-- the widest gap among the bits below h
abbrev pub widest_gap : ℕ → ℕ → ℕ
widest_gap zero code = 1
widest_gap (suc h) code = cond (bit h code) (max (widest_gap h code) (suc h - height h code)) (widest_gap h code)

-- the rule's number for each code of h steps, in the order of the codes
abbrev pub gaps : ℕ → List ℕ
gaps h = map (widest_gap h) (up_from 0 (2 ^ h))
