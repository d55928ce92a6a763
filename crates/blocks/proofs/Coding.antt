-- Laws of the codes looked up: the costs are those of the allowed codes, and each number chosen is that of one of them.
use mathlib.Core.Path.{◌≡◌, sym, ap, ◌∙◌, subst}
use mathlib.Core.Bool.{Bool}
use mathlib.Core.List.{List, map}
use Prim.Native.Nat.{ℕ, suc, ◌+◌, ◌-◌, ◌^◌, ◌≤◌, ◌<◌}
use native.Mathlib.Nat.{lt_of_lt_of_le}
use native.Mathlib.Omega.{arith}
use lib.Count.{ones, ones-le}
use lib.ListN.{length, get_or, take, drop, length-map, length-drop}
use lib.Pow.{pow_mono}
use lib.Seq.{length-take-le}
use Rattle.yard.specs.Limits.{first_limits}
use Rattle.yard.specs.Codes.{allowed, allowed_codes}
use Rattle.yard.specs.Night.{sum}
use Rattle.yard.proofs.yards.Allowed.{F-allowed}
use Rattle.yard.proofs.yards.Trains.{train-in, train-end}
use Rattle.yard.proofs.yards.DerivedPlan.{kept-item}
use Rattle.codes.proofs.Steps.{F-le}
use Rattle.scan.specs.Front.{Under}
use Rattle.blocks.specs.Trains.{Costs, part_of, AllBlocked, AllChosen, Coded}
use Rattle.blocks.proofs.Weights.{weights-length}
use Rattle.yard.proofs.general.Lists.{map_at, part-item}

-- ---- the costs of the allowed codes

module _ (allowed : List ℕ) where
  pub costs-few : length allowed ≤ 2 ^ first_limits.steps → Under (2 ^ first_limits.steps) allowed → Costs (map (λ x. ones x) allowed)
  costs-few few under =
      record {
        numbers = omega (arith, length-map allowed (λ x. ones x));
        bits =
            λ i m.
            let near : i < length allowed = omega (arith, length-map allowed (λ x. ones x)) in
            omega (arith, map_at (λ x. ones x) allowed i near, ones-le first_limits.steps (get_or allowed i 0) (under i near));
      }

-- the allowed codes are codes of the most steps
pub allowed-under : (closed : Bool) (W h : ℕ) → h ≤ first_limits.steps → Under (2 ^ first_limits.steps) (allowed_codes closed W h)
unfolding allowed_codes
allowed-under closed W h l i m =
    let k = kept-item (allowed closed W h) 0 (2 ^ h) i m in
    lt_of_lt_of_le k.2 (omega (arith, pow_mono l))

pub allowed-few : (closed : Bool) (W h : ℕ) → 0 < W → h ≤ first_limits.steps → length (allowed_codes closed W h) ≤ 2 ^ first_limits.steps
allowed-few closed W h pos l = omega (arith, F-allowed closed W h pos, F-le W h, pow_mono l)

-- ---- the numbers chosen are those of allowed codes

module _ (lengths costs before numbers : List ℕ) (blocked : AllBlocked lengths (length costs) before) (chosen : AllChosen lengths costs before numbers)
    (size : length numbers ≡ length before) where
  pub chosen-under : Under (length costs) numbers
  chosen-under i m =
      let (u, near, from, to) = train-in lengths (suc i) (omega arith) (omega (arith, blocked.all, size)) in
      let s = sum (take u lengths) in
      let k = get_or lengths u 0 in
      let part = part_of lengths before u in
      let own = blocked.train u near in
      let pick = chosen u near in
      let d = i - s in
      let at : s + d ≡ i = omega arith in
      let long : length part ≡ k = length-take-le k (drop s before) (omega (arith, length-drop s before, enough u near)) in
      omega (
        arith,
        ap (λ (j : ℕ). get_or numbers j 0) at,
        part-item numbers s k d (omega arith),
        ap (λ (l : List ℕ). get_or l d 0) pick.given,
        map_at pick.choice part d (omega (arith, long)),
        pick.cheapest.rising.below (get_or part d 0) (omega (arith, weights-length part, own.upto d (omega (arith, long)))),
      )
    where
      enough : (u : ℕ) → u < length lengths → sum (take u lengths) + get_or lengths u 0 ≤ length before
      enough u l = omega (arith, blocked.all, train-end lengths u l)

  pub coded-all : (allowed after : List ℕ) → costs ≡ map (λ x. ones x) allowed → after ≡ map (λ q. get_or allowed q 0) numbers
      → Coded lengths allowed before after
  coded-all allowed after e looked =
      record { numbers = numbers; chosen = subst (λ (l : List ℕ). AllChosen lengths l before numbers) e chosen; size = size; coded = looked }

-- ---- a list of what each allowed code costs

module _ (lengths allowed before : List ℕ) (blocked : AllBlocked lengths (length allowed) before) {costs : List ℕ}
    (listed : costs ≡ map (λ x. ones x) allowed) where
  as-many : length costs ≡ length allowed
  as-many = ap length listed ∙ length-map allowed (λ x. ones x)

  costs-blocked : AllBlocked lengths (length costs) before
  costs-blocked = subst (λ (k : ℕ). AllBlocked lengths k before) (sym as-many) blocked

  pub costs-given : length allowed ≤ 2 ^ first_limits.steps → Under (2 ^ first_limits.steps) allowed → Costs costs × AllBlocked lengths (length costs) before
  costs-given few under = (subst Costs (sym listed) (costs-few allowed few under), costs-blocked)

  module _ (numbers : List ℕ) (chosen : AllChosen lengths costs before numbers) (size : length numbers ≡ length before) where
    pub numbers-under : Under (length allowed) numbers
    numbers-under i m = omega (arith, as-many, chosen-under lengths costs before numbers costs-blocked chosen size i m)

    pub numbers-coded : {after : List ℕ} → after ≡ map (λ q. get_or allowed q 0) numbers → Coded lengths allowed before after
    numbers-coded looked = coded-all lengths costs before numbers costs-blocked chosen size allowed _ listed looked
