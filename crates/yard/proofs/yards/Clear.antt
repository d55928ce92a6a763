-- A closed night's destination tracks stay clear until the first pull exactly if no car has code 0; the mark asks nothing else of a
-- plan.
use mathlib.Core.Path.{◌≡◌, refl, sym, ap, ◌∙◌, subst}
use mathlib.Core.Logic.{⊎_elim, ◌↔◌}
use mathlib.Core.Bool.{Bool, true, cond}
use Prim.Native.Nat.{ℕ, zero, suc, ◌+◌, ◌-◌, ◌%◌, ◌^◌, ◌<◌}
use native.Mathlib.Nat.{mod-lt}
use native.Mathlib.Omega.{arith}
use lib.Dec.{eqb}
use lib.ListN.{length}
use lib.Pow.{pow_pos}
use borrow.Author.Tests.{lt-ltb, le-ltb, ne_eqb}
use Rattle.yard.specs.Words.{count}
use Rattle.yard.specs.Night.{Plan, train_of}
use Rattle.yard.specs.Replay.{bit, next_step, target, code_of, destination, yard_at}
use Rattle.yard.specs.Demands.{Within, Listed, CodesFormed, KeepsClear, ZeroCode, NeverEarly, BuildsTrains, Sorts}
use Rattle.yard.proofs.general.First.{first-least, first-fails}
use Rattle.yard.proofs.general.Lists.{keep-none}
use Rattle.yard.proofs.yards.Codes.{bit-above}
use Rattle.yard.proofs.yards.Counting.{some-bit}
use Rattle.yard.proofs.yards.Replay.{roll_in-standing}
use Rattle.yard.proofs.yards.Standing.{standing-once}
use Rattle.yard.proofs.yards.Building.{train-cars, came-once, came-within}

module _ (p : Plan) (f : Listed p.night.lengths p.night.inbound) (pos : 0 < p.night.tracks) (formed : CodesFormed p) where
  -- where a car rolls first
  goal : ℕ → ℕ
  goal car = target p.night.tracks p.steps (code_of p) (destination p.night) 0 car

  -- a car with code 0 rolls to its destination
  goal-zero : (car : ℕ) → code_of p car ≡ 0 → goal car ≡ destination p.night car
  unfolding goal
  goal-zero car e =
      let none : next_step p.steps (code_of p car) 0 ≡ 0 + (p.steps - 0) =
      first-fails (λ k. bit k (code_of p car)) (p.steps - 0) 0 (λ k l m. ap (bit k) e ∙ bit-above k 0 (pow_pos k)) in
      ap (λ (b : Bool). cond b (next_step p.steps (code_of p car) 0 % p.night.tracks) (destination p.night car))
      (le-ltb (next_step p.steps (code_of p car) 0) p.steps (omega (arith, none)))

  -- a car with another code rolls to a sorting track
  goal-other : (car : ℕ) → Within 1 (length p.night.inbound) car → 0 < code_of p car → goal car < p.night.tracks
  unfolding goal
  goal-other car w some =
      let code = code_of p car in
      let below : code < 2 ^ p.steps = formed.below car (w.0, omega (arith, w.1, formed.each)) in
      let (k, l, m, set) = some-bit 0 p.steps code (omega arith) below (omega (arith, some)) in
      let next = next_step p.steps code 0 in
      let found = first-least (λ k. bit k code) (p.steps - 0) 0 k l set in
      let near : next < p.steps = ⊎_elim (λ le. omega (arith, le, m)) (λ far. omega (arith, far, m)) found in
      let rolls : Bool → ℕ = λ b. cond b (next % p.night.tracks) (destination p.night car) in
      subst (λ (b : Bool). rolls b < p.night.tracks) (sym (lt-ltb next p.steps near)) (mod-lt next pos)

  -- a code that is not 0 is above it
  above : ((car : ℕ) → ZeroCode p car → ⊥) → (car : ℕ) → Within 1 (length p.night.inbound) car → p.night.closed ≡ true → 0 < code_of p car
  above none car v closed = go (code_of p car) refl
    where
      go : (x : ℕ) → code_of p car ≡ x → 0 < x
      go zero e = absurd (none car (closed, (v.0, omega (arith, v.1, formed.each)), e))
      go (suc x) e = omega arith

  pub clear-exactly : KeepsClear p ↔ ((car : ℕ) → ZeroCode p car → ⊥)
  unfolding KeepsClear yard_at goal
  clear-exactly = (occupied, clear)
    where
      occupied : KeepsClear p → (car : ℕ) → ZeroCode p car → ⊥
      occupied keeps car (closed, w, e) =
          let v : Within 1 (length p.night.inbound) car = (w.0, omega (arith, w.1, formed.each)) in
          let (i, l, train, _, _) = train-cars p.night.lengths p.night.inbound f car v in
          let t = train_of p.night.lengths car in
          let empty = keeps closed t (omega (arith, train), omega (arith, l, train)) in
          omega (
            arith,
            ap (count car) empty,
            ap (λ (track : ℕ). count car ((yard_at p 0).standing track)) (goal-zero car e),
            standing-once p.night.tracks p.steps (code_of p) (destination p.night) p.night.inbound 0 car,
            came-once p.night.lengths p.night.inbound f car v,
          )

      clear : ((car : ℕ) → ZeroCode p car → ⊥) → KeepsClear p
      clear none closed t w =
          roll_in-standing p.night.tracks p.steps (code_of p) (destination p.night) 0 _ p.night.inbound (p.night.tracks + t - 1) ∙
          keep-none (λ car. eqb (p.night.tracks + t - 1) (goal car)) p.night.inbound
          (λ car m.
          let v = came-within p.night.lengths p.night.inbound f car m in
          ne_eqb (p.night.tracks + t - 1) (goal car) (λ e. omega (arith, goal-other car v (above none car v closed), w.0)))

  -- so a plan sorts exactly if, where the night is closed, no car has code 0, and else by what an open night asks
  pub sorts-exactly : Sorts p ↔ (((car : ℕ) → ZeroCode p car → ⊥) × NeverEarly p × BuildsTrains p)
  sorts-exactly = (
    λ s. (clear-exactly.0 s.clear, s.never, s.builds),
    λ (none, never, builds). record { codes = formed; clear = clear-exactly.1 none; never = never; builds = builds },
  )

  -- and in a closed night every car has a code above 0
  pub clear-some : KeepsClear p → (car : ℕ) → Within 1 (length p.night.inbound) car → p.night.closed ≡ true → 0 < code_of p car
  clear-some keeps = above (clear-exactly.0 keeps)
