-- The laws of the replay, said of a plan: early pulls, usable codes, room, and one place for each car.
use mathlib.Core.Path.{◌≡◌, refl, sym, ap, subst}
use mathlib.Core.Logic.{⊎_elim, ◌↔◌}
use mathlib.Core.Bool.{Bool, true, false, cond, not}
use mathlib.Core.List.{List, [], ◌∷◌}
use Prim.Native.Nat.{ℕ, suc, ◌+◌, ◌-◌, ◌%◌, ◌≤◌, ◌<◌}
use native.Mathlib.Nat.{le_refl}
use native.Mathlib.Omega.{arith}
use lib.Dec.{leb, ltb, eqb}
use lib.ListN.{length}
use borrow.Author.Tests.{leb-true, leb-false, le-leb, lt-leb, ltb-true, ltb-false, lt-ltb, le-ltb, eqb-true, eq-eqb}
use Rattle.yard.specs.Words.{tally, count, listed, first}
use Rattle.yard.specs.Night.{Night, Plan, train_of}
use Rattle.yard.specs.Replay.{bit, code_of, destination, yard_at, pulled, pull_size, early, lowest_early, first_early, first_overfull}
use Rattle.yard.specs.Codes.{lone, usable}
use Rattle.yard.specs.Answers.{says, test, early_test, room_test}
use Rattle.yard.specs.Demands.{Within, EachOnce, NeverEarly, HasRoom}
use Rattle.yard.proofs.general.Bools.{split, clash, and_left, and_right, and_both, not-true, not_so}
use Rattle.yard.proofs.general.First.{first-le, first-none, first-fails}
use Rattle.yard.proofs.general.Lists.{up_from-bounds}
use Rattle.yard.proofs.yards.Replay.{Clean}
use Rattle.yard.proofs.yards.Early.{Gaps, clean-of-kept, kept-of-clean, gaps-of-kept, kept-of-gaps}
use Rattle.yard.proofs.yards.Standing.{standing-where}
use Rattle.yard.proofs.calls.Tests.{asks}

-- a search over the steps that refuses the first hit is passed exactly if there is none
pub steps-passed : (p : ℕ → Bool) (h k a c : ℕ) → ((test (leb h (first p h 0)) (says (suc k) a c)).number ≡ 0) ↔ ((j : ℕ) → j < h → p j ≡ false)
steps-passed p h k a c =
    let past = asks (leb h (first p h 0)) k a c in (
      λ e j l. first-none p h 0 j (omega arith) (omega (arith, leb-true h (first p h 0) (past.0 e))),
      λ f. past.1 (le-leb h (first p h 0) (omega (arith, first-fails p h 0 (λ j l m. f j (omega arith))))),
    )

pub train_of-pos : (lengths : List ℕ) (car : ℕ) → 1 ≤ train_of lengths car
train_of-pos [] car = le_refl 1
train_of-pos (n ∷ l) car = go (leb car n)
  where
    go : (b : Bool) → 1 ≤ cond b 1 (suc (train_of l (car - n)))
    go true = le_refl 1
    go false = omega arith

pub destination-away : (n : Night) (car : ℕ) → n.tracks ≤ destination n car
destination-away n car = omega (arith, train_of-pos n.lengths car)

-- a car of the inbound list is one of 1 to n
pub record InRange (inbound : List ℕ) : Type 0 where
  pub range : (car : ℕ) → 0 < count car inbound → Within 1 (length inbound) car

pub range-once : (inbound : List ℕ) → EachOnce inbound → InRange inbound
range-once inbound once =
    record {
      range =
          λ car m.
          let b = up_from-bounds car 1 (length inbound) (subst (λ (k : ℕ). 0 < k) (once car) m) in
          (b.0, omega (arith, b.1));
    }

module _ (p : Plan) where
  pub clean-of-never : NeverEarly p → Clean p.night.tracks p.steps (code_of p) (destination p.night) p.night.inbound p.steps
  unfolding NeverEarly pulled yard_at Clean
  clean-of-never never = never

  pub never-of-clean : Clean p.night.tracks p.steps (code_of p) (destination p.night) p.night.inbound p.steps → NeverEarly p
  unfolding NeverEarly pulled yard_at Clean
  never-of-clean clean = clean

  -- what a step pulls came in
  pub pulled-came : (k car : ℕ) → 0 < count car (pulled p k) → 0 < count car p.night.inbound
  unfolding pulled yard_at
  pulled-came k car m = (standing-where p.night.tracks p.steps (code_of p) (destination p.night) p.night.inbound k car (k % p.night.tracks) m).1

  module _ (within : InRange p.night.inbound) where
    -- no car of step k is early exactly if the search over the cars finds none
    step-clean : (k : ℕ) → (leb (lowest_early p k) (length p.night.inbound) ≡ false) ↔ ((car : ℕ) → 0 < count car (pulled p k) → bit k (code_of p car) ≡ true)
    unfolding lowest_early early
    step-clean k = (
      λ e car m.
          let r = within.range car (pulled-came k car m) in
          ⊎_elim
          (λ set. set)
          (λ unset. clash (and_both (lt-ltb 0 (count car (pulled p k)) m) (ap not unset))
          (first-none (early p k) n 1 car r.0 (omega (arith, r.1, leb-false (first (early p k) n 1) n e))))
          (split (bit k (code_of p car))),
      λ fine.
          lt-leb (first (early p k) n 1) n
          (omega (
            arith,
            first-fails (early p k) n 1
                (λ car l m. not_so (early p k car)
                (λ e. clash (fine car
                (ltb-true 0 (count car (pulled p k)) (and_left (listed car (pulled p k)) (not (bit k (code_of p car))) e)))
                (not-true (bit k (code_of p car)) (and_right (listed car (pulled p k)) (not (bit k (code_of p car))) e)))),
          )),
    )
      where
        n : ℕ
        n = length p.night.inbound

    pub early-passed : ((early_test p).number ≡ 0) ↔ NeverEarly p
    unfolding NeverEarly first_early
    early-passed =
        let searched = steps-passed (λ k. leb (lowest_early p k) (length p.night.inbound)) p.steps 7 (lowest_early p (first_early p)) (first_early p) in (
          λ e k l. (step-clean k).0 (searched.0 e k l),
          λ never. searched.1 (λ k l. (step-clean k).1 (never k l)),
        )

  pub room-passed : ((room_test p).number ≡ 0) ↔ HasRoom p
  unfolding HasRoom first_overfull
  room-passed =
      let searched = steps-passed (λ k. ltb p.night.room (pull_size p k)) p.steps 5 (first_overfull p) (pull_size p (first_overfull p)) in (
        λ e k l. ltb-false p.night.room (pull_size p k) (searched.0 e k l),
        λ room. searched.1 (λ k l. le-ltb p.night.room (pull_size p k) (room k l)),
      )

  -- a plan pulls no car early exactly if the code of each car that comes in keeps its gaps
  pub never-gaps : 0 < p.night.tracks → NeverEarly p ↔ ((car : ℕ) → 0 < count car p.night.inbound → Gaps p.night.tracks p.steps (code_of p car))
  never-gaps pos = (
    λ never car m. gaps-of-kept W h (code_of p car) pos (kept-of-clean W h pos (code_of p) dest inbound away (clean-of-never never) car m),
    λ gaps. never-of-clean (clean-of-kept W h pos (code_of p) dest inbound away (λ car m. kept-of-gaps W h (code_of p car) pos (gaps car m))),
  )
    where
      W : ℕ
      W = p.night.tracks

      h : ℕ
      h = p.steps

      inbound : List ℕ
      inbound = p.night.inbound

      dest : ℕ → ℕ
      dest = destination p.night

      away : (car : ℕ) → 0 < count car inbound → W ≤ dest car
      away car m = destination-away p.night car

-- ---- usable codes

lone-one : (car : ℕ) → 0 < count car (1 ∷ []) → car ≡ 1
lone-one car m = go (eqb car 1) refl m
  where
    go : (b : Bool) → eqb car 1 ≡ b → 0 < tally b + 0 → car ≡ 1
    go true e m = eqb-true car 1 e
    go false e m = absurd (omega arith)

lone-range : InRange (1 ∷ [])
lone-range = record { range = λ car m. (omega (arith, lone-one car m), omega (arith, lone-one car m)) }

-- a code is usable exactly if it keeps its gaps
pub usable-gaps : (W h x : ℕ) → 0 < W → (usable W h x ≡ true) ↔ Gaps W h x
unfolding usable first_early
usable-gaps W h x pos = (
  λ e. (never-gaps p pos).0 ((early-passed p lone-range).0 (reached.1 (le-leb h (first_early p) (omega (arith, eqb-true (first_early p) h e))))) 1 (omega arith),
  λ g.
      eq-eqb (first_early p) h
      (omega (
        arith,
        first-le (λ k. leb (lowest_early p k) 1) h 0,
        leb-true h (first_early p)
            (reached.0 ((early-passed p lone-range).1 ((never-gaps p pos).1 (λ car m. subst (λ (c : ℕ). Gaps W h (code_of p c)) (sym (lone-one car m)) g)))),
      )),
)
  where
    p : Plan
    p = lone W h x

    reached : ((early_test p).number ≡ 0) ↔ (leb h (first_early p) ≡ true)
    reached = asks (leb h (first_early p)) 7 (lowest_early p (first_early p)) (first_early p)
