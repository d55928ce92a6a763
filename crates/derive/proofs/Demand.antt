-- Demand 3 on the call: what whoever calls `derive` may rely on, by what it promises of its answer and of the lent buffer.
use Prim.Native.Nat.{ℕ, ◌≤◌, ◌<◌}
use mathlib.Core.Path.{◌≡◌, sym, ap, ap₂, ◌∙◌, subst}
use mathlib.Core.Logic.{◌↔◌}
use mathlib.Core.List.{List}
use native.Mathlib.Nat.{le_refl, le_antisymm}
use lib.ListN.{length, take, drop}
use Rattle.yard.specs.declared.Answer.{Answer}
use Rattle.yard.specs.Limits.{limits}
use Rattle.yard.specs.Night.{Night, Plan}
use Rattle.yard.specs.Replay.{yard_at, pull_size}
use Rattle.yard.specs.Derived.{derived_codes, derived_plan}
use Rattle.yard.specs.Demands.{Least, InboundWrong, HasRoom, Sorts, Sortable, OverfullStep}
use Rattle.yard.specs.Answers.{says, onto, FirstFails}
use Rattle.yard.specs.Calls.{derive_asks, derive_answer, DeriveGiven, Derivable, Derives}
use Rattle.yard.proofs.general.Fronts.{front-taken, front-left}
use Rattle.yard.proofs.calls.Verdict.{written-accepted, written-refused}
use Rattle.yard.proofs.Demands.{LeastPlan, derive-accepts-exactly, derive-refuses-exactly}
use Rattle.yard.proofs.calls.Asks.{told-alike}
use Rattle.yard.proofs.Demands.{derive-listing-exactly, derive-least, derive-limit-exactly, derive-room-exactly}

-- the plan that the caller is told: the steps answered, and the first n items of the buffer
abbrev pub told : Night → Answer → List ℕ → Plan
told n r after = record { night = n; steps = r.a; codes = take (length n.inbound) after }

-- what an accepted call has told
pub record Told (n : Night) (before : List ℕ) (r : Answer) (after : List ℕ) : Type 0 where
  -- the plan pulls no car early and builds every train, in a closed night without code 0, and no track is overfilled
  pub sorts : Sorts (told n r after)
  pub room : HasRoom (told n r after)
  -- no plan with fewer pull-outs sorts so, whatever its codes
  pub least : (h : ℕ) (codes : List ℕ) → Sorts (record { night = n; steps = h; codes = codes }) → r.a ≤ h
  -- the passes are the cars that roll in its replay, counted one by one
  pub passes : r.b ≡ (yard_at (told n r after) r.a).rolled
  -- what lies behind the codes stays
  pub rest : drop (length n.inbound) after ≡ drop (length n.inbound) before

module _ (n : Night) (limit : ℕ) (before : List ℕ) (r : Answer) (after : List ℕ) (promise : Derives n limit before r after) where
  same_number : r.number ≡ (derive_answer limits n limit (length before)).number
  same_number = ap (λ (a : Answer). a.number) promise.answer

  -- it accepts exactly if all that it asks holds
  pub call-accepts : (r.number ≡ 0) ↔ Derivable limits n limit (length before)
  call-accepts =
      let exactly = derive-accepts-exactly limits n limit (length before) in
      (λ z. exactly.0 (sym same_number ∙ z), λ derivable. same_number ∙ exactly.1 derivable)

  pub call-tells : r.number ≡ 0 → Told n before r after
  unfolding derived_plan
  call-tells z =
      record {
        sorts = subst Sorts (sym plan) least.sorts;
        room = subst HasRoom (sym plan) (call-accepts.0 z).room;
        least = λ h codes s. subst (λ (k : ℕ). k ≤ h) (sym steps) (least.least h codes s);
        passes = ap (λ (a : Answer). a.b) answered ∙ ap₂ (λ (p : Plan) (s : ℕ). (yard_at p s).rolled) (sym plan) (sym steps);
        rest = front-left (derived_codes n) before written size;
      }
    where
      accepted : (derive_answer limits n limit (length before)).number ≡ 0
      accepted = sym same_number ∙ z

      told-least : LeastPlan n (derived_plan n) × (derive_answer limits n limit (length before) ≡ says 0 (derived_plan n).steps
          (yard_at (derived_plan n) (derived_plan n).steps).rolled)
      told-least = derive-least limits n limit (length before) accepted

      least : LeastPlan n (derived_plan n)
      least = told-least.0

      answered : r ≡ says 0 (derived_plan n).steps (yard_at (derived_plan n) (derived_plan n).steps).rolled
      answered = promise.answer ∙ told-least.1

      steps : r.a ≡ (derived_plan n).steps
      steps = ap (λ (a : Answer). a.a) answered

      size : length (derived_codes n) ≡ length n.inbound
      size = least.sorts.codes.each

      written : after ≡ onto (derived_codes n) before
      written = promise.codes ∙ written-accepted (derive_answer limits n limit (length before)) (derived_codes n) before accepted

      plan : told n r after ≡ derived_plan n
      plan = ap₂ (λ (s : ℕ) (codes : List ℕ). record { night = n; steps = s; codes = codes }) steps (front-taken (derived_codes n) before written size)

  -- it refuses with k, A and B exactly if the first ask that does not hold has number k, and tells A and B
  pub call-refuses : (k a b : ℕ) → 0 < k → (r ≡ says k a b) ↔ FirstFails k a b (derive_asks limits n limit (length before))
  call-refuses k a b pos = told-alike promise.answer (derive-refuses-exactly limits n limit (length before) k a b pos)

  -- 3 comes exactly if the counts are well formed and the inbound list is the first thing at fault: A is the first place at fault, B
  -- where its number was first listed, 0 for a number out of range
  pub call-listing : (a b : ℕ) → (r ≡ says 3 a b) ↔ InboundWrong limits n limit a b
  call-listing a b = told-alike promise.answer (derive-listing-exactly limits n limit (length before) a b)

  -- a limit is refused exactly if no plan that builds the trains, in a closed night without code 0, keeps to it, whatever its codes
  pub call-limit : (a b : ℕ) → (r ≡ says 5 a b) ↔ (DeriveGiven limits n limit (length before) × (Sortable n limit → ⊥) × Least (Sortable n) a × (b ≡ 0))
  call-limit a b = told-alike promise.answer (derive-limit-exactly limits n limit (length before) a b)

  -- then every plan that sorts so has at least A steps, and one has exactly A
  pub call-limit-least : (a b : ℕ) → r ≡ says 5 a b
      → ((h : ℕ) (codes : List ℕ) → Sorts (record { night = n; steps = h; codes = codes })
      → a ≤ h) × ((codes : List ℕ) × Sorts (record { night = n; steps = a; codes = codes }))
  call-limit-least a b e = (
    least,
    (
      some.codes,
      subst (λ (h : ℕ). Sorts (record { night = n; steps = h; codes = some.codes }))
          (le_antisymm some.within (least some.steps some.codes some.sorts)) some.sorts,
    ),
  )
    where
      told-a : Least (Sortable n) a
      told-a = ((call-limit a b).0 e).2

      some : Sortable n a
      some = told-a.holds

      least : (h : ℕ) (codes : List ℕ) → Sorts (record { night = n; steps = h; codes = codes }) → a ≤ h
      least h codes sorts = told-a.least h (record { steps = h; codes = codes; within = le_refl h; sorts = sorts })

  -- room is refused exactly if the derived plan overfills a track: A is the first step that does, B what it finds there
  pub call-room : (a b : ℕ) → (r ≡ says 6 a b) ↔ (DeriveGiven limits n limit (length before) × Sortable n limit × Least
      (OverfullStep (derived_plan n)) a × (b ≡ pull_size (derived_plan n) a))
  call-room a b = told-alike promise.answer (derive-room-exactly limits n limit (length before) a b)

  -- a refused call writes nothing
  pub call-refused : (r.number ≡ 0 → ⊥) → after ≡ before
  call-refused h = promise.codes ∙ written-refused (derive_answer limits n limit (length before)) (derived_codes n) before (λ z. h (same_number ∙ z))
