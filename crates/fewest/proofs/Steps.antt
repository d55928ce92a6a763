-- Steps to spare: codes that sort do so with more steps, too, so there are codes of h steps exactly if h is at least the fewest steps,
-- and with more steps the fewest passes never grow.
use mathlib.Core.Path.{◌≡◌, sym, ap, ◌∙◌, subst}
use mathlib.Core.Logic.{◌↔◌}
use mathlib.Core.List.{List, map}
use Prim.Native.Nat.{ℕ, zero, suc, ◌+◌, ◌-◌, ◌^◌, ◌≤◌, ◌<◌}
use native.Mathlib.Nat.{le_refl, add-zero, add-suc, lt_of_lt_of_le}
use native.Mathlib.Omega.{arith}
use lib.Dec.{leb}
use lib.ListN.{length}
use lib.Pow.{pow_mono}
use borrow.Author.Tests.{leb-true, le-leb}
use Rattle.yard.specs.Night.{Night, cars, item_of}
use Rattle.yard.specs.Replay.{passes}
use Rattle.yard.specs.Derived.{steps_needed, derived_codes, derived_plan}
use Rattle.yard.specs.Demands.{Within, Listed, Sorts}
use Rattle.yard.proofs.calls.Asks.{Right, least-right}
use Rattle.yard.proofs.yards.Counting.{gaps-grow}
use Rattle.yard.proofs.yards.Plans.{never-gaps}
use Rattle.yard.proofs.yards.Building.{came-once}
use Rattle.yard.proofs.yards.Clear.{clear-some}
use Rattle.yard.proofs.yards.Least.{least-steps}
use Rattle.yard.proofs.yards.PlanYard.{items, passes-whole}
use Rattle.yard.proofs.yards.DerivedPlan.{coded-sorts, derived-sorts}
use Rattle.fewest.specs.Fewest.{plan_in, SortedIn, FewestPasses, steps_ask}
use Rattle.fewest.proofs.Numbers.{sorts-ruled}

module _ (n : Night) (f : Listed n.lengths n.inbound) (pos : 0 < n.tracks) where
  -- one step more changes nothing for codes below 2^h
  one_more : (h : ℕ) (codes : List ℕ) → Sorts (plan_in n h codes) → Sorts (plan_in n (suc h) codes)
  one_more h codes s =
      subst (λ (l : List ℕ). Sorts (plan_in n (suc h) l)) same
      (coded-sorts n f pos (suc h) (λ car. item_of codes car)
      (λ car w. (
        lt_of_lt_of_le (below car w) (pow_mono (omega arith)),
        (gaps-grow n.tracks pos h (item_of codes car) (below car w)).1
            ((never-gaps (plan_in n h codes) pos).0 s.never car (omega (arith, came-once n.lengths n.inbound f car w))),
        clear-some (plan_in n h codes) f pos s.codes s.clear car w,
      ))
      (sorts-ruled n h f codes s))
    where
      same : map (λ car. item_of codes car) (cars (length n.inbound)) ≡ codes
      same = ap (λ (k : ℕ). map (λ car. item_of codes car) (cars k)) (sym s.codes.each) ∙ items codes

      below : (car : ℕ) → Within 1 (length n.inbound) car → item_of codes car < 2 ^ h
      below car w = s.codes.below car (w.0, omega (arith, w.1, s.codes.each))

  some_more : (h d : ℕ) (codes : List ℕ) → Sorts (plan_in n h codes) → Sorts (plan_in n (h + d) codes)
  some_more h zero codes s = subst (λ (k : ℕ). Sorts (plan_in n k codes)) (sym (add-zero h)) s
  some_more h (suc d) codes s = subst (λ (k : ℕ). Sorts (plan_in n k codes)) (sym (add-suc h d)) (one_more (h + d) codes (some_more h d codes s))

  pub more-sorts : (h g : ℕ) (codes : List ℕ) → h ≤ g → Sorts (plan_in n h codes) → Sorts (plan_in n g codes)
  more-sorts h g codes l s =
      let e : h + (g - h) ≡ g = omega arith in
      subst (λ (k : ℕ). Sorts (plan_in n k codes)) e (some_more h (g - h) codes s)

  -- and their passes stay
  pub more-passes : (h g : ℕ) (codes : List ℕ) → h ≤ g → Sorts (plan_in n h codes) → passes (plan_in n g codes) g ≡ passes (plan_in n h codes) h
  more-passes h g codes l s =
      let t = more-sorts h g codes l s in
      passes-whole (plan_in n g codes) f t.codes t.never ∙ sym (passes-whole (plan_in n h codes) f s.codes s.never)

  -- with more steps the fewest passes never grow
  pub fewest-never-grow : (h g : ℕ) (codes others : List ℕ) → h ≤ g → FewestPasses n h codes → FewestPasses n g others
      → passes (plan_in n g others) g ≤ passes (plan_in n h codes) h
  fewest-never-grow h g codes others l a b =
      omega (arith, b.fewest codes (more-sorts h g codes l a.sorts), more-passes h g codes l a.sorts)

  -- with the fewest steps they are at most those of the derived plan
  pub fewest-derived : (codes : List ℕ) → FewestPasses n (steps_needed n) codes
      → passes (plan_in n (steps_needed n) codes) (steps_needed n) ≤ passes (derived_plan n) (steps_needed n)
  unfolding derived_plan
  fewest-derived codes a = a.fewest (derived_codes n) (derived-sorts n f pos)

  -- there are codes of h steps exactly if h is at least the fewest steps
  pub sorted-exactly : 1 ≤ length n.lengths → (h : ℕ) → SortedIn n h ↔ (steps_needed n ≤ h)
  unfolding derived_plan
  sorted-exactly some h = (
    λ s. least-steps (plan_in n h s.codes) f pos s.sorts some,
    λ l. record { codes = derived_codes n; sorts = more-sorts (steps_needed n) h (derived_codes n) l (derived-sorts n f pos) },
  )

  pub steps-right : 1 ≤ length n.lengths → (h : ℕ) → Right (steps_ask n h)
  steps-right some h =
      least-right 4 (leb (steps_needed n) h) (steps_needed n) (SortedIn n h) (SortedIn n)
      (λ e. (sorted-exactly some h).1 (leb-true (steps_needed n) h e), λ s. le-leb (steps_needed n) h ((sorted-exactly some h).0 s))
      (λ e. record { holds = (sorted-exactly some (steps_needed n)).1 (le_refl (steps_needed n)); least = λ g s. (sorted-exactly some g).0 s })
