-- Laws of the codes found: from the breaks before the cars to the codes with the fewest passes, and to what the plan answers.
use mathlib.Core.Path.{◌≡◌, refl, sym, ap, ◌∙◌, subst}
use mathlib.Core.List.{List, [], map, map-map}
use Prim.Native.Nat.{ℕ, ◌+◌, ◌-◌, ◌≤◌, ◌<◌}
use native.Mathlib.Omega.{arith}
use lib.Count.{ones}
use lib.ListN.{length, get_or, take}
use Rattle.yard.specs.declared.Answer.{Answer}
use Rattle.yard.specs.Limits.{first_limits}
use Rattle.yard.specs.Night.{Night, cars, item_of, breaks_before, most_breaks}
use Rattle.yard.specs.Codes.{F, allowed_codes, code_number}
use Rattle.yard.specs.Derived.{steps_needed}
use Rattle.yard.specs.Demands.{Listed}
use Rattle.yard.specs.Answers.{says}
use Rattle.yard.proofs.yards.Allowed.{F-allowed, needed-least}
use Rattle.yard.proofs.yards.DerivedPlan.{length-by-car}
use Rattle.yard.proofs.yards.PlanYard.{items}
use Rattle.derive.specs.Plans.{Needs, Settles}
use Rattle.derive.proofs.Answered.{plan-refused, plan-settled}
use Rattle.fewest.specs.Fewest.{plan_in, FewestPasses}
use Rattle.fewest.specs.Found.{Found}
use Rattle.blocks.specs.Trains.{AllBlocked, AllChosen, Coded}
use Rattle.fewest.proofs.Numbers.{codes_of, best-fewest}
use Rattle.fewest.proofs.Steps.{sorted-exactly}
use Rattle.fewest.proofs.Nights.{all-blocked, night-best}
use Rattle.yard.proofs.yards.Counting.{F-more}

module _ (n : Night) (h : ℕ) (f : Listed n.lengths n.inbound) (pos : 0 < n.tracks) where
  -- where the steps are enough, there are more allowed codes than breaks in a train
  codes-enough : steps_needed n ≤ h → most_breaks n.lengths n.inbound < length (allowed_codes n.closed n.tracks h)
  codes-enough l =
      let e : steps_needed n + (h - steps_needed n) ≡ h = omega arith in
      omega (
        arith,
        (needed-least n pos).holds,
        F-more n.tracks (steps_needed n) (h - steps_needed n) pos,
        ap (F n.tracks) e,
        F-allowed n.closed n.tracks h pos,
      )

  module _ {steps : ℕ} {list : List ℕ} (k : Needs n.lengths n.inbound n.closed n.tracks steps list) where
    pub numbers-blocked : steps_needed n ≤ h → length n.inbound ≤ first_limits.cars
        → AllBlocked n.lengths (length (allowed_codes n.closed n.tracks h)) (take (length n.inbound) list)
    numbers-blocked l few =
        subst (AllBlocked n.lengths (length (allowed_codes n.closed n.tracks h))) (sym k.listed)
        (all-blocked n f (length (allowed_codes n.closed n.tracks h)) (codes-enough l) few)

    module _ {codes : List ℕ} (coded : Coded n.lengths (allowed_codes n.closed n.tracks h) (take (length n.inbound) list) codes) where
      long : length coded.numbers ≡ length n.inbound
      long = coded.size ∙ (ap length k.listed ∙ length-by-car (λ car. breaks_before n.lengths n.inbound car) (length n.inbound))

      same : codes ≡ codes_of n h (λ car. item_of coded.numbers car)
      unfolding code_number
      same =
          coded.coded ∙
          (ap (map (λ q. get_or (allowed_codes n.closed n.tracks h) q 0)) (sym (items coded.numbers)) ∙
          (map-map (λ q. get_or (allowed_codes n.closed n.tracks h) q 0) (λ car. item_of coded.numbers car) (cars (length coded.numbers)) ∙
          ap (λ (i : ℕ). map (λ car. get_or (allowed_codes n.closed n.tracks h) (item_of coded.numbers car) 0) (cars i)) long))

      pub found-fewest : FewestPasses n h codes
      found-fewest =
          subst (FewestPasses n h) (sym same)
          (best-fewest n h f pos (λ car. item_of coded.numbers car)
          (night-best n f (map (λ x. ones x) (allowed_codes n.closed n.tracks h)) coded.numbers long
          (subst (λ (l : List ℕ). AllChosen n.lengths (map (λ x. ones x) (allowed_codes n.closed n.tracks h)) l coded.numbers) k.listed
          coded.chosen)))

      pub found-settled : {before part after : List ℕ} {r : Answer} → steps_needed n ≤ h → part ≡ codes → Settles n.room h part before r after
          → Found n h before r after
      found-settled l e s =
          record {
            codes = codes;
            fewest = λ _. found-fewest;
            planned = plan-settled (plan_in n h codes) f found-fewest.sorts refl e l s;
          }

  pub found-refused : {needed : ℕ} {before : List ℕ} {r : Answer} → 1 ≤ length n.lengths → needed ≡ steps_needed n → r ≡ says 5 needed 0 → h < needed
      → Found n h before r before
  found-refused some e says_so m =
      record {
        codes = [];
        fewest = λ s. absurd (omega (arith, (sorted-exactly n f pos some h).0 s, e, m));
        planned = plan-refused (plan_in n h []) e says_so m;
      }
