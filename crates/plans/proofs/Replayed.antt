-- The passes, the fullest pull and the test of the trains worked out from the lists are those of the replay.
use mathlib.Core.Path.{◌≡◌, refl, sym, ap, ap₂, ◌∙◌}
use mathlib.Core.Bool.{Bool, not, ◌&&◌}
use mathlib.Core.List.{List, [], ◌∷◌, map}
use Prim.Native.Nat.{ℕ, suc, ◌+◌, ◌-◌, max, ◌≤◌, ◌<◌}
use native.Mathlib.Nat.{le_refl}
use native.Mathlib.Omega.{arith}
use lib.Dec.{leb, ltb}
use lib.ListN.{length}
use Rattle.yard.specs.declared.Answer.{Answer}
use Rattle.yard.specs.Words.{place, first, most, count, up_from}
use Rattle.yard.specs.Night.{Plan, cars, pair}
use Rattle.yard.specs.Replay.{passes, pull_size, fullest_pull, code_of}
use Rattle.yard.specs.Answers.{says, test, verdict, order_test, ruled, unruled}
use Rattle.yard.specs.Demands.{Within, Listed, CodesFormed, NeverEarly}
use Rattle.yard.proofs.general.First.{first-same}
use Rattle.yard.proofs.general.Lists.{count_head, count-tail, up_from-bounds}
use Rattle.yard.proofs.yards.Building.{order-ruled}
use Rattle.yard.proofs.yards.DerivedPlan.{by-car}
use Rattle.yard.proofs.yards.PlanYard.{passes-codes, pull_size-codes}
use Rattle.sorting.specs.Sums.{pull_of, set_below, fullest_of}
use Rattle.pairs.specs.Pairs.{unruled_at}
use Rattle.plans.specs.Worked.{first_pair, pair_test}

most-same : (f g : ℕ → ℕ) (l : List ℕ) → ((x : ℕ) → 0 < count x l → f x ≡ g x) → most f l ≡ most g l
most-same f g [] e = refl
most-same f g (x ∷ l) e = ap₂ (λ (a b : ℕ). max a b) (e x (count_head x l)) (most-same f g l (λ y m. e y (count-tail y x l m)))

module _ (p : Plan) (f : Listed p.night.lengths p.night.inbound) (pos : 0 < p.night.tracks)
    (each : length p.codes ≡ length p.night.inbound) where
  module _ (formed : CodesFormed p) (never : NeverEarly p) where
    pub passes-is : (s : ℕ) → s ≤ p.steps → length p.codes + set_below s p.codes ≡ passes p s
    passes-is s l = ap (λ (n : ℕ). n + set_below s p.codes) each ∙ sym (passes-codes p f formed never s l)

    fullest-is : fullest_of p.codes p.steps ≡ fullest_pull p
    unfolding fullest_pull
    fullest-is = sym (most-same (pull_size p) (pull_of p.codes) (up_from 0 p.steps)
        (λ k m. pull_size-codes p f formed never k (omega (arith, up_from-bounds k 0 p.steps m))))

    -- 9: a pair that breaks the rule
    pair_is : first (unruled p) (length p.night.inbound - 1) 1 ≡ first_pair p.night.lengths p.night.inbound p.codes
    pair_is =
        first-same (unruled p) (unruled_at p.night.lengths places p.codes) (length p.night.inbound - 1) 1
        (λ j l m. alike j (l, omega arith) (omega arith, omega arith)) ∙
        ap (λ (n : ℕ). first (unruled_at p.night.lengths (map (λ car. place car p.night.inbound) (cars n)) p.codes) (n - 1) 1) (sym each)
      where
        n : ℕ
        n = length p.night.inbound

        places : List ℕ
        places = map (λ car. place car p.night.inbound) (cars n)

        alike : (j : ℕ) → Within 1 n j → Within 1 n (suc j) → unruled p j ≡ unruled_at p.night.lengths places p.codes j
        alike j w v =
            ap (λ (b : Bool). pair p.night.lengths j && not (ruled (code_of p j) (code_of p (suc j)) b))
            (ap₂ (λ (a b : ℕ). ltb a b) (sym (by-car (λ car. place car p.night.inbound) n (suc j) v))
            (sym (by-car (λ car. place car p.night.inbound) n j w)))

    pair-test : 1 ≤ length p.night.inbound → order_test p ≡ pair_test p.night.lengths p.night.inbound p.codes
    pair-test some =
        ap₂ (λ (b : Bool) (j : ℕ). test b (says 9 (suc j) 0))
        (order-ruled p f formed never some ∙ ap₂ (λ (n j : ℕ). leb n j) (sym each) pair_is)
        pair_is

    pub order_is : 1 ≤ length p.night.inbound
        → verdict (pair_test p.night.lengths p.night.inbound p.codes ∷ [])
        (says 0 (length p.codes + set_below p.steps p.codes) (fullest_of p.codes p.steps)) ≡ verdict (order_test p ∷ [])
        (says 0 (passes p p.steps) (fullest_pull p))
    order_is some = ap₂ (λ (t d : Answer). verdict (t ∷ []) d) (sym (pair-test some))
        (ap₂ (λ (a b : ℕ). says 0 a b) (passes-is p.steps (le_refl p.steps)) fullest-is)
