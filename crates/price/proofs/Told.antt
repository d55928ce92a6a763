-- What price tells, from what its tests tell one after the other.
use Rattle.std.proofs.Common.{◌≡◌, ℕ, ◌*◌, ◌+◌, ◌^◌, ◌<◌, Bool, true, false, cond, sym, refl, ap, ◌∙◌, subst}
use mathlib.Core.Path.{subst⁻¹}
use mathlib.Core.List.{List, [], ◌∷◌}
use lib.Ieee.{Float}
use lib.Dec.{eqb}
use borrow.Author.Tests.{ne_eqb}
use Rattle.std.specs.Prelude.{Option, Some, None, Result, Ok, Err}
use Rattle.std.specs.Option.{ok_or}
use Rattle.yard.specs.declared.Answer.{Answer}
use Rattle.yard.specs.declared.Timings.{Timings}
use Rattle.yard.specs.declared.refusal.Refusal.{Refusal}
use Rattle.yard.specs.declared.refusal.Refusal.TheVariants.{TimingNotAllowed}
use Rattle.yard.specs.declared.refusal.TimingName.{TimingName}
use Rattle.yard.specs.Limits.{limits}
use Rattle.yard.specs.Answers.{says, test, verdict, answers, count_test}
use Rattle.yard.specs.Refusals.{refused, price_told, detail_of_timing}
use Rattle.yard.specs.Price.{Priceable, Prices, price_asks, price_answer, price_worth, priced, positive_zero, seconds, timing, sixteenths}
use Rattle.yard.proofs.calls.Tests.{count-passed}
use Rattle.yard.proofs.calls.Told.{refused-not_done}
use Rattle.yard.proofs.calls.Verdict.{verdict-after, verdict-refused}
use Rattle.yard.proofs.prices.Price.{worth-small, limits-small, done-prices}

-- a test that refuses is the verdict, and behind one that is passed the verdict is that of the others
stop : (e : Refusal) {t : Answer} (ts : List Answer) → refused e ≡ t → refused e ≡ verdict (t ∷ ts) (says 0 0 0)
stop e {t} ts q = q ∙ sym (verdict-refused t ts (says 0 0 0) (λ z. refused-not_done e (ap (λ (a : Answer). a.number) q ∙ z)))

on : {a t : Answer} (ts : List Answer) → says 0 0 0 ≡ t → a ≡ verdict ts (says 0 0 0) → a ≡ verdict (t ∷ ts) (says 0 0 0)
on {a} {t} ts q later = later ∙ sym (verdict-after t ts (says 0 0 0) (ap (λ (b : Answer). b.number) (sym q)))

-- a timing that is allowed or refused, as its test
abbrev pub timing_test : ℕ → Float → Answer
timing_test a x = test (timing x) (says 13 a 0)

module _ (name : TimingName) (x : Float) {o : Option ℕ} (known : o ≡ cond (timing x) (Some (sixteenths x)) None) where
  pub not_allowed : {e : Refusal} → Err e ≡ ok_or o (TimingNotAllowed name) → refused e ≡ test (timing x) (says 13 (detail_of_timing name) 0)
  not_allowed {e} q = go (timing x) (q ∙ ap (λ (p : Option ℕ). ok_or p (TimingNotAllowed name)) known)
    where
      go : (b : Bool) → Err e ≡ ok_or (cond b (Some (sixteenths x)) None) (TimingNotAllowed name) → refused e ≡ test b (says 13 (detail_of_timing name) 0)
      go true q = cc
      go false q =
          let same : e ≡ TimingNotAllowed name = cc in
          ap refused same

  pub allowed : {k : ℕ} → Ok k ≡ ok_or o (TimingNotAllowed name) → (timing x ≡ true) × (k ≡ sixteenths x)
  allowed {k} q = go (timing x) (q ∙ ap (λ (p : Option ℕ). ok_or p (TimingNotAllowed name)) known)
    where
      go : (b : Bool) → Ok k ≡ ok_or (cond b (Some (sixteenths x)) None) (TimingNotAllowed name) → (b ≡ true) × (k ≡ sixteenths x)
      go true q = (refl, cc)
      go false q = cc

  pub passed : {k : ℕ} → Ok k ≡ ok_or o (TimingNotAllowed name) → says 0 0 0 ≡ test (timing x) (says 13 (detail_of_timing name) 0)
  passed q = rw (allowed q).0 refl

module _ (steps passes : ℕ) (t : Timings) where
  pub refused-price : {r : Result Float Refusal} {e : Refusal} → r ≡ Err e →
      refused e ≡ verdict (answers (price_asks limits steps passes t)) (says 0 0 0) → Prices steps passes t (price_told r)
  unfolding price_answer
  refused-price {r} {e} is q =
      let none : eqb (refused e).number 0 ≡ false = ne_eqb (refused e).number 0 (refused-not_done e) in
      let told : priced (refused e) positive_zero ≡ priced (refused e) (cond (eqb (refused e).number 0) (seconds (price_worth steps passes t)) positive_zero) = rw none refl in
      record {
        answer =
            ap price_told is ∙
            subst (λ (a : Answer). priced (refused e) positive_zero ≡ priced a (cond (eqb a.number 0) (seconds (price_worth steps passes t)) positive_zero)) q told;
      }

  -- the ways out, behind the tests that are passed
  abbrev pushes : List Answer
  pushes = timing_test 2 t.push ∷ []

  abbrev pulls : List Answer
  pulls = timing_test 1 t.pull ∷ pushes

  abbrev counts : List Answer
  counts = count_test 7 0 limits.passes passes ∷ pulls

  module _ {r : Result Float Refusal} {e : Refusal} (is : r ≡ Err e) where
    pub steps-refused : refused e ≡ count_test 5 0 limits.steps steps → Prices steps passes t (price_told r)
    steps-refused q = refused-price is (stop e counts q)

    module _ (p : says 0 0 0 ≡ count_test 5 0 limits.steps steps) where
      pub passes-refused : refused e ≡ count_test 7 0 limits.passes passes → Prices steps passes t (price_told r)
      passes-refused q = refused-price is (on counts p (stop e pulls q))

      module _ (q : says 0 0 0 ≡ count_test 7 0 limits.passes passes) where
        pub pull-refused : refused e ≡ timing_test 1 t.pull → Prices steps passes t (price_told r)
        pull-refused u = refused-price is (on counts p (on pulls q (stop e pushes u)))

        pub push-refused : says 0 0 0 ≡ timing_test 1 t.pull → refused e ≡ timing_test 2 t.push → Prices steps passes t (price_told r)
        push-refused u v = refused-price is (on counts p (on pulls q (on pushes u (stop e [] v))))

  -- where all tests are passed, at timings of so many sixteenths
  pub priceable : {pull push : ℕ} → says 0 0 0 ≡ count_test 5 0 limits.steps steps → says 0 0 0 ≡ count_test 7 0 limits.passes passes →
      (timing t.pull ≡ true) × (pull ≡ sixteenths t.pull) → (timing t.push ≡ true) × (push ≡ sixteenths t.push) →
      Priceable limits steps passes t × (steps * pull + passes * push ≡ price_worth steps passes t)
  priceable p q pull push = (
    record {
      steps_in = (count-passed 5 0 limits.steps steps).0 (ap (λ (a : Answer). a.number) (sym p));
      passes_in = (count-passed 7 0 limits.passes passes).0 (ap (λ (a : Answer). a.number) (sym q));
      pull_in = pull.0;
      push_in = push.0;
    },
    λ i. steps * pull.1 i + passes * push.1 i,
  )

  pub small : {worth : ℕ} → Priceable limits steps passes t × (worth ≡ price_worth steps passes t) → worth < 2 ^ 53
  small fits = subst⁻¹ (λ (n : ℕ). n < 2 ^ 53) fits.1 (worth-small limits limits-small steps passes t fits.0)

  pub done-price : {worth : ℕ} {x : Float} → x ≡ seconds worth → Priceable limits steps passes t × (worth ≡ price_worth steps passes t) →
      Prices steps passes t (priced (says 0 0 0) x)
  done-price e fits = done-prices steps passes t (ap (priced (says 0 0 0)) (e ∙ ap seconds fits.1)) fits.0
