-- Laws of the two programs: what is refused is told, and what is accepted is put out whole.
use Prim.Native.Nat.{ℕ, zero, suc, ◌≤◌}
use Rattle.std.specs.Prelude.{Result, Ok, Err}
use mathlib.Core.Path.{◌≡◌, refl, sym, ap, ap₂, ◌∙◌, subst}
use mathlib.Core.Bool.{Bool, true, false, cond}
use mathlib.Core.Logic.{⊎_elim}
use mathlib.Core.List.{List, ◌++◌}
use native.Mathlib.Omega.{arith}
use lib.Dec.{leb}
use lib.ListN.{length, take, replicate, length-replicate}
use borrow.Author.Tests.{eq-eqb, ne_eqb, le-leb, lt-leb}
use Rattle.yard.specs.declared.Answer.{Answer}
use Rattle.yard.specs.declared.CardAnswer.{CardAnswer}
use Rattle.yard.specs.declared.refusal.Refusal.{Refusal}
use Rattle.yard.specs.Refusals.{refused, count_told}
use Rattle.yard.proofs.calls.Told.{refused-not_done}
use Rattle.yard.specs.Limits.{limits}
use Rattle.yard.specs.Night.{Night, Plan, cars_of}
use Rattle.yard.specs.Replay.{passes, built}
use Rattle.yard.specs.Derived.{steps_needed, derived_codes, derived_plan}
use Rattle.yard.specs.Answers.{says, onto}
use Rattle.yard.specs.Demands.{BuildsTrains}
use Rattle.yard.specs.Calls.{Checks, Derives, check_answer, derive_answer, derive_tests}
use Rattle.yard.specs.Card.{card, card_plan, writer_tests, writer_answer, Reads, Writes}
use Rattle.yard.proofs.general.Numbers.{le-or-lt}
use Rattle.yard.proofs.general.Fronts.{front-taken, front-within}
use Rattle.yard.proofs.yards.DerivedPlan.{length-by-car}
use Rattle.yard.proofs.calls.Verdict.{verdict-done, written-accepted, written-refused}
use Rattle.yard.proofs.cards.CardCalls.{read_told, reader-says}
use Rattle.lines.specs.Lines.{refusal_line, answer_line, plan_line, train_line, each_to}
use Rattle.report.specs.Programs.{unless_refused, read_as, derive_as, of_card, train_lines, checked_lines, of_derived, card_in}
use Rattle.report.specs.Programs.{PutsOut}
use Rattle.lines.proofs.Adding.{adds_same, adds-front}
use Rattle.report.proofs.Yields.{Good, checked-good, derived-writes, derived-no-room}

-- an answer that is done, and one that is not
module _ (r : Answer) (out : List ℕ) where
  pub told-done : r.number ≡ 0 → unless_refused r out ≡ out
  told-done e = ap (λ t. cond t out (refusal_line r.number r.a r.b)) (eq-eqb r.number 0 e)

  pub told-refused : (r.number ≡ 0 → ⊥) → unless_refused r out ≡ refusal_line r.number r.a r.b
  told-refused h = ap (λ t. cond t out (refusal_line r.number r.a r.b)) (ne_eqb r.number 0 h)

-- a refusal puts out its line
pub refused-line : {promised : Answer} (e : Refusal) (out : List ℕ) → refused e ≡ promised → unless_refused promised out ≡ answer_line (refused e)
refused-line e out promised = ap (λ r. unless_refused r out) (sym promised) ∙ told-refused (refused e) out (refused-not_done e)

-- the texts of 1 to n, each written another way
each_same : (f g : ℕ → List ℕ) (n : ℕ) → ((t : ℕ) → 1 ≤ t → t ≤ n → f t ≡ g t) → each_to f n ≡ each_to g n
each_same f g zero same = refl
each_same f g (suc n) same =
    ap₂ (λ (x y : List ℕ). x ++ y) (each_same f g n (λ t low high. same t low (omega arith))) (same (suc n) (omega arith) (omega arith))

-- the lines of the trains of a plan that check accepts: each train as built is in order
pub trains-built : (p : Plan) → Good p → each_to (λ t. train_line t (cars_of p.night.lengths t)) (length p.night.lengths) ≡ train_lines p
unfolding train_lines BuildsTrains
trains-built p good =
    each_same (λ t. train_line t (cars_of p.night.lengths t)) (λ t. train_line t (built p t)) (length p.night.lengths)
    (λ t low high. ap (train_line t) (sym (good.builds t (low, high))))

-- the lines of a plan: check refuses it, or its counts and its trains are put out
module _ (p : Plan) where
  pub plan-refused : (e : Refusal) → Checks p (refused e) → checked_lines p ≡ answer_line (refused e)
  unfolding checked_lines
  plan-refused e checks = refused-line e _ checks.answer

  module _ {passes fullest : ℕ} (checks : Checks p (says 0 passes fullest)) where
    accepted : (check_answer limits p).number ≡ 0
    accepted = sym (ap (λ r. r.number) checks.answer)

    pub plan-good : Good p
    plan-good = checked-good p accepted

    pub plan-done : plan_line p passes ++ each_to (λ t. train_line t (cars_of p.night.lengths t)) (length p.night.lengths) ≡ checked_lines p
    unfolding checked_lines
    plan-done =
        let answer = check_answer limits p in
        ap (λ l. plan_line p passes ++ l) (trains-built p plan-good)
        ∙ ap (λ r. plan_line p r.a ++ train_lines p) checks.answer
        ∙ sym (told-done answer (plan_line p answer.a ++ train_lines p) accepted)

-- a program's card: the reader refuses it, or its plan is in hand
module _ (out : Plan → List ℕ) (bytes : List ℕ) where
  pub card-refused : (e : Refusal) → read_as bytes ≡ refused e → of_card out bytes ≡ answer_line (refused e)
  card-refused e verdict = refused-line e _ (sym verdict)

  pub card-done : {p : Plan} → read_as bytes ≡ says 0 0 0 → p ≡ card_plan bytes → of_card out bytes ≡ out p
  card-done verdict plan = told-done (read_as bytes) (out (card_plan bytes)) (ap (λ r. r.number) verdict) ∙ ap out (sym plan)

-- the same text, written another way
pub puts_same : {text other : List ℕ} (before after : List ℕ) (r : Result ℕ Refusal) → text ≡ other → PutsOut text before r after → PutsOut other before r after
puts_same before after (Ok end) same adds = adds_same same adds
puts_same before after (Err e) same told = (sym same ∙ told.0, told.1)

-- the reader's verdict with the programs' buffers, and the lists that were read
module _ {bytes l i c : List ℕ} {r : CardAnswer} {l₁ i₁ c₁ : List ℕ} (reads : Reads bytes l i c r l₁ i₁ c₁) where
  pub read-as : length l ≡ limits.trains → length i ≡ limits.cars → length c ≡ limits.cars → read_as bytes ≡ says r.number r.a r.b
  read-as trains cars codes =
      sym (ap (λ q. says q.number q.a q.b) (rw (trains, cars, codes) at reads.answer) ∙ reader-says bytes limits.trains limits.cars limits.cars)

  pub lengths-within : r.number ≡ 0 → r.trains ≤ length l₁
  lengths-within e =
      let told = read_told reads e in
      front-within (card_plan bytes).night.lengths l told.lengths (sym (ap (λ q. q.trains) told.answer))

  pub inbound-within : r.number ≡ 0 → r.cars ≤ length i₁
  inbound-within e =
      let told = read_told reads e in
      front-within (card_plan bytes).night.inbound i told.inbound (sym (ap (λ q. q.cars) told.answer))

-- nightplan, for a night, with no codes before: derive refuses it, or its plan is in hand
abbrev pub no_codes : List ℕ
no_codes = replicate limits.cars 0

no_codes-length : length no_codes ≡ limits.cars
no_codes-length = length-replicate {A = ℕ} limits.cars 0

module _ (n : Night) {after : List ℕ} where
  pub derive-refused : (e : Refusal) (out : Plan → List ℕ) → Derives n limits.steps no_codes (refused e) after → of_derived out n ≡ answer_line (refused e)
  unfolding of_derived
  derive-refused e out derives = refused-line e _ (rw no_codes-length at derives.answer)

  module _ {steps rolled : ℕ} (derives : Derives n limits.steps no_codes (says 0 steps rolled) after) where
    found : says 0 steps rolled ≡ derive_as n
    found = rw no_codes-length at derives.answer

    derive-done : (derive_as n).number ≡ 0
    derive-done = sym (ap (λ r. r.number) found)

    codes-length : length (derived_codes n) ≡ length n.inbound
    unfolding derived_codes
    codes-length = length-by-car _ (length n.inbound)

    codes-written : after ≡ onto (derived_codes n) no_codes
    codes-written =
        derives.codes
        ∙ written-accepted (derive_answer limits n limits.steps (length no_codes)) (derived_codes n) no_codes (sym (ap (λ r. r.number) derives.answer))

    pub derived-within : length n.inbound ≤ length after
    derived-within = front-within (derived_codes n) no_codes codes-written codes-length

    steps-needed : steps ≡ steps_needed n
    unfolding derive_answer
    steps-needed =
        ap (λ r. r.a)
        (found ∙ verdict-done (derive_tests limits n limits.steps limits.cars) (says 0 (steps_needed n) (passes (derived_plan n) (steps_needed n)))
        derive-done)

    -- the plan that is drawn is the derived one
    pub plan-derived : record { night = n; steps = steps; codes = take (length n.inbound) after } ≡ derived_plan n
    unfolding derived_plan
    plan-derived =
        ap₂ (λ (h : ℕ) (codes : List ℕ). record { night = n; steps = h; codes = codes }) steps-needed
        (front-taken (derived_codes n) no_codes codes-written codes-length)

    -- it is drawn: the buffer is too short, or the card stands at its front
    module _ (unused : List ℕ) where
      puts : (fits : Bool)
          → leb (length (card (derived_plan n))) (length unused) ≡ fits
          → cond fits (card (derived_plan n)) (refusal_line 4 6 0) ≡ of_derived (card_in (length unused)) n
      unfolding of_derived
      puts fits q =
          let p = derived_plan n in
          sym (ap (λ b. cond b (card p) (refusal_line 4 6 0)) q) ∙ sym (told-done (derive_as n) (card_in (length unused) p) derive-done)

      pub drawn : {p : Plan} {card₁ : List ℕ} (w : Result ℕ Refusal)
          → p ≡ derived_plan n
          → Writes p unused (count_told w) card₁
          → PutsOut (of_derived (card_in (length unused)) n) unused w card₁
      unfolding writer_answer
      drawn {card₁ = card₁} (Ok k) plan given =
          let p = derived_plan n in
          let size = length unused in
          let writes = subst (λ (q : Plan). Writes q unused (says 0 k 0) card₁) plan given in
          let accepted : (writer_answer limits p size).number ≡ 0 = sym (ap (λ r. r.number) writes.answer) in
          let long : k ≡ length (card p) =
          ap (λ r. r.a) (writes.answer ∙ verdict-done (writer_tests limits p size) (says 0 (length (card p)) 0) accepted) in
          ⊎_elim
          (λ fits.
          adds_same (puts true (le-leb (length (card p)) size fits))
          (adds-front (card p) unused fits long (writes.bytes ∙ written-accepted (writer_answer limits p size) (card p) unused accepted)))
          (λ short. absurd (omega (arith, accepted, ap (λ r. r.number) (derived-no-room n derive-done size short))))
          (le-or-lt (length (card p)) size)
      drawn {card₁ = card₁} (Err e) plan given =
          let p = derived_plan n in
          let size = length unused in
          let writes = subst (λ (q : Plan). Writes q unused (refused e) card₁) plan given in
          let number : (refused e).number ≡ (writer_answer limits p size).number = ap (λ r. r.number) writes.answer in
          ⊎_elim (λ fits. absurd (refused-not_done e (number ∙ derived-writes n derive-done size fits)))
          (λ short.
          let answer : refused e ≡ says 4 6 0 = writes.answer ∙ derived-no-room n derive-done size short in (
            sym (ap answer_line answer ∙ puts false (lt-leb (length (card p)) size short)),
            writes.bytes ∙ written-refused (writer_answer limits p size) (card p) unused (λ q. refused-not_done e (number ∙ q)),
          ))
          (le-or-lt (length (card p)) size)
