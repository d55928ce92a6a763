-- What whoever calls `fewest_passes` may rely on, by what it promises of its answer and of the lent buffer.
use Prim.Native.Nat.{ℕ, suc, ◌≤◌, ◌<◌}
use mathlib.Core.Path.{◌≡◌, refl, sym, ap, ap₂, ◌∙◌, subst}
use mathlib.Core.Logic.{⊎_elim, ◌↔◌}
use mathlib.Core.Bool.{Bool, true, false, not}
use mathlib.Core.List.{List, [], ◌∷◌, ◌++◌}
use native.Mathlib.Nat.{le_antisymm}
use native.Mathlib.Omega.{arith}
use lib.Dec.{eqb}
use lib.ListN.{length, take, drop}
use lib.Seq.{ext_get_or}
use borrow.Author.Tests.{eqb-true, eqb-false}
use Rattle.yard.specs.declared.Answer.{Answer}
use Rattle.yard.specs.Limits.{first_limits}
use Rattle.yard.specs.Words.{first}
use Rattle.yard.specs.Night.{Night, item_of}
use Rattle.yard.specs.Replay.{yard_at, passes, pull_size}
use Rattle.yard.specs.Demands.{Least, InboundWrong, HasRoom, OverfullStep}
use Rattle.yard.specs.Answers.{says, verdict, onto, written, Ask, FirstFails, answers, buffer_ask, room_ask}
use Rattle.yard.specs.Calls.{opening, DeriveGiven, Derives}
use Rattle.yard.proofs.general.Bools.{not-true, not-false}
use Rattle.yard.proofs.general.First.{first-from, first-hit, first-none}
use Rattle.yard.proofs.general.Fronts.{front-taken, front-left}
use Rattle.yard.proofs.general.Numbers.{le-or-lt, compared}
use Rattle.yard.proofs.calls.Verdict.{verdict-passed, verdict-done, written-accepted, written-refused, verdict-alike}
use Rattle.yard.proofs.calls.Asks.{Sound, holds-append, accepted-exactly, refused-exactly, refused-at, told-alike}
use Rattle.yard.proofs.calls.Rights.{buffer-right, room-right, overfull-full}
use Rattle.yard.proofs.Demands.{opening-sound, first-asks, first-hold, call-wrong}
use Rattle.yard.proofs.yards.Trains.{item_of-suc}
use Rattle.derive.proofs.Demand as derive
use Rattle.fewest.specs.Fewest.{plan_in, SortedIn, FewestPasses, steps_ask, fewest_own, fewest_asks, fewest_answer, FindsFewest}
use Rattle.fewest.proofs.Steps.{steps-right, fewest-never-grow}

-- ---- there is one such list

module _ (n : Night) (h : ℕ) (these those : List ℕ) (a : FewestPasses n h these) (b : FewestPasses n h those) where
  as-few : passes (plan_in n h these) h ≡ passes (plan_in n h those) h
  as-few = le_antisymm (a.fewest those b.sorts) (b.fewest these a.sorts)

  long : length these ≡ length those
  long = a.sorts.codes.each ∙ sym b.sorts.codes.each

  differ : ℕ → Bool
  differ car = not (eqb (item_of these car) (item_of those car))

  alike : (car : ℕ) → differ car ≡ false → item_of these car ≡ item_of those car
  unfolding differ
  alike car e = eqb-true (item_of these car) (item_of those car) (not-false (eqb (item_of these car) (item_of those car)) e)

  -- at the first car where they differed, one would come before the other
  pub fewest-one : these ≡ those
  unfolding differ
  fewest-one =
      ⊎_elim
      (λ none.
      ext_get_or 0 these those long
      (λ i m.
      sym (item_of-suc these i) ∙ (alike (suc i) (first-none differ (length these) 1 (suc i) (omega arith) (omega arith)) ∙ item_of-suc those i)))
      (λ found. absurd (clashes found))
      (le-or-lt (suc (length these)) car)
    where
      car : ℕ
      car = first differ (length these) 1

      clashes : car < suc (length these) → ⊥
      clashes found =
          let w = first-from differ (length these) 1 in
          let before : (j : ℕ) → 1 ≤ j → j < car → item_of these j ≡ item_of those j = λ j l m. alike j (first-none differ (length these) 1 j l m) in
          let differs = first-hit differ (length these) 1 (omega (arith, found)) in
          compared ⊥ (item_of these car) (item_of those car)
          (λ lt. b.smallest these a.sorts as-few (record { car = car; within = (w, omega (arith, found, long)); alike = before; smaller = lt }))
          (λ same. eqb-false (item_of these car) (item_of those car) (not-true (eqb (item_of these car) (item_of those car)) differs) same)
          (λ gt.
          a.smallest those b.sorts (sym as-few)
          (record { car = car; within = (w, omega (arith, found)); alike = λ j l m. sym (before j l m); smaller = gt }))

-- where there are codes with the fewest passes, there are codes
sorted_of : (n : Night) (h : ℕ) (codes : List ℕ) → FewestPasses n h codes → SortedIn n h
sorted_of n h codes few = record { codes = codes; sorts = few.sorts }

-- ---- what is asked, for any codes

module _ (n : Night) (h : ℕ) (codes : List ℕ) (size : ℕ) where
  abbrev done : Answer
  done = says 0 h (passes (plan_in n h codes) h)

  sound : Sound (fewest_asks first_limits n h codes size)
  sound =
      opening-sound first_limits n h [] (fewest_own n h codes size) tt
      (λ given. (
        buffer-right 3 (length n.inbound) size,
        λ _. (steps-right n given.lists given.counts.tracks.0 given.counts.trains.0 h, λ _. (room-right (plan_in n h codes), λ _. tt)),
      ))

  accepts : ((fewest_answer first_limits n h codes size).number ≡ 0) ↔ (DeriveGiven first_limits n h size × SortedIn n h × HasRoom (plan_in n h codes))
  unfolding fewest_answer
  accepts =
      let exactly = accepted-exactly done refl (fewest_asks first_limits n h codes size) sound in
      let parted = holds-append (first-asks first_limits n h size) (steps_ask n h ∷ room_ask (plan_in n h codes) ∷ []) in (
        λ e.
            let (front, more) = parted.0 (exactly.0 e) in
            let (sorted, more) = more in
            ((first-hold first_limits n h size).0 front, sorted, more.0),
        λ (given, sorted, room). exactly.1 (parted.1 ((first-hold first_limits n h size).1 given, (sorted, (room, tt)))),
      )

  refuses : (k a b : ℕ) → 0 < k → (fewest_answer first_limits n h codes size ≡ says k a b) ↔ FirstFails k a b (fewest_asks first_limits n h codes size)
  unfolding fewest_answer
  refuses k a b pos = refused-exactly done refl k a b pos (fewest_asks first_limits n h codes size) sound

  refuses-steps : (a b : ℕ)
      → (fewest_answer first_limits n h codes size ≡ says 5 a b) ↔ (DeriveGiven first_limits n h size × (SortedIn n h → ⊥) × Least (SortedIn n) a × (b ≡ 0))
  unfolding fewest_answer
  refuses-steps a b =
      let exactly =
      refused-at done refl (first-asks first_limits n h size) (steps_ask n h) (room_ask (plan_in n h codes) ∷ []) (omega arith) sound
      (omega arith) (omega arith) a b in (
        λ e. let (front, none, told) = exactly.0 e in ((first-hold first_limits n h size).0 front, none, told.0, told.1),
        λ (given, none, least, unused). exactly.1 ((first-hold first_limits n h size).1 given, none, (least, unused)),
      )

  refuses-room : (a b : ℕ)
      → (fewest_answer first_limits n h codes size ≡ says 6 a b) ↔
      (DeriveGiven first_limits n h size × SortedIn n h × Least (OverfullStep (plan_in n h codes)) a × (b ≡ pull_size (plan_in n h codes) a))
  unfolding fewest_answer
  refuses-room a b =
      let before = first-asks first_limits n h size ++ (steps_ask n h ∷ []) in
      let parted = holds-append (first-asks first_limits n h size) (steps_ask n h ∷ []) in
      let exactly = refused-at done refl before (room_ask (plan_in n h codes)) [] (omega arith) sound (omega arith) tt a b in (
        λ e.
            let (front, none, told) = exactly.0 e in
            let (given, sorted) = parted.0 front in
            ((first-hold first_limits n h size).0 given, sorted.0, told.0, told.1),
        λ (given, sorted, overfull, cars).
            exactly.1
            (parted.1 ((first-hold first_limits n h size).1 given, (sorted, tt)), overfull-full (plan_in n h codes) a overfull.holds, (overfull, cars)),
      )

-- codes that are the same wherever there are any give the same answer
answer-same : (n : Night) (h : ℕ) (these those : List ℕ) (size : ℕ) → (DeriveGiven first_limits n h size → SortedIn n h → these ≡ those)
    → fewest_answer first_limits n h these size ≡ fewest_answer first_limits n h those size
unfolding fewest_answer
answer-same n h these those size same =
    verdict-alike (answers asks) (answers (room_ask (plan_in n h these) ∷ [])) (answers (room_ask (plan_in n h those) ∷ []))
    (done n h these size) (done n h those size)
    (λ passed.
    let all = (accepted-exactly (says 0 0 0) refl asks asks-sound).0 (ap (λ (a : Answer). a.number) (verdict-passed (answers asks) (says 0 0 0) passed)) in
    let (front, sorted) = (holds-append (first-asks first_limits n h size) (steps_ask n h ∷ [])).0 all in
    ap (λ (l : List ℕ). verdict (answers (room_ask (plan_in n h l) ∷ [])) (done n h l size)) (same ((first-hold first_limits n h size).0 front) sorted.0))
  where
    asks : List Ask
    asks = opening first_limits n h [] (buffer_ask 3 (length n.inbound) size ∷ steps_ask n h ∷ [])

    asks-sound : Sound asks
    asks-sound =
        opening-sound first_limits n h [] (buffer_ask 3 (length n.inbound) size ∷ steps_ask n h ∷ []) tt
        (λ given. (
          buffer-right 3 (length n.inbound) size,
          λ _. (steps-right n given.lists given.counts.tracks.0 given.counts.trains.0 h, λ _. tt),
        ))

-- ---- the call

-- all that it asks: a well-formed night and a buffer, and codes with the fewest passes, for which there is room
pub record Findable (n : Night) (h size : ℕ) : Type 0 where
  pub given : DeriveGiven first_limits n h size
  pub codes : List ℕ
  pub fewest : FewestPasses n h codes
  pub room : HasRoom (plan_in n h codes)

-- what an accepted call has told, with the first n items of the buffer as the codes
pub record Told (n : Night) (h : ℕ) (before : List ℕ) (r : Answer) (after : List ℕ) : Type 0 where
  -- the steps are those asked for
  pub steps : r.a ≡ h
  -- the codes have the fewest passes, and come first among those that do; they overfill no track
  pub fewest : FewestPasses n h (take (length n.inbound) after)
  pub room : HasRoom (plan_in n h (take (length n.inbound) after))
  -- the passes are the cars that roll in their replay, counted one by one
  pub passes : r.b ≡ (yard_at (plan_in n h (take (length n.inbound) after)) h).rolled
  -- what lies behind the codes stays
  pub rest : drop (length n.inbound) after ≡ drop (length n.inbound) before

module _ (n : Night) (h : ℕ) (before : List ℕ) (r : Answer) (after : List ℕ) (promise : FindsFewest n h before r after) where
  same_number : r.number ≡ (fewest_answer first_limits n h promise.found (length before)).number
  same_number = ap (λ (a : Answer). a.number) promise.answer

  -- it accepts exactly if all that it asks holds
  pub call-accepts : (r.number ≡ 0) ↔ Findable n h (length before)
  call-accepts =
      let exactly = accepts n h promise.found (length before) in (
        λ z.
            let (given, sorted, room) = exactly.0 (sym same_number ∙ z) in
            record { given = given; codes = promise.found; fewest = promise.fewest given sorted; room = room },
        λ f.
            let sorted = sorted_of n h f.codes f.fewest in
            let same = fewest-one n h f.codes promise.found f.fewest (promise.fewest f.given sorted) in
            same_number ∙ exactly.1 (f.given, sorted, subst (λ (l : List ℕ). HasRoom (plan_in n h l)) same f.room),
      )

  pub call-tells : r.number ≡ 0 → Told n h before r after
  unfolding fewest_answer passes
  call-tells z =
      record {
        steps = ap (λ (a : Answer). a.a) answered;
        fewest = subst (FewestPasses n h) codes few;
        room = subst (λ (l : List ℕ). HasRoom (plan_in n h l)) codes accepted.2;
        passes = ap (λ (a : Answer). a.b) answered ∙ rolled;
        rest = front-left promise.found before wrote size;
      }
    where
      accepted : DeriveGiven first_limits n h (length before) × SortedIn n h × HasRoom (plan_in n h promise.found)
      accepted = (accepts n h promise.found (length before)).0 (sym same_number ∙ z)

      few : FewestPasses n h promise.found
      few = promise.fewest accepted.0 accepted.1

      size : length promise.found ≡ length n.inbound
      size = few.sorts.codes.each

      answered : r ≡ says 0 h (passes (plan_in n h promise.found) h)
      answered =
          promise.answer ∙
          verdict-done (answers (fewest_asks first_limits n h promise.found (length before))) (done n h promise.found (length before)) (sym same_number ∙ z)

      wrote : after ≡ onto promise.found before
      wrote = promise.codes ∙ written-accepted r promise.found before z

      codes : promise.found ≡ take (length n.inbound) after
      codes = sym (front-taken promise.found before wrote size)

      rolled : passes (plan_in n h promise.found) h ≡ (yard_at (plan_in n h (take (length n.inbound) after)) h).rolled
      rolled = ap (λ (l : List ℕ). (yard_at (plan_in n h l) h).rolled) codes

  -- it refuses with k, A and B exactly if the first ask that does not hold has number k, and tells A and B
  pub call-refuses : (k a b : ℕ) → 0 < k → (r ≡ says k a b) ↔ FirstFails k a b (fewest_asks first_limits n h promise.found (length before))
  call-refuses k a b pos = told-alike promise.answer (refuses n h promise.found (length before) k a b pos)

  -- 3 comes exactly if the counts are well formed and the inbound list is the first thing at fault
  pub call-listing : (a b : ℕ) → (r ≡ says 3 a b) ↔ InboundWrong first_limits n h a b
  call-listing a b =
      let refused = call-refuses 3 a b (omega arith) in
      let wrong = call-wrong first_limits n h (fewest_own n h promise.found (length before)) (omega arith) a b in
      (λ e. wrong.0 (refused.0 e), λ w. refused.1 (wrong.1 w))

  -- 5 comes exactly if the tests 1 to 4 are passed and no codes of these steps sort the night's cars; A is the least number of steps for
  -- which some do
  pub call-steps : (a b : ℕ) → (r ≡ says 5 a b) ↔ (DeriveGiven first_limits n h (length before) × (SortedIn n h → ⊥) × Least (SortedIn n) a × (b ≡ 0))
  call-steps a b = told-alike promise.answer (refuses-steps n h promise.found (length before) a b)

  -- 6 comes exactly if the tests 1 to 4 are passed and the codes with the fewest passes, which there are then, overfill a track: A is the
  -- first step that does, B what it finds there
  pub call-room : (a b : ℕ) → (r ≡ says 6 a b) ↔
      (DeriveGiven first_limits n h (length before) ×
      ((codes : List ℕ) × FewestPasses n h codes × Least (OverfullStep (plan_in n h codes)) a × (b ≡ pull_size (plan_in n h codes) a)))
  call-room a b =
      let exactly = told-alike promise.answer (refuses-room n h promise.found (length before) a b) in (
        λ e.
            let (given, sorted, overfull, cars) = exactly.0 e in
            (given, (promise.found, promise.fewest given sorted, overfull, cars)),
        λ (given, found).
            let (codes, few, overfull, cars) = found in
            let sorted = sorted_of n h codes few in
            let same = fewest-one n h codes promise.found few (promise.fewest given sorted) in
            exactly.1 (
              given,
              sorted,
              subst (λ (l : List ℕ). Least (OverfullStep (plan_in n h l)) a) same overfull,
              cars ∙ ap (λ (l : List ℕ). pull_size (plan_in n h l) a) same,
            ),
      )

  -- a refused call writes nothing
  pub call-refused : (r.number ≡ 0 → ⊥) → after ≡ before
  call-refused none = promise.codes ∙ written-refused r promise.found before none

-- ---- each call has one outcome for each input: one answer, and one content of the lent buffer

pub finds-one : (n : Night) (h : ℕ) (before : List ℕ) (r s : Answer) (after other : List ℕ) → FindsFewest n h before r after
    → FindsFewest n h before s other → (r ≡ s) × (after ≡ other)
finds-one n h before r s after other x y = (answer, go (eqb r.number 0) refl)
  where
    codes : DeriveGiven first_limits n h (length before) → SortedIn n h → x.found ≡ y.found
    codes given sorted = fewest-one n h x.found y.found (x.fewest given sorted) (y.fewest given sorted)

    answer : r ≡ s
    answer = x.answer ∙ (answer-same n h x.found y.found (length before) codes ∙ sym y.answer)

    go : (b : Bool) → eqb r.number 0 ≡ b → after ≡ other
    go true e =
        let f = (call-accepts n h before r after x).0 (eqb-true r.number 0 e) in
        x.codes ∙ (ap₂ (λ (a : Answer) (l : List ℕ). written a l before) answer (codes f.given (sorted_of n h f.codes f.fewest)) ∙ sym y.codes)
    go false e =
        let none = eqb-false r.number 0 e in
        call-refused n h before r after x none ∙
        sym (call-refused n h before s other y (λ z. none (ap (λ (a : Answer). a.number) answer ∙ z)))

-- ---- what two callers are told

-- with more steps the passes never grow, where both are accepted
pub calls-never-grow : (n : Night) (h g : ℕ) (before after before₂ after₂ : List ℕ) (r s : Answer) → h ≤ g → FindsFewest n h before r after
    → FindsFewest n g before₂ s after₂ → r.number ≡ 0 → s.number ≡ 0 → s.b ≤ r.b
unfolding passes
calls-never-grow n h g before after before₂ after₂ r s l x y z w =
    let one = call-tells n h before r after x z in
    let two = call-tells n g before₂ s after₂ y w in
    let given = ((call-accepts n h before r after x).0 z).given.given in
    let N = length n.inbound in
    omega (
      arith,
      one.passes,
      two.passes,
      fewest-never-grow n given.lists given.counts.tracks.0 h g (take N after) (take N after₂) l one.fewest two.fewest,
    )

-- with the steps that derive tells they are at most derive's, where both are accepted
pub calls-derived : (n : Night) (limit : ℕ) (before after before₂ after₂ : List ℕ) (r s : Answer) → Derives n limit before r after
    → FindsFewest n r.a before₂ s after₂ → r.number ≡ 0 → s.number ≡ 0 → s.b ≤ r.b
unfolding passes
calls-derived n limit before after before₂ after₂ r s x y z w =
    let one = derive.call-tells n limit before r after x z in
    let two = call-tells n r.a before₂ s after₂ y w in
    let N = length n.inbound in
    omega (arith, one.passes, two.passes, two.fewest.fewest (take N after) one.sorts)
