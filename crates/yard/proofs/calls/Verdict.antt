-- Laws of a verdict: the first refusal of a call's tests is its answer, and where every test passes the answer is what the call says.
use Prim.Native.Nat.{ℕ}
use mathlib.Core.Path.{◌≡◌, refl, sym, ap, ◌∙◌}
use mathlib.Core.Logic.{◌↔◌}
use mathlib.Core.Bool.{Bool, true, false, cond}
use mathlib.Core.List.{List, [], ◌∷◌, ◌++◌}
use lib.Dec.{eqb}
use borrow.Author.Tests.{eqb-true, eqb-false, eq-eqb, ne_eqb}
use Rattle.yard.specs.declared.Answer.{Answer}
use Rattle.yard.specs.Answers.{says, test, verdict, onto, written}

-- every test of a list is passed
abbrev pub Passed : List Answer → Type 0
Passed [] = Unit {0}
Passed (t ∷ ts) = (t.number ≡ 0) × Passed ts

pub passed-append : (ts us : List Answer) → Passed (ts ++ us) ↔ (Passed ts × Passed us)
passed-append [] us = (λ p. (tt, p), λ p. p.1)
passed-append (t ∷ ts) us = (
  λ p. ((p.0, ((passed-append ts us).0 p.1).0), ((passed-append ts us).0 p.1).1),
  λ p. (p.0.0, (passed-append ts us).1 (p.0.1, p.1)),
)

-- a test is passed exactly if what it asks for holds
pub test-passed : (b : Bool) (refusal : Answer) → (refusal.number ≡ 0 → ⊥) → ((test b refusal).number ≡ 0) ↔ (b ≡ true)
test-passed true refusal h = (λ _. refl, λ _. refl)
test-passed false refusal h = (λ e. absurd (h e), λ e. ap (λ b. (test b refusal).number) e)

-- one test more in front: passed, it leaves the verdict to the others; refused, it is the verdict
pub verdict-after : (t : Answer) (ts : List Answer) (done : Answer) → t.number ≡ 0 → verdict (t ∷ ts) done ≡ verdict ts done
verdict-after t ts done e = ap (λ b. cond b (verdict ts done) t) (eq-eqb t.number 0 e)

pub verdict-refused : (t : Answer) (ts : List Answer) (done : Answer) → (t.number ≡ 0 → ⊥) → verdict (t ∷ ts) done ≡ t
verdict-refused t ts done h = ap (λ b. cond b (verdict ts done) t) (ne_eqb t.number 0 h)

pub verdict-append : (ts us : List Answer) (done : Answer) → verdict (ts ++ us) done ≡ verdict ts (verdict us done)
verdict-append [] us done = refl
verdict-append (t ∷ ts) us done = ap (λ v. cond (eqb t.number 0) v t) (verdict-append ts us done)

pub verdict-passed : (ts : List Answer) (done : Answer) → Passed ts → verdict ts done ≡ done
verdict-passed [] done p = refl
verdict-passed (t ∷ ts) done p = verdict-after t ts done p.0 ∙ verdict-passed ts done p.1

-- the verdict is the first refusal
pub verdict-first : (ts : List Answer) (t : Answer) (us : List Answer) (done : Answer) → Passed ts → (t.number ≡ 0 → ⊥) → verdict (ts ++ t ∷ us) done ≡ t
verdict-first ts t us done p h =
    verdict-append ts (t ∷ us) done ∙ verdict-passed ts (verdict (t ∷ us) done) p ∙ verdict-refused t us done h

-- the verdict is 0 exactly if every test is passed and the call's own answer is 0
cond-passes : (t later : Answer) (b : Bool) → eqb t.number 0 ≡ b → (cond b later t).number ≡ 0 → (t.number ≡ 0) × (later.number ≡ 0)
cond-passes t later true e h = (eqb-true t.number 0 e, h)
cond-passes t later false e h = absurd (eqb-false t.number 0 e h)

pub verdict-passes : (ts : List Answer) (done : Answer) → ((verdict ts done).number ≡ 0) ↔ (Passed ts × (done.number ≡ 0))
verdict-passes [] done = (λ e. (tt, e), λ p. p.1)
verdict-passes (t ∷ ts) done = (
  λ e.
      let front = cond-passes t (verdict ts done) (eqb t.number 0) refl e in
      let rest = (verdict-passes ts done).0 front.1 in
      ((front.0, rest.0), rest.1),
  λ p. ap (λ v. v.number) (verdict-passed (t ∷ ts) done p.0) ∙ p.1,
)

pub verdict-done : (ts : List Answer) (done : Answer) → (verdict ts done).number ≡ 0 → verdict ts done ≡ done
verdict-done ts done e = verdict-passed ts done ((verdict-passes ts done).0 e).0

-- a lent buffer after an accepted call, and after a refused one
pub written-accepted : (r : Answer) (items buffer : List ℕ) → r.number ≡ 0 → written r items buffer ≡ onto items buffer
written-accepted r items buffer e = ap (λ b. cond b (onto items buffer) buffer) (eq-eqb r.number 0 e)

pub written-refused : (r : Answer) (items buffer : List ℕ) → (r.number ≡ 0 → ⊥) → written r items buffer ≡ buffer
written-refused r items buffer h = ap (λ b. cond b (onto items buffer) buffer) (ne_eqb r.number 0 h)

-- ---- a call that goes from test to test

-- an answer that is a test's: refused, it is the call's; passed, the call goes on with the tests behind it
module _ (t : Answer) (ts : List Answer) (done r : Answer) (is : r ≡ t) where
  pub stops : (r.number ≡ 0 → ⊥) → r ≡ verdict (t ∷ ts) done
  stops n = is ∙ sym (verdict-refused t ts done (λ z. n (ap (λ (v : Answer). v.number) is ∙ z)))

  pub goes_on : (s : Answer) → r.number ≡ 0 → s ≡ verdict ts done → s ≡ verdict (t ∷ ts) done
  goes_on s z e = e ∙ sym (verdict-after t ts done (sym (ap (λ (v : Answer). v.number) is) ∙ z))

-- the same for the verdict on several tests
verdict-kept : (ts : List Answer) (x : Answer) → ((verdict ts (says 0 0 0)).number ≡ 0 → ⊥) → verdict ts (says 0 0 0) ≡ verdict ts x
verdict-kept [] x n = absurd (n refl)
verdict-kept (t ∷ ts) x n = go (eqb t.number 0) (verdict-kept ts x) n
  where
    go : (b : Bool) → (((verdict ts (says 0 0 0)).number ≡ 0 → ⊥) → verdict ts (says 0 0 0) ≡ verdict ts x)
        → ((cond b (verdict ts (says 0 0 0)) t).number ≡ 0 → ⊥) → cond b (verdict ts (says 0 0 0)) t ≡ cond b (verdict ts x) t
    go true later n = later n
    go false later n = refl

module _ (ts us : List Answer) (done r : Answer) (is : r ≡ verdict ts (says 0 0 0)) where
  pub stops-all : (r.number ≡ 0 → ⊥) → r ≡ verdict (ts ++ us) done
  stops-all n = is ∙ (verdict-kept ts (verdict us done) (λ z. n (ap (λ (v : Answer). v.number) is ∙ z)) ∙ sym (verdict-append ts us done))

  pub goes-on-all : (s : Answer) → r.number ≡ 0 → s ≡ verdict us done → s ≡ verdict (ts ++ us) done
  goes-on-all s z e = e
      ∙ (sym (verdict-passed ts (verdict us done)
      ((verdict-passes ts (says 0 0 0)).0 (sym (ap (λ (v : Answer). v.number) is) ∙ z)).0) ∙ sym (verdict-append ts us done))

-- the last test of a call that only tests is its answer
pub last-is : (b : Bool) (refusal : Answer) → (refusal.number ≡ 0 → ⊥) → test b refusal ≡ verdict (test b refusal ∷ []) (says 0 0 0)
last-is true refusal n = refl
last-is false refusal n = sym (verdict-refused refusal [] (says 0 0 0) n)

-- a verdict on some tests, taken as one test before what follows
pub verdict-nested : (ts : List Answer) (x : Answer) → verdict (verdict ts (says 0 0 0) ∷ []) x ≡ verdict ts x
verdict-nested [] x = refl
verdict-nested (t ∷ ts) x = go (eqb t.number 0) refl (verdict-nested ts x)
  where
    go : (b : Bool) → eqb t.number 0 ≡ b → verdict (verdict ts (says 0 0 0) ∷ []) x ≡ verdict ts x
        → verdict (cond b (verdict ts (says 0 0 0)) t ∷ []) x ≡ cond b (verdict ts x) t
    go true e later = later
    go false e later = ap (λ (b : Bool). cond b x t) e

-- tests that go on alike where those before are passed have one verdict
pub verdict-alike : (ts us vs : List Answer) (d e : Answer) → (Passed ts → verdict us d ≡ verdict vs e) → verdict (ts ++ us) d ≡ verdict (ts ++ vs) e
verdict-alike [] us vs d e same = same tt
verdict-alike (t ∷ ts) us vs d e same = go (eqb t.number 0) refl (λ z. verdict-alike ts us vs d e (λ p. same (z, p)))
  where
    go : (b : Bool) → eqb t.number 0 ≡ b → (t.number ≡ 0 → verdict (ts ++ us) d ≡ verdict (ts ++ vs) e)
        → cond b (verdict (ts ++ us) d) t ≡ cond b (verdict (ts ++ vs) e) t
    go true z later = later (eqb-true t.number 0 z)
    go false z later = refl
