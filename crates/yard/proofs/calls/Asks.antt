-- The two readings of a call's asks agree: it accepts exactly if all that it asks holds, and it refuses with a number, A and B
-- exactly if the first ask that does not hold has that number and tells them.
use Prim.Native.Nat.{ℕ, suc, ◌+◌, ◌≤◌, ◌<◌}
use mathlib.Core.Path.{◌≡◌, refl, sym, ap, ap₂, ◌∙◌, subst}
use mathlib.Core.Logic.{inl, inr, ⊎_elim, ◌↔◌}
use mathlib.Core.Bool.{Bool, true, false}
use mathlib.Core.List.{List, [], ◌∷◌, ◌++◌}
use native.Mathlib.Nat.{suc-ne-zero, le_antisymm}
use native.Mathlib.Omega.{arith}
use Rattle.yard.specs.declared.Answer.{Answer}
use Rattle.yard.specs.Words.{first}
use Rattle.yard.specs.Demands.{Least}
use Rattle.yard.specs.Answers.{says, test, verdict, Ask, answers, AllHold, FirstFails, plain, least_with, least_of}
use Rattle.yard.proofs.general.Bools.{clash}
use Rattle.yard.proofs.general.First.{first-from, first-hit, first-least}
use Rattle.yard.proofs.calls.Verdict.{verdict-refused}

-- ---- an ask is right, and a list of asks is sound

-- it has a number, is passed exactly if what it asks holds, and where it is not its A and B are the only ones of which it tells
pub record Right (q : Ask) : Type 0 where
  pub named : q.number ≡ 0 → ⊥
  pub exactly : (q.passed ≡ true) ↔ q.asked
  pub tells : q.passed ≡ false → (a b : ℕ) → q.told a b ↔ ((a ≡ q.a) × (b ≡ q.b))

-- each ask may rest on those before it
abbrev pub Sound : List Ask → Type 0
Sound [] = Unit
Sound (q ∷ asks) = Right q × (q.asked → Sound asks)

pub holds-append : (xs ys : List Ask) → AllHold (xs ++ ys) ↔ (AllHold xs × AllHold ys)
holds-append [] ys = (λ h. (tt, h), λ h. h.1)
holds-append (q ∷ xs) ys = (
  λ h. let later = (holds-append xs ys).0 h.1 in ((h.0, later.0), later.1),
  λ h. (h.0.0, (holds-append xs ys).1 (h.0.1, h.1)),
)

pub sound-append : (xs ys : List Ask) → Sound xs → (AllHold xs → Sound ys) → Sound (xs ++ ys)
sound-append [] ys s more = more tt
sound-append (q ∷ xs) ys s more = (s.0, λ h. sound-append xs ys (s.1 h) (λ hs. more (h, hs)))

-- ---- accepted, and refused

pub answer-of : {k l a b c d : ℕ} → k ≡ l → a ≡ c → b ≡ d → says k a b ≡ says l c d
answer-of {l = l} {a = a} {b = b} e f g = ap (λ (x : ℕ). says x a b) e ∙ ap₂ (λ (x y : ℕ). says l x y) f g

-- what is said of an answer holds of one that is the same
pub told-alike : {r s x : Answer} {P : Type 0} → r ≡ s → ((s ≡ x) ↔ P) → (r ≡ x) ↔ P
told-alike same exactly = (λ e. exactly.0 (sym same ∙ e), λ h. same ∙ exactly.1 h)

-- an ask that is refused is the verdict
refused : (q : Ask) (asks : List Ask) (done : Answer) → Right q → verdict (says q.number q.a q.b ∷ answers asks) done ≡ says q.number q.a q.b
refused q asks done right = verdict-refused (says q.number q.a q.b) (answers asks) done right.named

-- no other ask of a list has this number
abbrev pub Unnamed : ℕ → List Ask → Type 0
Unnamed k [] = Unit
Unnamed k (q ∷ asks) = (q.number ≡ k → ⊥) × Unnamed k asks

never-named : (k a b : ℕ) (asks : List Ask) → Unnamed k asks → FirstFails k a b asks → ⊥
never-named k a b [] u f = f
never-named k a b (q ∷ asks) u f = ⊎_elim (λ g. u.0 g.1) (λ g. never-named k a b asks u.1 g.1) f

pub fails-past : (k a b : ℕ) (xs ys : List Ask) → Unnamed k xs → FirstFails k a b (xs ++ ys) ↔ (AllHold xs × FirstFails k a b ys)
fails-past k a b [] ys u = (λ f. (tt, f), λ f. f.1)
fails-past k a b (q ∷ xs) ys u = (
  ⊎_elim (λ f. absurd (u.0 f.1)) (λ f. let g = (fails-past k a b xs ys u.1).0 f.1 in ((f.0, g.0), g.1)),
  λ f. inr (f.0.0, (fails-past k a b xs ys u.1).1 (f.0.1, f.1)),
)

-- the first to fail is an ask whose number no other has
pub fails-at : (xs : List Ask) (q : Ask) (ys : List Ask) → Unnamed q.number xs → Unnamed q.number ys
    → (a b : ℕ) → FirstFails q.number a b (xs ++ (q ∷ ys)) ↔ (AllHold xs × (q.asked → ⊥) × q.told a b)
fails-at xs q ys before behind a b =
    let past = fails-past q.number a b xs (q ∷ ys) before in (
      λ e.
          let f = past.0 e in
          ⊎_elim (λ g. (f.0, g.0, g.2)) (λ g. absurd (never-named q.number a b ys behind g.1)) f.1,
      λ h. past.1 (h.0, inl (h.1, refl, h.2)),
    )

-- what fails behind asks that hold is the first to fail
pub fails-behind : (k a b : ℕ) (xs ys : List Ask) → AllHold xs → FirstFails k a b ys → FirstFails k a b (xs ++ ys)
fails-behind k a b [] ys h f = f
fails-behind k a b (q ∷ xs) ys h f = inr (h.0, fails-behind k a b xs ys h.1 f)

module _ (done : Answer) (accepts : done.number ≡ 0) where
  pub accepted-exactly : (asks : List Ask) → Sound asks → ((verdict (answers asks) done).number ≡ 0) ↔ AllHold asks
  accepted-exactly [] s = (λ e. tt, λ h. accepts)
  accepted-exactly (q ∷ asks) s = go q.passed refl (λ h. accepted-exactly asks (s.1 h))
    where
      go : (b : Bool) → q.passed ≡ b → (q.asked → ((verdict (answers asks) done).number ≡ 0) ↔ AllHold asks)
          → ((verdict (test b (says q.number q.a q.b) ∷ answers asks) done).number ≡ 0) ↔ (q.asked × AllHold asks)
      go true e later = let h = s.0.exactly.0 e in (λ z. (h, (later h).0 z), λ all. (later h).1 all.1)
      go false e later = (
        λ z. absurd (s.0.named (sym (ap (λ (r : Answer). r.number) (refused q asks done s.0)) ∙ z)),
        λ all. clash (s.0.exactly.1 all.0) e,
      )

  pub refused-exactly : (k a b : ℕ) → 0 < k → (asks : List Ask) → Sound asks → (verdict (answers asks) done ≡ says k a b) ↔ FirstFails k a b asks
  refused-exactly k a b pos [] s = (λ e. omega (arith, accepts, pos, ap (λ (r : Answer). r.number) e), λ f. absurd f)
  refused-exactly k a b pos (q ∷ asks) s = go q.passed refl (λ h. refused-exactly k a b pos asks (s.1 h))
    where
      go : (c : Bool) → q.passed ≡ c → (q.asked → (verdict (answers asks) done ≡ says k a b) ↔ FirstFails k a b asks)
          → (verdict (test c (says q.number q.a q.b) ∷ answers asks) done ≡ says k a b) ↔ FirstFails k a b (q ∷ asks)
      go true e later =
          let h = s.0.exactly.0 e in
          (λ z. inr (h, (later h).0 z), ⊎_elim (λ f. absurd (f.0 h)) (λ f. (later h).1 f.1))
      go false e later = (
        λ z.
            let same = sym (refused q asks done s.0) ∙ z in
            inl (
              λ h. clash (s.0.exactly.1 h) e,
              ap (λ (r : Answer). r.number) same,
              (s.0.tells e a b).1 (sym (ap (λ (r : Answer). r.a) same), sym (ap (λ (r : Answer). r.b) same)),
            ),
        ⊎_elim
            (λ f. let own = (s.0.tells e a b).0 f.2 in refused q asks done s.0 ∙ answer-of f.1 (sym own.0) (sym own.1))
            (λ f. clash (s.0.exactly.1 f.0) e),
      )

  -- refused at an ask whose number no other has: those before it hold, it does not, and it tells A and B
  pub refused-at : (xs : List Ask) (q : Ask) (ys : List Ask) → 0 < q.number → Sound (xs ++ (q ∷ ys)) → Unnamed q.number xs → Unnamed q.number ys
      → (a b : ℕ) → (verdict (answers (xs ++ (q ∷ ys))) done ≡ says q.number a b) ↔ (AllHold xs × (q.asked → ⊥) × q.told a b)
  refused-at xs q ys pos s before behind a b =
      let whole = refused-exactly q.number a b pos (xs ++ (q ∷ ys)) s in
      let at = fails-at xs q ys before behind a b in
      (λ e. at.0 (whole.0 e), λ h. whole.1 (at.1 h))

-- ---- the least such

pub least-one : {P : ℕ → Type 0} {x y : ℕ} → Least P x → Least P y → x ≡ y
least-one {x = x} {y = y} l m = le_antisymm (l.least y m.holds) (m.least x l.holds)

pub least-exactly : {P : ℕ → Type 0} {x : ℕ} → Least P x → (y : ℕ) → Least P y ↔ (y ≡ x)
least-exactly {P} l y = (λ m. least-one m l, λ e. subst (Least P) (sym e) l)

-- a search finds the least, where it finds one and the statement is that of its test
pub first-is-least : (p : ℕ → Bool) (n a : ℕ) (P : ℕ → Type 0)
    → ((j : ℕ) → a ≤ j → j < a + n → p j ≡ true → P j)
    → ((j : ℕ) → P j → (a ≤ j) × (j < a + n) × (p j ≡ true))
    → first p n a < a + n
    → Least P (first p n a)
first-is-least p n a P into outof found =
    record {
      holds = into (first p n a) (first-from p n a) found (first-hit p n a found);
      least = λ j h. let w = outof j h in ⊎_elim (λ le. le) (λ far. omega (arith, far, w.1)) (first-least p n a j w.0 w.2);
    }

-- ---- an ask of either kind is right

pub plain-right : (k : ℕ) (passed : Bool) (a : ℕ) (asked : Type 0) → ((passed ≡ true) ↔ asked) → Right (plain (suc k) passed a asked)
plain-right k passed a asked exactly = record { named = suc-ne-zero k; exactly = exactly; tells = λ e x y. (λ t. t, λ t. t) }

pub least-with-right : (k : ℕ) (passed : Bool) (a b : ℕ) (asked : Type 0) (P : ℕ → Type 0) (R : ℕ → ℕ → Type 0) → ((passed ≡ true) ↔ asked)
    → (passed ≡ false → Least P a) → (passed ≡ false → (y : ℕ) → R a y ↔ (y ≡ b)) → Right (least_with (suc k) passed a b asked P R)
least-with-right k passed a b asked P R exactly least detail =
    record {
      named = suc-ne-zero k;
      exactly = exactly;
      tells =
          λ e x y.
          let own = least-exactly (least e) x in (
            λ t. let same = own.0 t.0 in (same, (detail e y).0 (subst (λ (s : ℕ). R s y) same t.1)),
            λ t. (own.1 t.0, subst (λ (s : ℕ). R s y) (sym t.0) ((detail e y).1 t.1)),
          );
    }

pub least-right : (k : ℕ) (passed : Bool) (a : ℕ) (asked : Type 0) (P : ℕ → Type 0) → ((passed ≡ true) ↔ asked)
    → (passed ≡ false → Least P a) → Right (least_of (suc k) passed a asked P)
least-right k passed a asked P exactly least = least-with-right k passed a 0 asked P (λ x y. y ≡ 0) exactly least (λ e y. (λ z. z, λ z. z))
