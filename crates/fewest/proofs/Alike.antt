-- Cars between two breaks of a train have one code where the passes are fewest: if two neighbours differed, one of them could take the
-- other's code, for fewer passes or for as few and a smaller list.
use mathlib.Core.Path.{◌≡◌, refl, sym, ap, ◌∙◌, subst}
use mathlib.Core.Logic.{⊎_elim}
use mathlib.Core.Bool.{Bool, true, false, cond}
use mathlib.Core.List.{List, map}
use Prim.Native.Nat.{ℕ, suc, ◌+◌, ◌^◌, ◌≤◌, ◌<◌}
use native.Mathlib.Nat.{eq-or-lt_of_le, suc_inj}
use native.Mathlib.Omega.{arith}
use lib.Count.{ones}
use lib.Dec.{eqb}
use lib.ListN.{length}
use borrow.Author.Tests.{leb-true, ltb-true, le-leb, lt-ltb, eq-eqb, ne_eqb, eqb-true, eqb-false}
use Rattle.yard.specs.Words.{total, up_from}
use Rattle.yard.specs.Night.{Night, cars, item_of, pair, broken}
use Rattle.yard.specs.Replay.{passes}
use Rattle.yard.specs.Answers.{ruled}
use Rattle.yard.specs.Demands.{Within, Listed, Sorts}
use Rattle.yard.proofs.general.Bools.{split}
use Rattle.yard.proofs.yards.Early.{Gaps}
use Rattle.yard.proofs.yards.Plans.{never-gaps}
use Rattle.yard.proofs.yards.Building.{came-once}
use Rattle.yard.proofs.yards.Clear.{clear-some}
use Rattle.yard.proofs.yards.PlanYard.{passes-whole, total-codes, total-map}
use Rattle.yard.proofs.yards.DerivedPlan.{coded-sorts, by-car}
use Rattle.fewest.specs.Fewest.{plan_in, FewestPasses}
use Rattle.fewest.proofs.Numbers.{sorts-ruled}
use Rattle.yard.proofs.general.Lists.{total-but}

-- a rule that holds of low and high holds of numbers no nearer
ruled-wider : (b : Bool) (low high less more : ℕ) → less ≤ low → high ≤ more → ruled low high b ≡ true → ruled less more b ≡ true
ruled-wider true low high less more l m e = lt-ltb less more (omega (arith, ltb-true low high e))
ruled-wider false low high less more l m e = le-leb less more (omega (arith, leb-true low high e))

module _ (n : Night) (h : ℕ) (f : Listed n.lengths n.inbound) (pos : 0 < n.tracks) (codes : List ℕ) (s : Sorts (plan_in n h codes)) where
  abbrev N : ℕ
  N = length n.inbound

  -- the codes, but for one car that takes the code of another
  changed : ℕ → ℕ → ℕ → ℕ
  changed k i car = cond (eqb car k) (item_of codes i) (item_of codes car)

  here : (k i : ℕ) → changed k i k ≡ item_of codes i
  unfolding changed
  here k i = ap (λ (b : Bool). cond b (item_of codes i) (item_of codes k)) (eq-eqb k k refl)

  else-where : (k i car : ℕ) → (car ≡ k → ⊥) → changed k i car ≡ item_of codes car
  unfolding changed
  else-where k i car apart = ap (λ (b : Bool). cond b (item_of codes i) (item_of codes car)) (ne_eqb car k apart)

  -- each car has the code of some car
  of_some : (P : ℕ → Type 0) (k i car : ℕ) → P (item_of codes i) → P (item_of codes car) → P (changed k i car)
  unfolding changed
  of_some P k i car p q = go (eqb car k)
    where
      go : (b : Bool) → P (cond b (item_of codes i) (item_of codes car))
      go true = p
      go false = q

  module _ (k i : ℕ) (w : Within 1 N k) (v : Within 1 N i)
      (rules : (j : ℕ) → 1 ≤ j → j < N → pair n.lengths j ≡ true → ruled (changed k i j) (changed k i (suc j)) (broken n.inbound j) ≡ true) where
    exchanged : List ℕ
    exchanged = map (changed k i) (cars N)

    sorts : Sorts (plan_in n h exchanged)
    unfolding exchanged
    sorts =
        coded-sorts n f pos h (changed k i)
        (λ car u. of_some (λ x. (x < 2 ^ h) × Gaps n.tracks h x × (n.closed ≡ true → 0 < x)) k i car (fits i v) (fits car u)) rules
      where
        fits : (car : ℕ) → Within 1 N car → (item_of codes car < 2 ^ h) × Gaps n.tracks h (item_of codes car) × (n.closed ≡ true → 0 < item_of codes car)
        fits car u = (
          s.codes.below car (u.0, omega (arith, u.1, s.codes.each)),
          (never-gaps (plan_in n h codes) pos).0 s.never car (omega (arith, came-once n.lengths n.inbound f car u)),
          clear-some (plan_in n h codes) f pos s.codes s.clear car u,
        )

    counted : passes (plan_in n h exchanged) h + ones (item_of codes k) ≡ passes (plan_in n h codes) h + ones (item_of codes i)
    unfolding exchanged
    counted =
        omega (
          arith,
          passes-whole (plan_in n h exchanged) f sorts.codes sorts.never,
          passes-whole (plan_in n h codes) f s.codes s.never,
          total-map (λ x. ones x) (changed k i) (cars N),
          sym (total-codes codes (λ x. ones x)) ∙ ap (λ (m : ℕ). total (λ car. ones (item_of codes car)) (up_from 1 m)) s.codes.each,
          total-but (λ car. ones (changed k i car)) (λ car. ones (item_of codes car)) 1 N k w.0 (omega (arith, w.1))
              (λ j apart. ap (λ (x : ℕ). ones x) (else-where k i j apart)),
          ap (λ (x : ℕ). ones x) (here k i),
        )

    -- so where the passes are fewest the exchange takes as many at least, and no smaller code where it takes as many
    dearer : FewestPasses n h codes → ones (item_of codes k) ≤ ones (item_of codes i)
    dearer few = omega (arith, counted, few.fewest exchanged sorts)

    smaller : FewestPasses n h codes → ones (item_of codes k) ≡ ones (item_of codes i) → item_of codes i < item_of codes k → ⊥
    unfolding exchanged
    smaller few same less =
        few.smallest exchanged sorts (omega (arith, counted, same))
        (record {
          car = k;
          within = (w.0, omega (arith, w.1, s.codes.each));
          alike = λ j l m. by-car (changed k i) N j (l, omega (arith, w.1)) ∙ else-where k i j (λ e. omega arith);
          smaller = omega (arith, by-car (changed k i) N k w, here k i, less);
        })

  -- two numbers are the same or not
  compare : (A : Type 0) (k j : ℕ) → (k ≡ j → A) → ((k ≡ j → ⊥) → A) → A
  compare A k j same other = ⊎_elim (λ e. same (eqb-true k j e)) (λ e. other (eqb-false k j e)) (split (eqb k j))

  -- a pair that is no break
  module _ (j : ℕ) (l : 1 ≤ j) (m : j < N) (joined : pair n.lengths j ≡ true) (whole : broken n.inbound j ≡ false) where
    up : item_of codes j ≤ item_of codes (suc j)
    up =
        leb-true (item_of codes j) (item_of codes (suc j))
        (ap (ruled (item_of codes j) (item_of codes (suc j))) (sym whole) ∙ sorts-ruled n h f codes s j l m joined)

    -- one car of the pair may take the other's code: the pair itself has then one code, and every other is no nearer
    module _ (k i : ℕ) (alike : changed k i j ≡ changed k i (suc j))
        (wider : (p : ℕ) → (p ≡ j → ⊥) → (changed k i p ≤ item_of codes p) × (item_of codes (suc p) ≤ changed k i (suc p))) where
      takes : (p : ℕ) → 1 ≤ p → p < N → pair n.lengths p ≡ true → ruled (changed k i p) (changed k i (suc p)) (broken n.inbound p) ≡ true
      takes p a b e =
          compare (ruled (changed k i p) (changed k i (suc p)) (broken n.inbound p) ≡ true) p j
          (λ same.
          subst (λ (q : ℕ). ruled (changed k i q) (changed k i (suc q)) (broken n.inbound q) ≡ true) (sym same)
          (ap (ruled (changed k i j) (changed k i (suc j))) whole ∙ le-leb (changed k i j) (changed k i (suc j)) (omega (arith, alike))))
          (λ other.
          ruled-wider (broken n.inbound p) (item_of codes p) (item_of codes (suc p)) (changed k i p) (changed k i (suc p))
          (wider p other).0 (wider p other).1 (sorts-ruled n h f codes s p a b e))

    -- the second that of the first, and the first that of the second
    lower : (p : ℕ) → 1 ≤ p → p < N → pair n.lengths p ≡ true
        → ruled (changed (suc j) j p) (changed (suc j) j (suc p)) (broken n.inbound p) ≡ true
    lower =
        takes (suc j) j (else-where (suc j) j j (λ e. omega arith) ∙ sym (here (suc j) j))
        (λ p other. (
          compare (changed (suc j) j p ≤ item_of codes p) p (suc j)
              (λ e. subst (λ (q : ℕ). changed (suc j) j q ≤ item_of codes q) (sym e) (omega (arith, here (suc j) j, up)))
              (λ e. omega (arith, else-where (suc j) j p e)),
          omega (arith, else-where (suc j) j (suc p) (λ e. other (suc_inj e))),
        ))

    higher : (p : ℕ) → 1 ≤ p → p < N → pair n.lengths p ≡ true
        → ruled (changed j (suc j) p) (changed j (suc j) (suc p)) (broken n.inbound p) ≡ true
    higher =
        takes j (suc j) (here j (suc j) ∙ sym (else-where j (suc j) (suc j) (λ e. omega arith)))
        (λ p other. (
          omega (arith, else-where j (suc j) p other),
          compare (item_of codes (suc p) ≤ changed j (suc j) (suc p)) (suc p) j
              (λ e. subst (λ (q : ℕ). item_of codes q ≤ changed j (suc j) q) (sym e) (omega (arith, here j (suc j), up)))
              (λ e. omega (arith, else-where j (suc j) (suc p) e)),
        ))

    -- so where the passes are fewest its two cars have one code
    pub one_code : FewestPasses n h codes → item_of codes j ≡ item_of codes (suc j)
    one_code few =
        let first : Within 1 N j = (l, omega arith) in
        let second : Within 1 N (suc j) = (omega arith, m) in
        let more = dearer (suc j) j second first lower few in
        let fewer = dearer j (suc j) first second higher few in
        ⊎_elim (λ e. e) (λ lt. absurd (smaller (suc j) j second first lower few (omega (arith, more, fewer)) lt)) (eq-or-lt_of_le up)
