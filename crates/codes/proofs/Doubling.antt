-- The usable codes of a step more: those so far, and behind them, with the new bit, those of them that the step does not lose.
use mathlib.Core.Path.{◌≡◌, refl, sym, ap, ap₂, ◌∙◌}
use mathlib.Core.Logic.{◌⊎◌, inl, inr, ⊎_elim}
use mathlib.Core.Bool.{Bool, true, false, cond}
use mathlib.Core.List.{List, [], ◌∷◌, ◌++◌, map}
use Prim.Native.Nat.{ℕ, zero, suc, ◌+◌, ◌-◌, ◌^◌, ◌≤◌, ◌<◌}
use native.Mathlib.Nat.{add-zero, zero-add, add-suc, suc-add, sub-le, lt_of_lt_of_le, two-pow-succ}
use native.Mathlib.Numerals.{add-one}
use native.Mathlib.Omega.{arith}
use lib.ListN.{length, take, drop, set, length-append}
use lib.Pow.{pow_mono}
use lib.Seq.{drop-append_seam}
use borrow.Author.Tests.{le-leb, lt-leb}
use Rattle.yard.specs.Words.{keep, up_from}
use Rattle.yard.specs.Codes.{F, usable, usable_codes}
use Rattle.yard.proofs.general.Bools.{same_test, not_so}
use Rattle.yard.proofs.general.Numbers.{le-or-lt}
use Rattle.yard.proofs.general.Lists.{keep_append, keep_same, keep-none, up_from-bounds}
use Rattle.yard.proofs.yards.Counting.{gaps-top}
use Rattle.yard.proofs.yards.Allowed.{F-usable}
use Rattle.yard.proofs.yards.Plans.{usable-gaps}
use Rattle.yard.proofs.yards.DerivedPlan.{kept-item}
use Rattle.scan.specs.Front.{Under, Front}
use Rattle.codes.specs.Ring.{lost}
use Rattle.scan.proofs.Front.{front_items, front-over}
use Rattle.codes.proofs.Gap.{usable-gap, usable-grow}

-- ---- numbers that pass a test

up_from-append : (c m n : ℕ) → up_from c (m + n) ≡ up_from c m ++ up_from (c + m) n
up_from-append c zero n = ap₂ up_from (sym (add-zero c)) (zero-add n)
up_from-append c (suc m) n = ap (up_from c) (suc-add m n) ∙
    ap (λ (l : List ℕ). c ∷ l) (up_from-append (suc c) m n ∙ ap (λ (k : ℕ). up_from (suc c) m ++ up_from k n) (suc-add c m ∙ sym (add-suc c m)))

up_from-shift : (c d n : ℕ) → up_from (c + d) n ≡ map (λ x. c + x) (up_from d n)
up_from-shift c d zero = refl
up_from-shift c d (suc n) = ap (λ (l : List ℕ). (c + d) ∷ l) (ap (λ (k : ℕ). up_from k n) (sym (add-suc c d)) ∙ up_from-shift c (suc d) n)

keep-map : (p : ℕ → Bool) (g : ℕ → ℕ) (l : List ℕ) → keep p (map g l) ≡ map g (keep (λ x. p (g x)) l)
keep-map p g [] = refl
keep-map p g (x ∷ l) = go (p (g x)) (keep-map p g l)
  where
    go : (b : Bool) → keep p (map g l) ≡ map g (keep (λ y. p (g y)) l)
        → cond b (g x ∷ keep p (map g l)) (keep p (map g l)) ≡ map g (cond b (x ∷ keep (λ y. p (g y)) l) (keep (λ y. p (g y)) l))
    go true e = ap (λ (m : List ℕ). g x ∷ m) e
    go false e = e

-- a test that none of the first g numbers passes, and the others as q, leaves out what of those passes q
keep-behind : (p q : ℕ → Bool) (g n : ℕ) → g ≤ n → ((x : ℕ) → x < g → p x ≡ false) → ((x : ℕ) → g ≤ x → x < n → p x ≡ q x)
    → keep p (up_from 0 n) ≡ drop (length (keep q (up_from 0 g))) (keep q (up_from 0 n))
keep-behind p q g n l none same =
    parted p ∙
    (ap₂ (λ (a b : List ℕ). a ++ b)
    (keep-none p (up_from 0 g) (λ x m. none x (omega (arith, up_from-bounds x 0 g m))))
    (keep_same p q (up_from (0 + g) (n - g))
    (λ x m. same x (omega (arith, up_from-bounds x (0 + g) (n - g) m)) (omega (arith, up_from-bounds x (0 + g) (n - g) m)))) ∙
    sym (ap (drop (length (keep q (up_from 0 g)))) (parted q) ∙ drop-append_seam (keep q (up_from 0 g)) (keep q (up_from (0 + g) (n - g)))))
  where
    parted : (r : ℕ → Bool) → keep r (up_from 0 n) ≡ keep r (up_from 0 g) ++ keep r (up_from (0 + g) (n - g))
    parted r =
        let e : n ≡ g + (n - g) = omega arith in
        ap (λ (k : ℕ). keep r (up_from 0 k)) e ∙ (ap (keep r) (up_from-append 0 g (n - g)) ∙ keep_append r (up_from 0 g) (up_from (0 + g) (n - g)))

-- ---- a step more

module _ (W h : ℕ) (pos : 0 < W) where
  top : ℕ → Bool
  top x = usable W (suc h) (2 ^ h + x)

  top_kept : (x : ℕ) → x < 2 ^ h → (h < W) ⊎ (2 ^ (h - W) ≤ x) → top x ≡ usable W h x
  unfolding top
  top_kept x m near =
      same_test (usable W (suc h) (2 ^ h + x)) (usable W h x)
      (λ e. (usable-gaps W h x pos).1 ((gaps-top W pos h x m).0 ((usable-gaps W (suc h) (2 ^ h + x) pos).0 e)).0)
      (λ e. (usable-gaps W (suc h) (2 ^ h + x) pos).1 ((gaps-top W pos h x m).1 ((usable-gaps W h x pos).0 e, near)))

  top-lost : (x : ℕ) → W ≤ h → x < 2 ^ (h - W) → top x ≡ false
  unfolding top
  top-lost x far m =
      not_so (usable W (suc h) (2 ^ h + x))
      (λ e. ⊎_elim (λ s. omega arith) (λ s. omega arith)
      ((gaps-top W pos h x (lt_of_lt_of_le m (pow_mono (sub-le h W)))).0 ((usable-gaps W (suc h) (2 ^ h + x) pos).0 e)).1)

  tops : keep top (up_from 0 (2 ^ h)) ≡ drop (lost W h) (usable_codes W h)
  unfolding usable_codes
  tops = ⊎_elim far near (le-or-lt W h)
    where
      far : W ≤ h → keep top (up_from 0 (2 ^ h)) ≡ drop (lost W h) (usable_codes W h)
      far l =
          let whole : h - W + W ≡ h = omega arith in
          let first : keep (usable W h) (up_from 0 (2 ^ (h - W))) ≡ usable_codes W (h - W) =
          keep_same (usable W h) (usable W (h - W)) (up_from 0 (2 ^ (h - W)))
          (λ x m. ap (λ (k : ℕ). usable W k x) (sym whole) ∙ usable-grow W pos W (h - W) x (omega (arith, up_from-bounds x 0 (2 ^ (h - W)) m))) in
          rw (le-leb W h l)
          (keep-behind top (usable W h) (2 ^ (h - W)) (2 ^ h) (pow_mono (sub-le h W)) (λ x m. top-lost x l m) (λ x n m. top_kept x m (inr n)) ∙
          ap (λ (k : ℕ). drop k (usable_codes W h)) (ap length first ∙ F-usable W (h - W) pos))

      near : h < W → keep top (up_from 0 (2 ^ h)) ≡ drop (lost W h) (usable_codes W h)
      near l = rw (lt-leb W h l) (keep_same top (usable W h) (up_from 0 (2 ^ h)) (λ x m. top_kept x (omega (arith, up_from-bounds x 0 (2 ^ h) m)) (inl l)))

  pub usable-next : usable_codes W (h + 1) ≡ usable_codes W h ++ map (λ x. 2 ^ h + x) (drop (lost W h) (usable_codes W h))
  unfolding usable_codes top
  usable-next =
      let u : ℕ → Bool = usable W (suc h) in
      rw add-one
      (ap (λ (n : ℕ). keep u (up_from 0 n)) (two-pow-succ h) ∙
      (ap (keep u) (up_from-append 0 (2 ^ h) (2 ^ h)) ∙
      (keep_append u (up_from 0 (2 ^ h)) (up_from (0 + 2 ^ h) (2 ^ h)) ∙
      ap₂ (λ (a b : List ℕ). a ++ b)
      (keep_same u (usable W h) (up_from 0 (2 ^ h))
      (λ x m. ap (λ (k : ℕ). usable W k x) (sym (add-one h)) ∙ usable-grow W pos 1 h x (omega (arith, up_from-bounds x 0 (2 ^ h) m))))
      (ap (keep u) (ap (λ (k : ℕ). up_from k (2 ^ h)) (zero-add (2 ^ h) ∙ sym (add-zero (2 ^ h))) ∙ up_from-shift (2 ^ h) 0 (2 ^ h)) ∙
      (keep-map u (λ x. 2 ^ h + x) (up_from 0 (2 ^ h)) ∙
      ap (map (λ x. 2 ^ h + x)) tops)))))

  -- the codes written so far: how many there are, and each is below the bit of the next step
  module _ {s t : List ℕ} {n : ℕ} (f : Front (usable_codes W h) s n t) where
    pub written-number : n ≡ F W h
    written-number = f.number ∙ F-usable W h pos

    pub written_small : Under (2 ^ h) (take n t)
    unfolding usable_codes
    written_small = rw (front_items f) (λ i m. omega (arith, (kept-item (usable W h) 0 (2 ^ h) i m).2))

    pub written_next : {bit but r : ℕ} {u : List ℕ} → bit ≡ 2 ^ h → but ≡ lost W h
        → Front (take n t ++ map (λ x. bit + x) (drop but (take n t))) t r u → Front (usable_codes W (h + 1)) s r u
    written_next {bit} {but} {r} {u} e l g =
        let more = map (λ x. bit + x) (drop but (take n t)) in
        rw (usable-next, ← e, ← l) (front-over (λ items. items ++ map (λ x. bit + x) (drop but items))
        (omega (arith, f.number, g.number, ap length (front_items f), length-append (take n t) more)) f g)

-- no step yet: the code 0, and what stood in its place is nothing to the list
pub written_none : (W : ℕ) → 0 < W → (s : List ℕ) → 0 < length s → Front (usable_codes W 0) (set s 0 0) 1 (set s 0 0)
unfolding usable_codes
written_none W pos [] m = absurd (omega arith)
written_none W pos (x ∷ s) m = rw (usable-gap W 0 0 pos, le-leb 1 W pos) (record { number = refl; listed = refl })

pub written_all : {items u : List ℕ} {r : ℕ} (s : List ℕ) → 0 < r → Front items (set s 0 0) r u → Front items s r u
written_all [] m f = f
written_all {r = zero} (x ∷ s) m f = absurd (omega arith)
written_all {items} {r = suc r} (x ∷ s) m f =
    let same : drop (length items) (0 ∷ s) ≡ drop (length items) (x ∷ s) =
    ap (λ (k : ℕ). drop k (0 ∷ s)) (sym f.number) ∙ ap (λ (k : ℕ). drop k (x ∷ s)) f.number in
    record { number = f.number; listed = f.listed ∙ ap (λ (l : List ℕ). items ++ l) same }
