-- F(h) is how many codes below 2^h are usable on W tracks, for every W and h: counted from the top bit, as in a(h) = F(h) - F(h - W).
use mathlib.Core.Path.{◌≡◌, refl, sym, ap, ap₂, ◌∙◌, subst}
use mathlib.Core.Logic.{◌⊎◌, inl, inr, ⊎_elim, ◌↔◌}
use mathlib.Core.Bool.{Bool, true, false, cond}
use mathlib.Core.List.{List}
use Prim.Native.Nat.{ℕ, zero, suc, ◌+◌, ◌-◌, ◌*◌, ◌/◌, ◌%◌, ◌^◌, ◌≤◌, ◌<◌}
use native.Mathlib.Nat.{le_of_suc-le-suc, sub-le, lt_of_lt_of_le, le-add_right, mod-lt, le_refl, add-zero, zero-add, add-suc, suc-add}
use native.Mathlib.Nat.{two-pow-succ, eq-or-lt_of_le, sub-zero, suc-sub-suc, one-mul, add_comm, pow-succ', add-mul-div_right}
use native.Mathlib.Nat.{add-mul-mod_self_left}
use native.Mathlib.Omega.{arith}
use lib.Dec.{eqb}
use lib.ListN.{length, take}
use lib.Pow.{pow_pos, pow_mono, pow-add, high}
use lib.Seq.{take-nil}
use Rattle.yard.specs.Words.{tally, total, count, keep, first, up_from}
use Rattle.yard.specs.Night.{sum}
use Rattle.yard.specs.Replay.{bit}
use Rattle.yard.specs.Codes.{descending, F}
use Rattle.yard.proofs.general.Bools.{clash, same_test, not_so}
use Rattle.yard.proofs.general.Numbers.{le-or-lt, below_suc}
use Rattle.yard.proofs.general.First.{first-from, first-le, first-none, first-hit}
use Rattle.yard.proofs.general.Lists.{total-same, total-length, total-keep, total-none, up_from-bounds}
use Rattle.yard.proofs.yards.Codes.{low-suc, low-all, bit-above}
use Rattle.yard.proofs.yards.Early.{Gaps, highest}

-- ---- the bits of a number with a top bit more

pub bit-top : (h x : ℕ) → x < 2 ^ h → bit h (2 ^ h + x) ≡ true
bit-top h x m = ap (λ (q : ℕ). eqb (q % 2) 1) (ap (λ (z : ℕ). (z + x) / 2 ^ h) (sym (one-mul (2 ^ h))) ∙ high 1 h m)

pub bit-under : (h x k : ℕ) → x < 2 ^ h → k < h → bit k (2 ^ h + x) ≡ bit k x
bit-under h x k m l =
    ap (λ (r : ℕ). eqb r 1) (ap (λ (q : ℕ). q % 2) shifted
    ∙ (ap (λ (z : ℕ). (x / 2 ^ k + z) % 2) (pow-succ' 2 (h - suc k)) ∙ add-mul-mod_self_left (x / 2 ^ k) 2 (2 ^ (h - suc k))))
  where
    parted : h ≡ suc (h - suc k) + k
    parted = omega arith

    shifted : (2 ^ h + x) / 2 ^ k ≡ x / 2 ^ k + 2 ^ suc (h - suc k)
    shifted =
        ap (λ (z : ℕ). z / 2 ^ k) (add_comm (2 ^ h) x ∙ ap (λ (z : ℕ). x + z) (ap (λ (j : ℕ). 2 ^ j) parted ∙ pow-add 2 (suc (h - suc k)) k)) ∙
        add-mul-div_right x (2 ^ suc (h - suc k)) (pow_pos k)

-- bits that are not set add nothing
low_same : (n g x : ℕ) → ((k : ℕ) → g ≤ k → k < g + n → bit k x ≡ false) → x % 2 ^ (g + n) ≡ x % 2 ^ g
low_same zero g x none = ap (λ (j : ℕ). x % 2 ^ j) (add-zero g)
low_same (suc n) g x none =
    ap (λ (j : ℕ). x % 2 ^ j) (add-suc g n) ∙
    (low-suc (g + n) x ∙
    (ap (λ (b : Bool). tally b * 2 ^ (g + n) + x % 2 ^ (g + n)) (none (g + n) (omega arith) (omega arith)) ∙
    omega (arith, low_same n g x (λ k u v. none k u (omega arith)))))

-- a number from 2^g on and below 2^h has a bit set from g on
pub some-bit : (g h x : ℕ) → g ≤ h → x < 2 ^ h → 2 ^ g ≤ x → (k : ℕ) × (g ≤ k) × (k < h) × (bit k x ≡ true)
some-bit g h x l m n =
    ⊎_elim
    (λ e. absurd (none e))
    (λ s. (first (λ k. bit k x) (h - g) g, first-from (λ k. bit k x) (h - g) g, s, first-hit (λ k. bit k x) (h - g) g (omega arith)))
    (eq-or-lt_of_le (found-le (first-le (λ k. bit k x) (h - g) g)))
  where
    whole : g + (h - g) ≡ h
    whole = omega arith

    found-le : first (λ k. bit k x) (h - g) g ≤ g + (h - g) → first (λ k. bit k x) (h - g) g ≤ h
    found-le e = omega arith

    none : first (λ k. bit k x) (h - g) g ≡ h → ⊥
    none e =
        omega (
          arith,
          low_same (h - g) g x (λ k u v. first-none (λ k. bit k x) (h - g) g k u (omega arith)),
          ap (λ (j : ℕ). x % 2 ^ j) whole,
          low-all h x m,
          mod-lt x (pow_pos g),
        )

-- ---- sums over consecutive numbers

pub total-split : (f : ℕ → ℕ) (c m n : ℕ) → total f (up_from c (m + n)) ≡ total f (up_from c m) + total f (up_from (c + m) n)
total-split f c zero n = omega (arith, ap (λ (k : ℕ). total f (up_from c k)) (zero-add n), ap (λ (k : ℕ). total f (up_from k n)) (add-zero c))
total-split f c (suc m) n =
    omega (
      arith,
      ap (λ (k : ℕ). total f (up_from c k)) (suc-add m n),
      total-split f (suc c) m n,
      ap (λ (k : ℕ). total f (up_from k n)) (add-suc c m ∙ sym (suc-add c m)),
    )

pub total-shift : (f : ℕ → ℕ) (c d n : ℕ) → total f (up_from (c + d) n) ≡ total (λ x. f (c + x)) (up_from d n)
total-shift f c d zero = refl
total-shift f c d (suc n) = omega (arith, ap (λ (k : ℕ). total f (up_from k n)) (sym (add-suc c d)), total-shift f c (suc d) n)

-- ---- F by its recursion

pub take-F : (W k h : ℕ) → k ≤ h → sum (take k (descending W h)) + F W (h - k) ≡ F W h
take-F W zero h l = ap (λ (j : ℕ). 0 + F W j) (sub-zero h) ∙ zero-add (F W h)
take-F W (suc k) zero l = absurd (omega arith)
take-F W (suc k) (suc h) l = omega (arith, take-F W k h (omega arith), ap (λ (j : ℕ). F W j) (suc-sub-suc h k))

pub take-F-all : (W k h : ℕ) → h < k → sum (take k (descending W h)) ≡ F W h
take-F-all W zero h l = absurd (omega arith)
take-F-all W (suc k) zero l = omega (arith, ap (λ (u : List ℕ). total (λ x. x) u) (take-nil {A = ℕ} k))
take-F-all W (suc k) (suc h) l = omega (arith, take-F-all W k h (omega arith))

-- each number of tracks from 1 on gives a usable code more for each step more
a-pos : (W h : ℕ) → 1 ≤ sum (take (suc W) (descending (suc W) h))
a-pos W zero = omega arith
a-pos W (suc h) = omega (arith, a-pos W h)

pub F-above : (W h : ℕ) → 0 < W → h < F W h
F-above W zero pos = omega arith
F-above zero (suc h) pos = absurd (omega arith)
F-above (suc W) (suc h) pos = omega (arith, F-above (suc W) h pos, a-pos W h)

pub F-rising : (W h : ℕ) → 0 < W → F W h < F W (suc h)
F-rising zero h pos = absurd (omega arith)
F-rising (suc W) h pos = omega (arith, a-pos W h)

-- more steps give no fewer usable codes
pub F-more : (W h d : ℕ) → 0 < W → F W h ≤ F W (h + d)
F-more W h zero pos = omega (arith, ap (F W) (add-zero h))
F-more W h (suc d) pos = omega (arith, ap (F W) (add-suc h d), F-rising W (h + d) pos, F-more W h d pos)

-- ---- the gap rule with a step more

module _ (W : ℕ) (pos : 0 < W) where
  pub gaps-less : (h x : ℕ) → Gaps W (suc h) x → Gaps W h x
  gaps-less h x g = record { lowest = λ l b. g.lowest l (omega arith); neighbours = λ k l b c. g.neighbours k l b (omega arith) }

  pub gaps-grow : (h x : ℕ) → x < 2 ^ h → Gaps W (suc h) x ↔ Gaps W h x
  gaps-grow h x m = (gaps-less h x, more)
    where
      within : (l : ℕ) → l < suc h → bit l x ≡ true → l < h
      within l b set = ⊎_elim (λ e. clash set (ap (λ (k : ℕ). bit k x) e ∙ bit-above h x m)) (λ c. c) (below_suc b)

      more : Gaps W h x → Gaps W (suc h) x
      more g =
          record {
            lowest = λ l b set. g.lowest l (within l b set) set;
            neighbours = λ k l b c first set. g.neighbours k l b (within l c set) first set;
          }

  -- a top bit is at most W above the next, or below W
  pub gaps-top : (h x : ℕ) → x < 2 ^ h → Gaps W (suc h) (2 ^ h + x) ↔ (Gaps W h x × ((h < W) ⊎ (2 ^ (h - W) ≤ x)))
  gaps-top h x m = (λ g. (under g, near g), above)
    where
      low : (k : ℕ) (b : Bool) → k < h → bit k x ≡ b → bit k (2 ^ h + x) ≡ b
      low k b l e = bit-under h x k m l ∙ e

      high : (k : ℕ) (b : Bool) → k < h → bit k (2 ^ h + x) ≡ b → bit k x ≡ b
      high k b l e = sym (bit-under h x k m l) ∙ e

      under : Gaps W (suc h) (2 ^ h + x) → Gaps W h x
      under g =
          record {
            lowest = λ l b set none. g.lowest l (omega arith) (low l true b set) (λ k c. low k false (omega arith) (none k c));
            neighbours =
                λ k l b c first set none.
                g.neighbours k l b (omega arith) (low k true (omega arith) first) (low l true c set)
                (λ j d e. low j false (omega arith) (none j d e));
          }

      near : Gaps W (suc h) (2 ^ h + x) → (h < W) ⊎ (2 ^ (h - W) ≤ x)
      near g = ⊎_elim (λ far. ⊎_elim (λ le. inr le) (λ lt. absurd (gap far lt (highest x h))) (le-or-lt (2 ^ (h - W)) x)) (λ b. inl b) (le-or-lt W h)
        where
          gap :
              W ≤ h → x < 2 ^ (h - W) →
              ((k : ℕ) → k < h → bit k x ≡ false) ⊎ ((k : ℕ) × (k < h) × (bit k x ≡ true) × ((j : ℕ) → k < j → j < h → bit j x ≡ false)) → ⊥
          gap far lt (inl none) = omega (arith, g.lowest h (omega arith) (bit-top h x m) (λ k c. low k false c (none k c)))
          gap far lt (inr r) =
              ⊎_elim
              (λ above. clash r.2 (bit-above r.0 x (lt_of_lt_of_le lt (pow_mono above))))
              (λ below. omega (
                arith,
                g.neighbours r.0 h r.1 (omega arith) (low r.0 true r.1 r.2) (bit-top h x m) (λ j d e. low j false e (r.3 j d e)),
              ))
              (le-or-lt (h - W) r.0)

      above : Gaps W h x × ((h < W) ⊎ (2 ^ (h - W) ≤ x)) → Gaps W (suc h) (2 ^ h + x)
      above p = record { lowest = lowest; neighbours = neighbours }
        where
          lowest : (l : ℕ) → l < suc h → bit l (2 ^ h + x) ≡ true → ((k : ℕ) → k < l → bit k (2 ^ h + x) ≡ false) → l < W
          lowest l b set none =
              ⊎_elim
              (λ e. ⊎_elim (λ s. omega arith) (λ s. some e (some-bit (h - W) h x (omega arith) m s)) p.1)
              (λ c. p.0.lowest l c (high l true c set) (λ k d. high k false (omega arith) (none k d)))
              (below_suc b)
            where
              some : l ≡ h → ((k : ℕ) × (h - W ≤ k) × (k < h) × (bit k x ≡ true)) → l < W
              some e r = clash (low r.0 true r.2 r.3) (none r.0 (subst (λ (j : ℕ). r.0 < j) (sym e) r.2))

          neighbours :
              (k l : ℕ) → k < l → l < suc h → bit k (2 ^ h + x) ≡ true → bit l (2 ^ h + x) ≡ true →
              ((j : ℕ) → k < j → j < l → bit j (2 ^ h + x) ≡ false) → l ≤ k + W
          neighbours k l b c first set none =
              ⊎_elim
              (λ e. ⊎_elim (λ s. omega arith) (λ s. some e (some-bit (h - W) h x (omega arith) m s)) p.1)
              (λ d. p.0.neighbours k l b d (high k true (omega arith) first) (high l true d set) (λ j u v. high j false (omega arith) (none j u v)))
              (below_suc c)
            where
              some : l ≡ h → ((j : ℕ) × (h - W ≤ j) × (j < h) × (bit j x ≡ true)) → l ≤ k + W
              some e r =
                  ⊎_elim
                  (λ le. omega (arith, r.1))
                  (λ lt. clash (low r.0 true r.2 r.3) (none r.0 lt (subst (λ (j : ℕ). r.0 < j) (sym e) r.2)))
                  (le-or-lt r.0 k)

-- ---- the count

-- how many of the numbers below n pass
abbrev pub passing : (ℕ → Bool) → ℕ → ℕ
passing p n = total (λ x. tally (p x)) (up_from 0 n)

pub length-passing : (p : ℕ → Bool) (c n : ℕ) → length (keep p (up_from c n)) ≡ total (λ x. tally (p x)) (up_from c n)
length-passing p c n =
    sym (total-length (keep p (up_from c n))) ∙
    (total-keep (λ x. 1) p (up_from c n) ∙ total-same _ _ (up_from c n) (λ x m. one (p x)))
  where
    one : (b : Bool) → cond b 1 0 ≡ tally b
    one true = refl
    one false = refl

-- tests u(h) that tell the gap rule at h steps
module _ (W : ℕ) (pos : 0 < W) (u : ℕ → ℕ → Bool) (tells : (h x : ℕ) → (u h x ≡ true) ↔ Gaps W h x) where
  grows : (h x : ℕ) → x < 2 ^ h → u (suc h) x ≡ u h x
  grows h x m =
      same_test (u (suc h) x) (u h x)
      (λ e. (tells h x).1 ((gaps-grow W pos h x m).0 ((tells (suc h) x).0 e)))
      (λ e. (tells (suc h) x).1 ((gaps-grow W pos h x m).1 ((tells h x).0 e)))

  grows-to : (d h x : ℕ) → x < 2 ^ h → u (h + d) x ≡ u h x
  grows-to zero h x m = ap (λ (k : ℕ). u k x) (add-zero h)
  grows-to (suc d) h x m =
      ap (λ (k : ℕ). u k x) (add-suc h d) ∙ (grows (h + d) x (lt_of_lt_of_le m (pow_mono (le-add_right h d))) ∙ grows-to d h x m)

  -- the codes with the top bit set
  tops : ℕ → ℕ
  tops h = total (λ x. tally (u (suc h) (2 ^ h + x))) (up_from 0 (2 ^ h))

  passing-suc : (h : ℕ) → passing (u (suc h)) (2 ^ suc h) ≡ passing (u h) (2 ^ h) + tops h
  unfolding tops
  passing-suc h =
      ap (λ (n : ℕ). passing (u (suc h)) n) (two-pow-succ h) ∙
      (total-split (λ x. tally (u (suc h) x)) 0 (2 ^ h) (2 ^ h) ∙
      ap₂ (λ (i j : ℕ). i + j)
      (total-same _ _ (up_from 0 (2 ^ h)) (λ x m. ap tally (grows h x (below x m))))
      (ap (λ (c : ℕ). total (λ x. tally (u (suc h) x)) (up_from c (2 ^ h))) (add_comm 0 (2 ^ h)) ∙ total-shift (λ x. tally (u (suc h) x)) (2 ^ h) 0 (2 ^ h)))
    where
      below : (x : ℕ) → 0 < count x (up_from 0 (2 ^ h)) → x < 2 ^ h
      below x m = omega (arith, up_from-bounds x 0 (2 ^ h) m)

  top_kept : (h x : ℕ) → x < 2 ^ h → (h < W) ⊎ (2 ^ (h - W) ≤ x) → u (suc h) (2 ^ h + x) ≡ u h x
  top_kept h x m s =
      same_test (u (suc h) (2 ^ h + x)) (u h x)
      (λ e. (tells h x).1 ((gaps-top W pos h x m).0 ((tells (suc h) (2 ^ h + x)).0 e)).0)
      (λ e. (tells (suc h) (2 ^ h + x)).1 ((gaps-top W pos h x m).1 ((tells h x).0 e, s)))

  top-lost : (h x : ℕ) → W ≤ h → x < 2 ^ (h - W) → u (suc h) (2 ^ h + x) ≡ false
  top-lost h x l m =
      not_so (u (suc h) (2 ^ h + x))
      (λ e. ⊎_elim (λ s. omega arith) (λ s. omega arith) ((gaps-top W pos h x (lt_of_lt_of_le m (pow_mono (sub-le h W)))).0 ((tells (suc h) (2 ^ h + x)).0 e)).1)

  tops-low : (h : ℕ) → h < W → tops h ≡ passing (u h) (2 ^ h)
  unfolding tops
  tops-low h l = total-same _ _ (up_from 0 (2 ^ h)) (λ x m. ap tally (top_kept h x (omega (arith, up_from-bounds x 0 (2 ^ h) m)) (inl l)))

  tops-high : (h : ℕ) → W ≤ h → tops h + passing (u (h - W)) (2 ^ (h - W)) ≡ passing (u h) (2 ^ h)
  unfolding tops
  tops-high h l =
      omega (
        arith,
        at (λ x. tally (u (suc h) (2 ^ h + x))),
        at (λ x. tally (u h x)),
        total-same (λ x. tally (u (suc h) (2 ^ h + x))) (λ x. 0) (up_from 0 g) (λ x m. ap tally (top-lost h x l (omega (arith, up_from-bounds x 0 g m)))),
        total-none (up_from 0 g),
        total-same (λ x. tally (u h x)) (λ x. tally (u (h - W) x)) (up_from 0 g)
            (λ x m. ap tally (ap (λ (k : ℕ). u k x) whole ∙ grows-to W (h - W) x (omega (arith, up_from-bounds x 0 g m)))),
        total-same (λ x. tally (u (suc h) (2 ^ h + x))) (λ x. tally (u h x)) (up_from (0 + g) (2 ^ h - g))
            (λ x m. ap tally (top_kept h x (omega (arith, up_from-bounds x (0 + g) (2 ^ h - g) m, fits))
            (inr (omega (arith, up_from-bounds x (0 + g) (2 ^ h - g) m))))),
      )
    where
      g : ℕ
      g = 2 ^ (h - W)

      fits : g ≤ 2 ^ h
      fits = pow_mono (sub-le h W)

      whole : h ≡ h - W + W
      whole = omega arith

      at : (f : ℕ → ℕ) → total f (up_from 0 (2 ^ h)) ≡ total f (up_from 0 g) + total f (up_from (0 + g) (2 ^ h - g))
      at f =
          let e : 2 ^ h ≡ g + (2 ^ h - g) = omega (arith, fits) in
          ap (λ (n : ℕ). total f (up_from 0 n)) e ∙ total-split f 0 g (2 ^ h - g)

  counts-none : passing (u 0) (2 ^ 0) ≡ F W 0
  counts-none = omega (arith, ap tally ((tells 0 0).1 (record { lowest = λ l b. absurd (omega arith); neighbours = λ k l b d. absurd (omega arith) })))

  counts-next : (j : ℕ) → ((i : ℕ) → i ≤ j → passing (u i) (2 ^ i) ≡ F W i) → passing (u (suc j)) (2 ^ suc j) ≡ F W (suc j)
  counts-next j lower =
      passing-suc j ∙
      ⊎_elim
      (λ far. omega (arith, tops-high j far, take-F W W j far, lower j (le_refl j), lower (j - W) (sub-le j W)))
      (λ near. omega (arith, tops-low j near, take-F-all W W j near, lower j (le_refl j)))
      (le-or-lt W j)

  counts-to : (h j : ℕ) → j ≤ h → passing (u j) (2 ^ j) ≡ F W j
  counts-to zero j l =
      let e : 0 ≡ j = omega arith in
      subst (λ (i : ℕ). passing (u i) (2 ^ i) ≡ F W i) e counts-none
  counts-to (suc h) j l =
      ⊎_elim
      (λ e. subst (λ (i : ℕ). passing (u i) (2 ^ i) ≡ F W i) (sym e) (counts-next h (counts-to h)))
      (λ m. counts-to h j (le_of_suc-le-suc m))
      (eq-or-lt_of_le l)

  pub F-counts : (h : ℕ) → passing (u h) (2 ^ h) ≡ F W h
  F-counts h = counts-to h h (le_refl h)
