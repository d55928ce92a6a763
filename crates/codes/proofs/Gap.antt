-- The gap rule tells the usable codes, so its number is the fewest tracks of a code.
use mathlib.Core.Path.{◌≡◌, refl, sym, ap, ◌∙◌}
use mathlib.Core.Logic.{◌⊎◌, inl, inr, ⊎_elim, ◌↔◌}
use mathlib.Core.Bool.{Bool, true, false, cond}
use mathlib.Core.List.{List}
use Prim.Native.Nat.{ℕ, zero, suc, ◌+◌, ◌-◌, ◌^◌, max, ◌≤◌, ◌<◌}
use native.Mathlib.Nat.{le_refl, add-zero, zero-add, add-suc, le-add_right, lt_of_lt_of_le}
use native.Mathlib.Omega.{arith}
use lib.Dec.{leb}
use lib.ListN.{length, get_or, length-map}
use lib.Pow.{pow_mono}
use borrow.Author.Tests.{le-leb, lt-leb, leb-true}
use Rattle.yard.specs.Limits.{limits, first_limits}
use Rattle.yard.specs.Words.{up_from}
use Rattle.yard.specs.Replay.{bit}
use Rattle.yard.specs.Codes.{usable, fewest_tracks}
use Rattle.yard.proofs.general.Bools.{clash, same_test}
use Rattle.yard.proofs.general.Lists.{length-up_from}
use Rattle.yard.proofs.general.Numbers.{below_suc}
use Rattle.yard.proofs.general.First.{first_found}
use Rattle.yard.proofs.yards.Codes.{bit-above}
use Rattle.yard.proofs.yards.Early.{Gaps, highest}
use Rattle.yard.proofs.yards.Plans.{usable-gaps}
use Rattle.yard.proofs.yards.DerivedPlan.{map-item}
use Rattle.codes.specs.Gap.{height, widest_gap, gaps}

-- ---- the highest set bit

height-none : (h x : ℕ) → ((k : ℕ) → k < h → bit k x ≡ false) → height h x ≡ 0
height-none zero x none = refl
height-none (suc h) x none = rw (none h (omega arith)) (height-none h x (λ k m. none k (omega arith)))

height-at : (h x k : ℕ) → k < h → bit k x ≡ true → ((j : ℕ) → k < j → j < h → bit j x ≡ false) → height h x ≡ suc k
height-at zero x k m set free = absurd (omega arith)
height-at (suc h) x k m set free =
    ⊎_elim
    (λ e. let top : bit h x ≡ true = ap (λ (j : ℕ). bit j x) (sym e) ∙ set in rw top (ap suc (sym e)))
    (λ l. rw (free h l (omega arith)) (height-at h x k l set (λ j a b. free j a (omega arith))))
    (below_suc m)

-- ---- the rule

module _ (W h x : ℕ) where
  fewer : Gaps W (suc h) x → Gaps W h x
  fewer g = record { lowest = λ l b. g.lowest l (omega arith); neighbours = λ k l b c. g.neighbours k l b (omega arith) }

  -- the gap below a top bit
  last : Gaps W (suc h) x → bit h x ≡ true → suc h ≤ height h x + W
  last g e = go (highest x h)
    where
      go : ((k : ℕ) → k < h → bit k x ≡ false) ⊎ ((k : ℕ) × (k < h) × (bit k x ≡ true) × ((j : ℕ) → k < j → j < h → bit j x ≡ false)) → suc h ≤ height h x + W
      go (inl none) = omega (arith, height-none h x none, g.lowest h (le_refl (suc h)) e none)
      go (inr r) = omega (arith, height-at h x r.0 r.1 r.2 r.3, g.neighbours r.0 h r.1 (le_refl (suc h)) r.2 e r.3)

  more : Gaps W h x → (bit h x ≡ true → suc h ≤ height h x + W) → Gaps W (suc h) x
  more g top =
      record {
        lowest =
            λ l b set none.
            ⊎_elim
            (λ e. omega (arith, top (ap (λ (j : ℕ). bit j x) (sym e) ∙ set), height-none h x (λ k m. none k (omega arith))))
            (λ c. g.lowest l c set none)
            (below_suc b);
        neighbours =
            λ k l b c first set none.
            ⊎_elim
            (λ e. omega (arith, top (ap (λ (j : ℕ). bit j x) (sym e) ∙ set), height-at h x k (omega arith) first (λ j d m. none j d (omega arith))))
            (λ d. g.neighbours k l b d first set none)
            (below_suc c);
      }

pub gap-tells : (W h x : ℕ) → 0 < W → (widest_gap h x ≤ W) ↔ Gaps W h x
gap-tells W zero x pos = (λ _. record { lowest = λ l b. absurd (omega arith); neighbours = λ k l b c. absurd (omega arith) }, λ _. pos)
gap-tells W (suc h) x pos = go (bit h x) refl (gap-tells W h x pos)
  where
    go : (b : Bool) → bit h x ≡ b → ((widest_gap h x ≤ W) ↔ Gaps W h x)
        → (cond b (max (widest_gap h x) (suc h - height h x)) (widest_gap h x) ≤ W) ↔ Gaps W (suc h) x
    go true e lower = (λ m. more W h x (lower.0 (omega arith)) (λ _. omega arith), λ g. omega (arith, lower.1 (fewer W h x g), last W h x g e))
    go false e lower = (λ m. more W h x (lower.0 m) (λ set. clash set e), λ g. lower.1 (fewer W h x g))

pub usable-gap : (W h x : ℕ) → 0 < W → usable W h x ≡ leb (widest_gap h x) W
usable-gap W h x pos =
    same_test (usable W h x) (leb (widest_gap h x) W)
    (λ e. le-leb (widest_gap h x) W ((gap-tells W h x pos).1 ((usable-gaps W h x pos).0 e)))
    (λ e. (usable-gaps W h x pos).1 ((gap-tells W h x pos).0 (leb-true (widest_gap h x) W e)))

gap-range : (h x : ℕ) → (1 ≤ widest_gap h x) × (widest_gap h x ≤ max 1 h)
gap-range zero x = omega arith
gap-range (suc h) x = go (bit h x) (gap-range h x)
  where
    go : (b : Bool) → (1 ≤ widest_gap h x) × (widest_gap h x ≤ max 1 h)
        → (1 ≤ cond b (max (widest_gap h x) (suc h - height h x)) (widest_gap h x)) × (cond b (max (widest_gap h x) (suc h - height h x))
        (widest_gap h x) ≤ max 1 (suc h))
    go true r = omega arith
    go false r = omega arith

pub fewest-gap : (h x : ℕ) → 0 < h → fewest_tracks h x ≡ widest_gap h x
unfolding fewest_tracks
fewest-gap h x some =
    let w : ℕ = widest_gap h x in
    let r = gap-range h x in
    first_found (λ W. usable W h x) h 1 w r.0 (omega (arith, r.1))
    (usable-gap w h x r.0 ∙ le-leb w w (le_refl w))
    (λ W l m. usable-gap W h x l ∙ lt-leb w W m)

-- a code of fewer steps has the same number, and so the same fewest tracks
gap-grow : (d h x : ℕ) → x < 2 ^ h → widest_gap (h + d) x ≡ widest_gap h x
gap-grow zero h x m = ap (λ (k : ℕ). widest_gap k x) (add-zero h)
gap-grow (suc d) h x m =
    ap (λ (k : ℕ). widest_gap k x) (add-suc h d) ∙
    (ap (λ (b : Bool). cond b (max (widest_gap (h + d) x) (suc (h + d) - height (h + d) x)) (widest_gap (h + d) x))
    (bit-above (h + d) x (lt_of_lt_of_le m (pow_mono (le-add_right h d)))) ∙
    gap-grow d h x m)

pub fewest-grow : (h H x : ℕ) → 0 < h → h ≤ H → x < 2 ^ h → fewest_tracks H x ≡ fewest_tracks h x
fewest-grow h H x some l m =
    let e : h + (H - h) ≡ H = omega arith in
    fewest-gap H x (omega arith) ∙
    (ap (λ (k : ℕ). widest_gap k x) (sym e) ∙ (gap-grow (H - h) h x m ∙ sym (fewest-gap h x some)))

pub usable-grow : (W : ℕ) → 0 < W → (d h x : ℕ) → x < 2 ^ h → usable W (h + d) x ≡ usable W h x
usable-grow W pos d h x m = usable-gap W (h + d) x pos ∙ (ap (λ (w : ℕ). leb w W) (gap-grow d h x m) ∙ sym (usable-gap W h x pos))

pub usable-fewest : (W h H x : ℕ) → 0 < W → 0 < H → h ≤ H → x < 2 ^ h → usable W h x ≡ leb (fewest_tracks H x) W
usable-fewest W h H x pos some l m =
    let e : h + (H - h) ≡ H = omega arith in
    usable-gap W h x pos ∙
    ap (λ (w : ℕ). leb w W) (sym (gap-grow (H - h) h x m) ∙ (ap (λ (k : ℕ). widest_gap k x) e ∙ sym (fewest-gap H x some)))

-- ---- the rule over all codes of h steps, carried to each entry

pub gaps-length : (h : ℕ) → length (gaps h) ≡ 2 ^ h
gaps-length h = length-map (up_from 0 (2 ^ h)) (widest_gap h) ∙ length-up_from 0 (2 ^ h)

pub entry : (h code : ℕ) → code < 2 ^ h → get_or (gaps h) code 0 ≡ widest_gap h code
entry h code m = map-item (widest_gap h) 0 (2 ^ h) code m ∙ ap (widest_gap h) (zero-add code)

-- the same of a list that is the table
module _ (table : List ℕ) (is : table ≡ gaps first_limits.steps) where
  pub told : (code : ℕ) → code < 2 ^ first_limits.steps → get_or table code 0 ≡ widest_gap first_limits.steps code
  told code m = ap (λ (l : List ℕ). get_or l code 0) is ∙ entry first_limits.steps code m

  -- up to the table's end the fewest tracks are its entries, whatever the most steps
  pub told-fewest : (code : ℕ) → code < 2 ^ first_limits.steps → get_or table code 0 ≡ fewest_tracks limits.steps code
  told-fewest code m =
      told code m ∙
      (sym (fewest-gap first_limits.steps code (omega arith)) ∙
      sym (fewest-grow first_limits.steps limits.steps code (omega arith) (omega arith) m))
