-- The table of picks: one block's row, all rows, and the way along them.
use mathlib.Core.Path.{◌≡◌, refl, sym, subst, ap, ◌∙◌}
use mathlib.Core.Logic.{⊎_elim}
use mathlib.Core.List.{List, [], ◌∷◌}
use Prim.Native.Nat.{ℕ, zero, suc, ◌+◌, ◌-◌, ◌*◌, ◌≤◌, ◌<◌}
use native.Mathlib.Nat.{eq-or-lt_of_le, mul_comm, mul-add, suc-mul, mul-le-mul_left, mul-le-mul_right}
use native.Mathlib.Omega.{arith}
use lib.ListN.{length, get_or, take, drop, set, length-set, take-append-drop, get_or-eq_default}
use lib.Seq.{get_or-set_same, get_or-set_other}
use Rattle.yard.specs.Limits.{first_limits}
use Rattle.yard.specs.Night.{sum}
use Rattle.yard.proofs.general.Numbers.{le-or-lt}
use Rattle.yard.proofs.general.Lists.{total-append}
use Rattle.choice.specs.Choice.{half_of_numbers, picks_most, Choosable}
use Rattle.choice.specs.Rows.{first_least, together, Row, spare_of, value_of, priced_of, Table}
use Rattle.choice.proofs.FirstLeast.{first_least-to, first_least-same, Held}
use Rattle.choice.proofs.Path.{priced-small}

-- ---- one block

-- the row from d on is written, and what stands before d is as it was
pub record Rowed (g : ℕ → ℕ) (width d at : ℕ) (before begun : List ℕ) (least pick : ℕ) (after picks : List ℕ) : Type 0 where
  pub upto : d ≤ width
  pub held : Held g width d least pick
  pub done : Row g width d at begun after picks
  pub ahead : (e : ℕ) → e < d → get_or after e 0 ≡ get_or before e 0
  pub long : (length after ≡ length before) × (length picks ≡ length begun)

-- where the item of d is set, that of d is the one set, and those after it are as they were
set-from : (P : ℕ → ℕ → Type 0) (place : ℕ → ℕ) (l : List ℕ) {width d x : ℕ} → place d < length l →
    ((e : ℕ) → d < e → place e ≡ place d → ⊥) → P d x → ((e : ℕ) → suc d ≤ e → e < width → P e (get_or l (place e) 0)) →
    (e : ℕ) → d ≤ e → e < width → P e (get_or (set l (place d) x) (place e) 0)
set-from P place l {width} {d} {x} size apart here later e far near =
    ⊎_elim
    (λ q. subst (λ (k : ℕ). P k (get_or (set l (place d) x) (place k) 0)) q (subst (P d) (sym (get_or-set_same l (place d) x 0 size)) here))
    (λ m. subst (P e) (sym (get_or-set_other l (place d) (place e) x 0 (apart e m))) (later e m near))
    (eq-or-lt_of_le far)

module _ {g : ℕ → ℕ} {width at : ℕ} {before begun : List ℕ} where
  pub rowed-none : Rowed g width width at before begun 65535 0 before begun
  rowed-none =
      record {
        upto = omega arith;
        held = (λ far. refl, λ near. absurd (omega arith));
        done = record { pick = λ e far near. absurd (omega arith); least = λ e far near. absurd (omega arith); stays = λ i l. refl };
        ahead = λ e l. refl;
        long = (refl, refl);
      }

  pub rowed-next : {after picks : List ℕ} {d least pick v p : ℕ} → d < width → width ≤ length before → at + width ≤ length begun →
      Held g width d v p → Rowed g width (suc d) at before begun least pick after picks →
      Rowed g width d at before begun v p (set after d v) (set picks (at + d) p)
  rowed-next {after} {picks} {d} {least} {pick} {v} {p} l room places held r =
      let here = held.1 l in
      record {
        upto = omega arith;
        held = held;
        done =
            record {
              pick =
                  set-from (λ e x. x ≡ first_least g (width - suc e) e) (λ e. at + e) picks (omega (arith, r.long.1)) (λ e m q. omega arith) here.0
                  r.done.pick;
              least =
                  set-from (λ e x. x ≡ g (first_least g (width - suc e) e)) (λ e. e) after (omega (arith, r.long.0)) (λ e m q. omega arith)
                  (here.1 ∙ ap g here.0) r.done.least;
              stays = λ i far. get_or-set_other picks (at + d) i p 0 (λ q. omega arith) ∙ r.done.stays i far;
            };
        ahead = λ e m. get_or-set_other after d e v 0 (λ q. omega arith) ∙ r.ahead e (omega arith);
        long = (length-set after d v ∙ r.long.0, length-set picks (at + d) p ∙ r.long.1);
      }

-- ---- all blocks

-- two factors that add up to h and h + 1 at most
product_small : (h a b : ℕ) → a + b ≤ h + (h + 1) → a * b ≤ h * (h + 1)
product_small h a b l = ⊎_elim (λ m. half a b m l) (λ m. omega (arith, mul_comm a b, half b a (omega arith) (omega arith))) (le-or-lt a h)
  where
    half : (a b : ℕ) → a ≤ h → a + b ≤ h + (h + 1) → a * b ≤ h * (h + 1)
    half a b l m =
        let rest = h - a in
        let more : b ≤ (h + 1) + rest = omega arith in
        let few : a ≤ h + 1 = omega arith in
        let whole : a + rest ≡ h = omega arith in
        omega (
          arith,
          mul-le-mul_left a more,
          mul-add a (h + 1) rest,
          mul-le-mul_right rest few,
          mul_comm a (h + 1),
          mul-add (h + 1) a rest,
          ap (λ (k : ℕ). (h + 1) * k) whole,
          mul_comm (h + 1) h,
        )

-- what is left of a sum, without its first item and as a whole
sum-falls : (l : List ℕ) (b : ℕ) → get_or l b 0 + sum (drop (suc b) l) ≤ sum (drop b l)
sum-falls [] zero = omega arith
sum-falls [] (suc b) = omega arith
sum-falls (x ∷ l) zero = omega arith
sum-falls (x ∷ l) (suc b) = sum-falls l b

sum_left : (l : List ℕ) (b : ℕ) → sum (drop b l) ≤ sum l
sum_left l b = omega (arith, total-append (λ x. x) (take b l) (drop b l), ap sum (take-append-drop b l))

-- the blocks from b on have their picks in the table, and the row has what they cost
pub record Filled (weights costs : List ℕ) (b : ℕ) (behind picks : List ℕ) : Type 0 where
  pub upto : b ≤ length weights
  pub values : (d : ℕ) → d ≤ spare_of weights costs → get_or behind d 0 ≡ value_of weights costs b d
  pub table : Table weights costs b picks

module _ {weights costs : List ℕ} (ch : Choosable weights costs) where
  -- the row of a block lies in the table
  pub table-room : (b : ℕ) → b < length weights → b * (spare_of weights costs + 1) + (spare_of weights costs + 1) ≤ picks_most
  table-room b l =
      let width = spare_of weights costs + 1 in
      omega (
        arith,
        suc-mul b width,
        mul-le-mul_right width l,
        product_small half_of_numbers (length weights) width (omega (arith, ch.enough, ch.numbers)),
      )

  pub filled_none : {behind picks : List ℕ} → ((d : ℕ) → d ≤ spare_of weights costs → get_or behind d 0 ≡ 0) →
      Filled weights costs (length weights) behind picks
  filled_none zeros =
      let none : length weights - length weights ≡ 0 = omega arith in
      record { upto = omega arith; values = λ d l. zeros d l ∙ rw none refl; table = record { pick = λ b d far near l. absurd (omega arith) } }

  module _ (b : ℕ) {behind picks : List ℕ} (m : b < length weights) (f : Filled weights costs (suc b) behind picks) where
    agree : (e : ℕ) → e ≤ spare_of weights costs → together weights costs b behind e ≡ priced_of weights costs b e
    agree e l = ap (λ (v : ℕ). get_or weights b 0 * get_or costs (b + e) 0 + v) (f.values e l)

    pub together-small : (d : ℕ) → d ≤ spare_of weights costs → together weights costs b behind d ≤ 65535
    together-small d l =
        omega (
          arith,
          agree d l,
          priced-small (λ i. get_or weights i 0) (λ i. get_or costs i 0) (spare_of weights costs) (λ i. sum (drop i weights)) (sum-falls weights) small
              (length weights - suc b) b d,
          sum_left weights b,
          ch.cars,
        )
      where
        small : (i : ℕ) → get_or costs i 0 ≤ first_limits.steps
        small i = ⊎_elim (λ far. omega (arith, get_or-eq_default costs 0 far)) (λ near. ch.bits i near) (le-or-lt (length costs) i)

    pub filled_next : {width : ℕ} {after now : List ℕ} → width ≡ spare_of weights costs + 1 →
        Row (together weights costs b behind) width 0 (b * width) picks after now → Filled weights costs b after now
    filled_next {width} {after} {now} wide row =
        record {
          upto = omega arith;
          values =
              λ d l.
              let one : length weights - b ≡ suc (length weights - suc b) = omega arith in
              row.least d (omega arith) (omega arith) ∙
              (ap (together weights costs b behind) (same d l) ∙
              (agree (first_least priced (spare - d) d) (omega (arith, first_least-to priced (spare - d) d)) ∙ rw one refl));
          table =
              record {
                pick =
                    λ a d far near l.
                    ⊎_elim
                    (λ here. subst (λ (k : ℕ). get_or now (k * (spare + 1) + d) 0 ≡ first_least (priced_of weights costs k) (spare - d) d) here (picked d l))
                    (λ later. stays a d later ∙ f.table.pick a d later near l)
                    (eq-or-lt_of_le far);
              };
        }
      where
        spare : ℕ
        spare = spare_of weights costs

        priced : ℕ → ℕ
        priced = priced_of weights costs b

        same : (d : ℕ) → d ≤ spare → first_least (together weights costs b behind) (width - suc d) d ≡ first_least priced (spare - d) d
        same d l =
            let n : width - suc d ≡ spare - d = omega arith in
            ap (λ (k : ℕ). first_least (together weights costs b behind) k d) n ∙
            first_least-same (together weights costs b behind) priced (spare - d) d (λ e low high. agree e (omega arith))

        picked : (d : ℕ) → d ≤ spare → get_or now (b * (spare + 1) + d) 0 ≡ first_least priced (spare - d) d
        picked d l = ap (λ (k : ℕ). get_or now (b * k + d) 0) (sym wide) ∙ (row.pick d (omega arith) (omega arith) ∙ same d l)

        stays : (a d : ℕ) → b < a → get_or now (a * (spare + 1) + d) 0 ≡ get_or picks (a * (spare + 1) + d) 0
        stays a d later =
            row.stays (a * (spare + 1) + d)
            (omega (arith, suc-mul b (spare + 1), mul-le-mul_right (spare + 1) later, ap (λ (k : ℕ). b * k) wide))
