-- What is picked block by block is the cheapest rising choice.
use mathlib.Core.Path.{◌≡◌, refl, ap, ap₂, ◌∙◌}
use mathlib.Core.Logic.{⊎_elim}
use Prim.Native.Nat.{ℕ, zero, suc, ◌+◌, ◌-◌, ◌*◌, ◌≤◌, ◌<◌}
use native.Mathlib.Nat.{mul-le-mul_left, add-sub_of_le, zero-add}
use native.Mathlib.Omega.{arith}
use Rattle.yard.specs.Limits.{first_limits}
use Rattle.yard.specs.Words.{total, up_from}
use Rattle.yard.proofs.general.Numbers.{le-or-lt}
use Rattle.yard.proofs.general.Lists.{total-same, up_from-bounds}
use Rattle.yard.proofs.yards.Counting.{total-split}
use Rattle.choice.specs.Choice.{Rising, bill}
use Rattle.choice.specs.Rows.{first_least, value, priced}
use Rattle.choice.proofs.FirstLeast.{first_least-from, first_least-to, first_least-least, first_least-first}

-- no block costs more, with those behind it, than the weights from it on allow
pub priced-small : (w c : ℕ → ℕ) (spare : ℕ) (left : ℕ → ℕ) → ((b : ℕ) → w b + left (suc b) ≤ left b) → ((i : ℕ) → c i ≤ first_limits.steps) →
    (k b d : ℕ) → priced w c spare k b d ≤ first_limits.steps * left b
priced-small w c spare left falls small zero b d = omega (arith, mul-le-mul_left (w b) (small (b + d)), falls b)
priced-small w c spare left falls small (suc k) b d =
    let e = first_least (priced w c spare k (suc b)) (spare - d) d in
    omega (arith, mul-le-mul_left (w b) (small (b + d)), falls b, priced-small w c spare left falls small k (suc b) e)

-- ---- any choice that rises costs at least as much

module _ (w c : ℕ → ℕ) (spare : ℕ) {K B : ℕ} (whole : K ≡ B + spare) {y : ℕ → ℕ} (r : Rising K B y) where
  rising-from : (b : ℕ) → b < B → b ≤ y b
  rising-from zero l = omega arith
  rising-from (suc b) l = omega (arith, rising-from b (omega arith), r.rises b l)

  rising-to : (k b : ℕ) → b + suc k ≡ B → y b ≤ b + spare
  rising-to zero b e = omega (arith, r.below b (omega arith))
  rising-to (suc k) b e = omega (arith, rising-to k (suc b) (omega arith), r.rises b (omega arith))

  value-below : (k b d : ℕ) → b + suc k ≡ B → b + d ≤ y b → value w c spare (suc k) b d ≤ priced w c spare k b (y b - b)
  value-below k b d e l =
      let top = rising-to k b e in
      first_least-least (priced w c spare k b) (spare - d) d (y b - b) (omega arith) (omega arith)

  priced-below : (k b : ℕ) → b + suc k ≡ B → priced w c spare k b (y b - b) ≤ total (λ i. w i * c (y i)) (up_from b (suc k))
  priced-below zero b e = omega (arith, ap (λ (i : ℕ). w b * c i) (add-sub_of_le (rising-from b (omega arith))))
  priced-below (suc k) b e =
      let low = rising-from b (omega arith) in
      let up = r.rises b (omega arith) in
      omega (
        arith,
        ap (λ (i : ℕ). w b * c i) (add-sub_of_le low),
        value-below k (suc b) (y b - b) (omega arith) (omega arith),
        priced-below k (suc b) (omega arith),
      )

-- ---- the choice that the picks lead to

-- block b begins to look at what the block before it picked, and takes what it picks
pub record Walk (w c : ℕ → ℕ) (K B spare : ℕ) (asked x : ℕ → ℕ) : Type 0 where
  pub whole : K ≡ B + spare
  pub start : asked 0 ≡ 0
  pub picked : (k b : ℕ) → b + suc k ≡ B → asked b ≤ spare → asked (suc b) ≡ first_least (priced w c spare k b) (spare - asked b) (asked b)
  pub number : (b : ℕ) → b < B → x b ≡ b + asked (suc b)

module _ {w c : ℕ → ℕ} {K B spare : ℕ} {asked x : ℕ → ℕ} (p : Walk w c K B spare asked x) where
  pub asked-within : (b : ℕ) → b ≤ B → asked b ≤ spare
  asked-within zero l = omega (arith, p.start)
  asked-within (suc b) l =
      let low = asked-within b (omega arith) in
      let k = B - suc b in
      omega (arith, p.picked k b (omega arith) low, first_least-to (priced w c spare k b) (spare - asked b) (asked b))

  pub path-rising : Rising K B x
  path-rising =
      record {
        below = λ b l. omega (arith, p.whole, p.number b l, asked-within (suc b) l);
        rises =
            λ b l.
            let k = B - suc (suc b) in
            let low = asked-within (suc b) (omega arith) in
            omega (
              arith,
              p.number b (omega arith),
              p.number (suc b) l,
              p.picked k (suc b) (omega arith) low,
              first_least-from (priced w c spare k (suc b)) (spare - asked (suc b)) (asked (suc b)),
            );
      }

  -- from each block on it costs what the blocks cost at the least
  path-value : (k b : ℕ) → b + k ≡ B → total (λ i. w i * c (x i)) (up_from b k) ≡ value w c spare k b (asked b)
  path-value zero b e = refl
  path-value (suc k) b e =
      ap₂ (λ (i v : ℕ). w b * c i + v) (p.number b (omega arith)) (path-value k (suc b) (omega arith)) ∙
      ap (priced w c spare k b) (p.picked k b e (asked-within b (omega arith)))

  module _ {y : ℕ → ℕ} (r : Rising K B y) where
    pub path-least : 0 < B → bill w c B x ≤ bill w c B y
    path-least some =
        let k = B - 1 in
        let e : B ≡ suc k = omega arith in
        omega (
          arith,
          path-value B 0 (omega arith),
          value-below w c spare p.whole r k 0 (asked 0) (omega arith) (omega (arith, p.start)),
          priced-below w c spare p.whole r k 0 (omega arith),
          ap (λ (n : ℕ). value w c spare n 0 (asked 0)) e,
          ap (λ (n : ℕ). bill w c n y) e,
        )

    -- a choice that agrees with it before a block, and costs as much, has no smaller number there
    module _ (b : ℕ) (l : b < B) (agree : (a : ℕ) → a < b → y a ≡ x a) where
      front : bill w c b y ≡ bill w c b x
      front =
          total-same (λ i. w i * c (y i)) (λ i. w i * c (x i)) (up_from 0 b)
          (λ i among. ap (λ (n : ℕ). w i * c n) (agree i (omega (arith, (up_from-bounds i 0 b among).1))))

      parts : (z : ℕ → ℕ) → bill w c B z ≡ bill w c b z + total (λ i. w i * c (z i)) (up_from b (suc (B - suc b)))
      parts z =
          let e : B ≡ b + suc (B - suc b) = omega arith in
          ap (λ (n : ℕ). bill w c n z) e ∙
          (total-split (λ i. w i * c (z i)) 0 b (suc (B - suc b)) ∙
          ap (λ (a : ℕ). bill w c b z + total (λ i. w i * c (z i)) (up_from a (suc (B - suc b)))) (zero-add b))

      reach : (a : ℕ) → b ≡ a → a + asked a ≤ y a
      reach zero e = omega (arith, p.start)
      reach (suc a) e = omega (arith, r.rises a (omega arith), agree a (omega arith), p.number a (omega arith))

      pub path-smallest : bill w c B y ≡ bill w c B x → x b ≤ y b
      path-smallest same =
          let k = B - suc b in
          let far = reach b refl in
          let here = p.picked k b (omega arith) (asked-within b (omega arith)) in
          ⊎_elim
          (λ m. m)
          (λ m.
          absurd
          (omega (
            arith,
            front,
            parts x,
            parts y,
            priced-below w c spare p.whole r k b (omega arith),
            path-value (suc k) b (omega arith),
            first_least-first (priced w c spare k b) (spare - asked b) (asked b) (y b - b) (omega arith) (omega (arith, p.number b l)),
          )))
          (le-or-lt (x b) (y b))
