-- Cars between two breaks take one number: the cheapest numbers for the blocks of a train are the cheapest for its cars.
use mathlib.Core.Path.{◌≡◌, refl, sym, ap, ◌∙◌, subst}
use mathlib.Core.Logic.{◌⊎◌, inl, inr, ⊎_elim}
use mathlib.Core.Bool.{Bool, true, false}
use mathlib.Core.List.{List, map}
use Prim.Native.Nat.{ℕ, zero, suc, ◌+◌, ◌-◌, ◌*◌, ◌≤◌, ◌<◌}
use native.Mathlib.Nat.{le_refl, eq-or-lt_of_le, add-zero, add-suc}
use native.Mathlib.Omega.{arith}
use lib.Dec.{eqb}
use lib.ListN.{length, get_or}
use borrow.Author.Tests.{eqb-true, eqb-false, eq-eqb}
use Rattle.yard.specs.Words.{tally, count, first, up_from}
use Rattle.yard.proofs.general.Bools.{split}
use Rattle.yard.proofs.general.Numbers.{le-or-lt}
use Rattle.yard.proofs.general.First.{first-from, first-least, first-hit}
use Rattle.yard.proofs.general.Lists.{total-values, tally-small, total-below, total-tight, total-range}
use Rattle.yard.proofs.yards.PlanYard.{total-map}
use Rattle.choice.specs.Choice.{Rising, bill_of, Cheapest}
use Rattle.blocks.proofs.Best.{Asked, asked_by, Fits, spent, Best}

-- what holds of all that the n numbers from a on are made into holds of each item
made : (P : ℕ → Type 0) (k : ℕ → ℕ) (a n : ℕ) → ((j : ℕ) → a ≤ j → j < a + n → P (k j)) → (x : ℕ) → 0 < count x (map k (up_from a n)) → P x
made P k a zero all x m = absurd (omega arith)
made P k a (suc n) all x m = go (eqb x (k a)) refl m (made P k (suc a) n (λ j l h. all j (omega arith) (omega arith)) x)
  where
    go : (b : Bool) → eqb x (k a) ≡ b → 0 < tally b + count x (map k (up_from (suc a) n)) → (0 < count x (map k (up_from (suc a) n)) → P x) → P x
    go true e h later = subst P (sym (eqb-true x (k a) e)) (all a (le_refl a) (omega arith))
    go false e h later = later (omega arith)

-- what is asked of the numbers of n cars from a on, all of one train, and the block of each car
module _ (weights costs : List ℕ) (joined broken : ℕ → Bool) (a n : ℕ) (block : ℕ → ℕ) (some : 1 ≤ n) (begins : block a ≡ 0)
    (goes : (j : ℕ) → a ≤ j → suc j < a + n → (joined j ≡ true) × (block (suc j) ≡ block j + tally (broken j)))
    (blocks : length weights ≡ suc (block (a + (n - 1))))
    (weight : (b : ℕ) → b < length weights → get_or weights b 0 ≡ count b (map block (up_from a n))) where
  abbrev asked : Asked
  asked = asked_by costs joined broken

  -- ---- blocks rise along the cars, and so do numbers that fit, by as much at least

  block-rises : (i d : ℕ) → a ≤ i → i + d < a + n → block i ≤ block (i + d)
  block-rises i zero l m = omega (arith, ap block (add-zero i))
  block-rises i (suc d) l m = omega (arith, ap block (add-suc i d), (goes (i + d) (omega arith) (omega arith)).1, block-rises i d l (omega arith))

  rises : (y : ℕ → ℕ) → Fits asked a n y → (i d : ℕ) → a ≤ i → i + d < a + n → y i + block (i + d) ≤ y (i + d) + block i
  rises y f i zero l m = omega (arith, ap block (add-zero i), ap y (add-zero i))
  rises y f i (suc d) l m =
      let next = goes (i + d) (omega arith) (omega arith) in
      omega (
        arith,
        ap block (add-suc i d),
        ap y (add-suc i d),
        next.1,
        f.follows (i + d) (omega arith) (omega arith) next.0,
        rises y f i d l (omega arith),
      )

  -- the same of any two cars
  module _ (y : ℕ → ℕ) (f : Fits asked a n y) (i j : ℕ) (l : a ≤ i) (k : a ≤ j) (m : i < a + n) (h : j < a + n) where
    -- a car of an earlier block comes first, and has a smaller number
    earlier : block i < block j → i < j
    earlier lt =
        ⊎_elim
        (λ back.
        let e : j + (i - j) ≡ i = omega arith in
        absurd (omega (arith, ap block e, block-rises j (i - j) k (omega arith))))
        (λ far. far)
        (le-or-lt j i)

    smaller : block i < block j → y i < y j
    smaller lt =
        let far = earlier lt in
        let e : i + (j - i) ≡ j = omega arith in
        omega (arith, ap block e, ap y e, rises y f i (j - i) l (omega arith))

  -- ---- each block has a car

  last : (j : ℕ) → a ≤ j → j < a + n → block j < length weights
  last j l m =
      let e : j + (a + (n - 1) - j) ≡ a + (n - 1) = omega arith in
      omega (arith, blocks, ap block e, block-rises j (a + (n - 1) - j) l (omega arith))

  reached : (b d : ℕ) → d < n → b ≤ block (a + d) → (j : ℕ) × (a ≤ j) × (j < a + n) × (block j ≡ b)
  reached b zero m h = (a, le_refl a, omega arith, omega (arith, begins, ap block (add-zero a)))
  reached b (suc d) m h =
      ⊎_elim
      (λ le. reached b d (omega arith) le)
      (λ lt. (
        a + suc d,
        omega arith,
        omega arith,
        omega (arith, (goes (a + d) (omega arith) (omega arith)).1, ap block (add-suc a d), tally-small (broken (a + d))),
      ))
      (le-or-lt b (block (a + d)))

  abbrev is_in : ℕ → ℕ → Bool
  is_in b j = eqb (block j) b

  -- the first car of a block
  lead : ℕ → ℕ
  lead b = first (is_in b) n a

  record In (b j : ℕ) : Type 0 where
    from : a ≤ j
    to : j < a + n
    here : block j ≡ b

  lead-in : (b : ℕ) → b < length weights → In b (lead b)
  unfolding lead
  lead-in b m =
      let (j, l, near, same) = reached b (n - 1) (omega arith) (omega (arith, blocks)) in
      let within : first (is_in b) n a < a + n =
      ⊎_elim (λ le. omega arith) (λ far. omega arith) (first-least (is_in b) n a j l (eq-eqb (block j) b same)) in
      record { from = first-from (is_in b) n a; to = within; here = eqb-true (block (first (is_in b) n a)) b (first-hit (is_in b) n a within) }

  -- no car of the block comes before it
  lead-first : (k : ℕ) → a ≤ k → k < a + n → lead (block k) ≤ k
  unfolding lead
  lead-first k l m =
      ⊎_elim (λ le. le) (λ far. absurd (omega arith)) (first-least (is_in (block k)) n a k l (eq-eqb (block k) (block k) refl))

  -- ---- numbers by block

  -- numbers by block cost the cars what they cost the blocks
  weighed : (z : ℕ → ℕ) → spent asked a n (λ j. z (block j)) ≡ bill_of weights costs z
  weighed z =
      let list = map block (up_from a n) in
      sym (total-map (λ b. get_or costs (z b) 0) block (up_from a n)) ∙
      (total-values (λ b. get_or costs (z b) 0) 0 (length weights) list
      (made (λ b. (0 ≤ b) × (b < 0 + length weights)) block a n (λ j l m. (omega arith, omega (arith, last j l m)))) ∙
      total-range (λ b. count b list * get_or costs (z b) 0) (λ b. get_or weights b 0 * get_or costs (z b) 0) 0 (length weights)
      (λ b l m. ap (λ (k : ℕ). k * get_or costs (z b) 0) (sym (weight b (omega arith)))))

  module _ (y : ℕ → ℕ) (f : Fits asked a n y) where
    -- the numbers of one car from each block rise
    taken-rising : (car : ℕ → ℕ) → ((b : ℕ) → b < length weights → In b (car b)) → Rising (length costs) (length weights) (λ b. y (car b))
    taken-rising car in_block =
        record {
          below = λ b m. let r = in_block b m in f.below (car b) r.from r.to;
          rises =
              λ b m.
              let r = in_block b (omega arith) in
              let s = in_block (suc b) m in
              smaller y f (car b) (car (suc b)) r.from s.from r.to s.to (omega (arith, r.here, s.here));
        }

    -- a car of each block whose number costs least, looked for among the first d cars
    cheap : (b d : ℕ) → d ≤ n → (c : ℕ) × (b < length weights → In b c) ×
        ((j : ℕ) → a ≤ j → j < a + d → block j ≡ b → get_or costs (y c) 0 ≤ get_or costs (y j) 0)
    cheap b zero m = (lead b, lead-in b, λ j l h e. absurd (omega arith))
    cheap b (suc d) m = go (cheap b d (omega arith)) (split (is_in b (a + d)))
      where
        cost : ℕ → ℕ
        cost j = get_or costs (y j) 0

        Cheap : ℕ → Type 0
        Cheap k = (c : ℕ) × (b < length weights → In b c) × ((j : ℕ) → a ≤ j → j < a + k → block j ≡ b → get_or costs (y c) 0 ≤ get_or costs (y j) 0)

        -- what holds for the first d cars, and for the next, holds for one more
        more : (c : ℕ) → ((j : ℕ) → a ≤ j → j < a + d → block j ≡ b → get_or costs (y c) 0 ≤ get_or costs (y j) 0)
            → (block (a + d) ≡ b → get_or costs (y c) 0 ≤ get_or costs (y (a + d)) 0)
            → (j : ℕ) → a ≤ j → j < a + suc d → block j ≡ b → get_or costs (y c) 0 ≤ get_or costs (y j) 0
        more c low here j l h e =
            let near : j ≤ a + d = omega arith in
            ⊎_elim
            (λ same. omega (arith, here (ap block (sym same) ∙ e), ap (λ (k : ℕ). get_or costs (y k) 0) same))
            (λ lt. low j l lt e)
            (eq-or-lt_of_le near)

        go : Cheap d → (is_in b (a + d) ≡ true) ⊎ (is_in b (a + d) ≡ false) → Cheap (suc d)
        go (c, inside, low) (inl e) =
            let here = eqb-true (block (a + d)) b e in
            ⊎_elim
            (λ le. (c, inside, more c low (λ _. le)))
            (λ lt. (
              a + d,
              λ _. record { from = omega arith; to = omega arith; here = here },
              more (a + d) (λ j l h same. omega (arith, lt, low j l h same)) (λ _. le_refl (get_or costs (y (a + d)) 0)),
            ))
            (le-or-lt (get_or costs (y c) 0) (get_or costs (y (a + d)) 0))
        go (c, inside, low) (inr e) = (c, inside, more c low (λ same. absurd (eqb-false (block (a + d)) b e same)))

    abbrev cheap_car : ℕ → ℕ
    cheap_car b = (cheap b n (le_refl n)).0

    cheap-in : (b : ℕ) → b < length weights → In b (cheap_car b)
    cheap-in b m = (cheap b n (le_refl n)).1 m

    -- its number costs no car of the block more than its own
    cheaper : (j : ℕ) → a ≤ j → j < a + n → get_or costs (y (cheap_car (block j))) 0 ≤ get_or costs (y j) 0
    cheaper j l m = (cheap (block j) n (le_refl n)).2 j l m refl

    cheap-sum : spent asked a n (λ j. y (cheap_car (block j))) ≤ spent asked a n y
    cheap-sum = total-below (λ j. get_or costs (y (cheap_car (block j))) 0) (λ j. get_or costs (y j) 0) a n cheaper

  -- ---- the cheapest numbers for the blocks are the cheapest for the cars

  module _ (x : ℕ → ℕ) (chosen : Cheapest weights costs x) where
    given : ℕ → ℕ
    given j = x (block j)

    given-fits : Fits asked a n given
    unfolding given
    given-fits =
        record {
          below = λ j l m. chosen.rising.below (block j) (last j l m);
          follows = λ j l m e. step j (broken j) (goes j l m).1 (last (suc j) (omega arith) m);
        }
      where
        step : (j : ℕ) (brk : Bool) → block (suc j) ≡ block j + tally brk → block (suc j) < length weights → x (block j) + tally brk ≤ x (block (suc j))
        step j true e m =
            let next : block (suc j) ≡ suc (block j) = omega arith in
            omega (arith, ap x next, chosen.rising.rises (block j) (omega arith))
        step j false e m =
            let same : block (suc j) ≡ block j = omega arith in
            omega (arith, ap x same)

    module _ (y : ℕ → ℕ) (f : Fits asked a n y) where
      -- no numbers cost the cars less than those of the cheapest cars cost the blocks
      above : bill_of weights costs x ≤ spent asked a n (λ j. y (cheap_car y f (block j)))
      above =
          omega (
            arith,
            weighed (λ b. y (cheap_car y f b)),
            chosen.least (λ b. y (cheap_car y f b)) (taken-rising y f (cheap_car y f) (cheap-in y f)),
          )

      least : spent asked a n given ≤ spent asked a n y
      unfolding given
      least = omega (arith, weighed x, above, cheap-sum y f)

      module _ (same : spent asked a n y ≡ spent asked a n given) where
        -- where they cost as much, the cars of one block have numbers that cost the same
        tight : (j : ℕ) → a ≤ j → j < a + n → get_or costs (y (cheap_car y f (block j))) 0 ≡ get_or costs (y j) 0
        unfolding given
        tight =
            total-tight (λ j. get_or costs (y (cheap_car y f (block j))) 0) (λ j. get_or costs (y j) 0) a n (cheaper y f) (omega (arith, same, weighed x, above))

        lead-tight : (j : ℕ) → a ≤ j → j < a + n → get_or costs (y (lead (block j))) 0 ≡ get_or costs (y j) 0
        lead-tight j l m =
            let r = lead-in (block j) (last j l m) in
            sym (tight (lead (block j)) r.from r.to) ∙
            (ap (λ (b : ℕ). get_or costs (y (cheap_car y f b)) 0) r.here ∙ tight j l m)

        -- so those of the first cars are a cheapest choice for the blocks, too
        lead-bill : bill_of weights costs (λ b. y (lead b)) ≡ bill_of weights costs x
        unfolding given
        lead-bill =
            sym (weighed (λ b. y (lead b))) ∙
            (total-range (λ j. get_or costs (y (lead (block j))) 0) (λ j. get_or costs (y j) 0) a n lead-tight ∙ (same ∙ weighed x))

        smallest : (k : ℕ) → a ≤ k → k < a + n → ((j : ℕ) → a ≤ j → j < k → y j ≡ given j) → given k ≤ y k
        unfolding given
        smallest k l m agree =
            let b = block k in
            let r = lead-in b (last k l m) in
            let first-car : lead b ≤ k = lead-first k l m in
            let e : lead b + (k - lead b) ≡ k = omega (arith, first-car) in
            ⊎_elim
            (λ here.
            omega (
              arith,
              ap y here,
              chosen.smallest (λ c. y (lead c)) (taken-rising y f lead lead-in) lead-bill b (last k l m)
                  (λ c lt.
                  let s = lead-in c (omega (arith, last k l m)) in
                  agree (lead c) s.from (earlier y f (lead c) k s.from l s.to m (omega (arith, s.here))) ∙ ap x s.here),
            ))
            (λ far.
            omega (
              arith,
              agree (lead b) r.from far,
              ap x r.here,
              r.here,
              ap block e,
              ap y e,
              rises y f (lead b) (k - lead b) r.from (omega (arith, e)),
            ))
            (eq-or-lt_of_le first-car)

    pub blocks-best : Best asked a n (λ j. x (block j))
    unfolding given
    blocks-best = record { fits = given-fits; least = least; smallest = smallest }
