-- The way to the cheapest choice, block by block from the last. Block b takes number b + d, where d never falls from block to block and is at
-- most as many as there are numbers to spare.
use Rattle.std.specs.Prelude.{ℕ, zero, suc, ◌+◌, ◌-◌, ◌*◌, ◌≤◌, ◌<◌, ◌≡◌, cond, List, leb, length, get_or}

-- the first of the numbers a to a + n at which g is least
abbrev pub first_least : (ℕ → ℕ) → ℕ → ℕ → ℕ
first_least g zero a = a
first_least g (suc n) a =
    let later = first_least g n (suc a) in
    cond (leb (g a) (g later)) a later

-- ---- one block

-- what block b costs at d, with what the blocks behind it then cost
abbrev pub together : List ℕ → List ℕ → ℕ → List ℕ → ℕ → ℕ
together weights costs b behind d = get_or weights b 0 * get_or costs (b + d) 0 + get_or behind d 0

-- for each d from a on the cheapest number from d on, and what it costs; the picks stand from a place on, and what stands behind them stays
pub record Row (g : ℕ → ℕ) (width a at : ℕ) (before after picks : List ℕ) : Type 0 where
  pub pick : (d : ℕ) → a ≤ d → d < width → get_or picks (at + d) 0 ≡ first_least g (width - suc d) d
  pub least : (d : ℕ) → a ≤ d → d < width → get_or after d 0 ≡ g (first_least g (width - suc d) d)
  pub stays : (i : ℕ) → at + width ≤ i → get_or picks i 0 ≡ get_or before i 0

-- ---- all blocks

-- what k blocks from block b on cost at the least, the first of them at d or more
abbrev pub value : (ℕ → ℕ) → (ℕ → ℕ) → ℕ → ℕ → ℕ → ℕ → ℕ
value weight cost spare zero b d = 0
value weight cost spare (suc k) b d =
    let g : ℕ → ℕ = λ e. weight b * cost (b + e) + value weight cost spare k (suc b) e in
    g (first_least g (spare - d) d)

-- what block b costs at d, with what the k blocks behind it cost at the least
abbrev pub priced : (ℕ → ℕ) → (ℕ → ℕ) → ℕ → ℕ → ℕ → ℕ → ℕ
priced weight cost spare k b d = weight b * cost (b + d) + value weight cost spare k (suc b) d

-- the numbers to spare
abbrev pub spare_of : List ℕ → List ℕ → ℕ
spare_of weights costs = length costs - length weights

abbrev pub value_of : List ℕ → List ℕ → ℕ → ℕ → ℕ
value_of weights costs b d =
    value (λ i. get_or weights i 0) (λ i. get_or costs i 0) (spare_of weights costs) (length weights - b) b d

abbrev pub priced_of : List ℕ → List ℕ → ℕ → ℕ → ℕ
priced_of weights costs b d =
    priced (λ i. get_or weights i 0) (λ i. get_or costs i 0) (spare_of weights costs) (length weights - suc b) b d

-- the table of picks from block a on: for each block and each d the cheapest from d on
pub record Table (weights costs : List ℕ) (a : ℕ) (picks : List ℕ) : Type 0 where
  pub pick : (b d : ℕ) → a ≤ b → b < length weights → d ≤ spare_of weights costs →
      get_or picks (b * (spare_of weights costs + 1) + d) 0 ≡ first_least (priced_of weights costs b) (spare_of weights costs - d) d

-- ---- along the table

-- the d at which block b begins to look, as the table leads there
abbrev pub reached : List ℕ → ℕ → ℕ → ℕ
reached picks width zero = 0
reached picks width (suc b) = get_or picks (b * width + reached picks width b) 0
