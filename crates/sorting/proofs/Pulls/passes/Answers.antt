-- The proof of `Pulls::passes`: the set bits of all codes are those of the two halves.
use mathlib.Core.Path.{◌≡◌, sym, ap, ◌∙◌}
use mathlib.Core.List.{List}
use Prim.Native.Nat.{ℕ, ◌+◌, ◌/◌, ◌%◌, ◌^◌}
use native.Mathlib.Omega.{arith}
use lib.Count.{ones}
use lib.ListN.{take, drop, take-append-drop}
use Rattle.yard.specs.Limits.{limits}
use Rattle.yard.proofs.general.Lists.{total-append}
use Rattle.sorting.specs.Sums.{set_below}
use Rattle.sorting.proofs.Pulls.passes.Goals as goal

-- a list up to an index, and from there on
halves : (stage half : ℕ) (codes : List ℕ) → set_below stage (take half codes) + set_below stage (drop half codes) ≡ set_below stage codes
halves stage half codes =
    sym (total-append (λ x. ones (x % 2 ^ stage)) (take half codes) (drop half codes)) ∙
    ap (λ (all : List ℕ). set_below stage all) (take-append-drop half codes)

pub returns : goal.returns
returns c =
    let stage = c.args.stage in
    omega (
      arith,
      ap (set_below stage) c.split_at.ensures.front,
      ap (set_below stage) c.split_at.ensures.back,
      halves stage (limits.cars / 2) c.args.self.codes.now,
    )
