-- The proof of `follow`: the blocks passed have the numbers that the table leads to, and the next looks from where it leads.
use mathlib.Core.Path.{◌≡◌}
use Prim.Native.Nat.{ℕ, suc, ◌+◌, ◌<◌}
use lib.ListN.{get_or}
use Rattle.choice.specs.Rows.{reached}
use Rattle.choice.proofs.follow.Given as goal

abbrev pub invariant-loop-b : goal.invariant-loop-b
invariant-loop-b l = record {
  looks : l.d ≡ reached l.picks l.width l.b;
  passed : (i : ℕ) → i < l.b → get_or l.chosen i 0 ≡ i + reached l.picks l.width (suc i);
}
