-- No code is too large where the largest is not.
use mathlib.Core.Path.{◌≡◌, sym, ap}
use mathlib.Core.Bool.{Bool}
use mathlib.Core.List.{List}
use Prim.Native.Nat.{ℕ, ◌+◌, ◌-◌, ◌^◌, ◌<◌}
use native.Mathlib.Omega.{arith}
use lib.Dec.{leb}
use lib.ListN.{length}
use borrow.Author.Tests.{lt-leb, lt-ltb}
use Rattle.yard.specs.Words.{most}
use Rattle.yard.specs.Night.{item_of}
use Rattle.yard.specs.Answers.{says, test, wide_code, code_test}
use Rattle.yard.proofs.general.First.{first-fails}
use Rattle.scan.proofs.Running.{item-most}

pub none-wide : (h : ℕ) (codes : List ℕ) → most (λ code. code) codes < 2 ^ h → says 0 0 0 ≡ code_test h codes
none-wide h codes low = sym (ap (λ (b : Bool). test b (says 7 (wide_code h codes) 0)) (lt-ltb (length codes) (wide_code h codes) (omega (arith, past))))
  where
    past : wide_code h codes ≡ 1 + length codes
    past = first-fails (λ car. leb (2 ^ h) (item_of codes car)) (length codes) 1
        (λ j l m. lt-leb (2 ^ h) (item_of codes j) (omega (arith, item-most codes (j - 1) (omega arith))))
