-- What a search tells by `found`: the place where it ended before the end, or none; and what is known of the place from that.
use mathlib.Core.Path.{◌≡◌, refl, sym, ap, ◌∙◌}
use mathlib.Core.Bool.{Bool, true, false, cond}
use Prim.Native.Nat.{ℕ, ◌<◌, ◌≤◌}
use native.Mathlib.Omega.{arith}
use lib.Dec.{ltb}
use borrow.Author.Tests.{lt-ltb, le-ltb, ltb-true, ltb-false}
use Rattle.std.specs.Prelude.{Some, None}
use Rattle.scan.specs.Found.{found}

module _ {end k : ℕ} where
  pub found_some : {i : ℕ} → i ≡ k → i < end → Some i ≡ found end k
  found_some {i} e h = ap Some e ∙ sym (rw (lt-ltb k end (omega arith)) refl)

  pub found_none : end ≤ k → None ≡ found end k
  found_none h = sym (rw (le-ltb k end h) refl)

  pub some_found : {i : ℕ} → Some i ≡ found end k → (i ≡ k) × (i < end)
  some_found {i} e = go (ltb k end) refl e
    where
      go : (b : Bool) → ltb k end ≡ b → Some i ≡ cond b (Some k) None → (i ≡ k) × (i < end)
      go true t q =
          let same : i ≡ k = cc in
          (same, omega (arith, ltb-true k end t))
      go false f q = cc

  pub none_found : None ≡ found end k → end ≤ k
  none_found e = go (ltb k end) refl e
    where
      go : (b : Bool) → ltb k end ≡ b → None ≡ cond b (Some k) None → end ≤ k
      go true t q = cc
      go false f q = ltb-false k end f
