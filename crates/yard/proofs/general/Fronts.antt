-- Items at the front of a buffer: what stands there, what lies behind, and how long it is.
use Prim.Native.Nat.{ℕ, ◌+◌, ◌≤◌}
use mathlib.Core.Path.{◌≡◌, ap, ◌∙◌}
use mathlib.Core.List.{List}
use native.Mathlib.Nat.{add-sub_of_le}
use native.Mathlib.Omega.{arith}
use lib.ListN.{length, take, drop, length-append, length-drop}
use lib.Seq.{take_at, drop_at}
use Rattle.yard.specs.Answers.{onto}

module _ (items buffer : List ℕ) {held : List ℕ} (h : held ≡ onto items buffer) where
  pub front-taken : {n : ℕ} → length items ≡ n → take n held ≡ items
  front-taken {n} e = ap (take n) h ∙ take_at items (drop (length items) buffer) n e

  pub front-left : {n : ℕ} → length items ≡ n → drop n held ≡ drop n buffer
  front-left {n} e = ap (drop n) h ∙ (drop_at items (drop (length items) buffer) n e ∙ ap (λ (k : ℕ). drop k buffer) e)

  pub front-within : {n : ℕ} → length items ≡ n → n ≤ length held
  front-within {n} e = omega (arith, e, ap length h, length-append items (drop (length items) buffer))

  pub front_long : length items ≤ length buffer → length held ≡ length buffer
  front_long fits =
      ap length h ∙
      (length-append items (drop (length items) buffer) ∙ (ap (λ (k : ℕ). length items + k) (length-drop (length items) buffer) ∙ add-sub_of_le fits))
