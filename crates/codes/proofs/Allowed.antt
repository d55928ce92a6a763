-- The part of the usable codes that a night allows.
use mathlib.Core.Path.{◌≡◌, sym, ap, ◌∙◌}
use mathlib.Core.Bool.{Bool}
use mathlib.Core.List.{List}
use Prim.Native.Nat.{ℕ, ◌-◌, ◌≤◌, ◌<◌}
use native.Mathlib.Omega.{arith}
use lib.ListN.{length, take, drop, length-drop}
use lib.Seq.{take_at, drop-append-le}
use mir.Val.{bool_byte}
use Rattle.yard.specs.Codes.{usable_codes, allowed_codes}
use Rattle.yard.proofs.general.Lists.{tally-small}
use Rattle.yard.proofs.yards.Counting.{F-above}
use Rattle.yard.proofs.yards.Allowed.{F-usable, allowed-drop}
use Rattle.scan.specs.Front.{Front}
use Rattle.scan.proofs.Running.{byte-tally}
use Rattle.scan.proofs.Front.{front_fits}
use Rattle.codes.specs.Allowed.{AllowedPart}

module _ (closed : Bool) (W h : ℕ) (pos : 0 < W) {s table : List ℕ} {r first : ℕ} (codes : Front (usable_codes W h) s r table)
    (is : first ≡ bool_byte closed) where
  pub first-within : first ≤ r
  first-within = omega (arith, is, byte-tally closed, tally-small closed, codes.number, F-usable W h pos, F-above W h pos)

  pub part-allowed : take (r - first) (drop first table) ≡ allowed_codes closed W h
  part-allowed =
      let items = usable_codes W h in
      let less : first ≤ length items = omega (arith, first-within, codes.number) in
      ap (λ (l : List ℕ). take (r - first) (drop first l)) codes.listed ∙
      (ap (take (r - first)) (drop-append-le first items (drop (length items) s) less) ∙
      (take_at (drop first items) (drop (length items) s) (r - first) (omega (arith, codes.number, length-drop first items)) ∙
      (ap (λ (k : ℕ). drop k items) (is ∙ byte-tally closed) ∙ sym (allowed-drop closed W h pos))))

  pub allowed-part : AllowedPart closed W h table (record { from = first; to = r })
  allowed-part = record { begins = first-within; ends = front_fits codes; listed = part-allowed }
