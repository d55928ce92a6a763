-- The proof of `worked_out`: the law joins the entries of both bytes.
use mathlib.Core.Path.{◌≡◌, sym, ap, ap₂, ◌∙◌}
use mathlib.Core.List.{List}
use Prim.Native.Nat.{ℕ, ◌%◌, ◌/◌, ◌^◌, ◌<◌, max}
use native.Mathlib.Omega.{arith}
use lib.ListN.{get_or}
use Rattle.yard.specs.Limits.{limits, first_limits}
use Rattle.yard.specs.Codes.{fewest_tracks}
use Rattle.codes.proofs.Gap.{told-fewest}
use Rattle.codes.proofs.Bytes.{low_byte, high_byte, worked-out}
use Rattle.codes.proofs.TrackTable.worked_out.Goals as goal

pub returns : goal.returns
returns c =
    let table = c.args.self.now.entries in
    let rule = c.args.self.now.by_rule in
    let code = c.args.code in
    let within : code < 2 ^ limits.steps = omega arith in
    let bytes = c.to_le_bytes.result in
    let low : get_or bytes 0 0 ≡ code % 2 ^ first_limits.steps = omega (arith, ap (λ (l : List ℕ). get_or l 0 0) c.to_le_bytes.ensures) in
    let high : get_or bytes 1 0 ≡ code / 2 ^ first_limits.steps = omega (arith, ap (λ (l : List ℕ). get_or l 1 0) c.to_le_bytes.ensures) in
    let low_entry = c.entry.ensures ∙ (ap (fewest_tracks limits.steps) low ∙ sym (told-fewest table rule _ (low_byte table rule code c.requires within))) in
    let high_entry = c.entry-2.ensures ∙ (ap (fewest_tracks limits.steps) high ∙ sym (told-fewest table rule _ (high_byte table rule code c.requires within))) in
    c.max.ensures ∙
    (ap₂ max (c.max-within.ensures ∙ ap₂ max low_entry high_entry) (rw (low, high) at c.between.ensures) ∙ worked-out table rule code c.requires within)
