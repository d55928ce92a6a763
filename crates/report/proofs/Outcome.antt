-- What a caller of the two programs' calls has in hand.
use Prim.Native.Nat.{ℕ, ◌≤◌}
use mathlib.Core.Path.{◌≡◌, ◌∙◌}
use mathlib.Core.List.{List}
use native.Mathlib.Omega.{arith}
use lib.ListN.{length, take}
use Rattle.yard.specs.Card.{card}
use Rattle.lines.specs.Text.{Adds}
use Rattle.report.specs.Programs.{buffer_size, checked_lines, nightcard_text, of_derived, nightplan_bytes, nightplan_in}
use Rattle.lines.proofs.Adding.{adds_one, adds_same}
use Rattle.report.proofs.Cut.{input-cut}
use Rattle.report.proofs.Whole.{nightcard-short, nightplan-short, nightplan-fits, adds-whole}

-- Each call leaves one end of the text and one content of the buffer.
pub nightcard-one : (card : List ℕ) {before after other : List ℕ} {r s : ℕ}
    → Adds (nightcard_text card) before 0 r after
    → Adds (nightcard_text card) before 0 s other
    → (r ≡ s) × (after ≡ other)
nightcard-one card f g = adds_one f g

pub nightplan-one : (card : List ℕ) {before after other : List ℕ} {r s : ℕ}
    → Adds (nightplan_in (length before) card) before 0 r after
    → Adds (nightplan_in (length before) card) before 0 s other
    → (r ≡ s) × (after ≡ other)
nightplan-one card f g = adds_one f g

-- Given the first 24,576 bytes of an input of any length and a buffer of 24,576 bytes, the text at its front is that of the whole
-- input, and nothing is left off; nightplan's is a refusal of the reader or of derive, or the card of the derived plan.
module _ (input : List ℕ) {before after : List ℕ} {end : ℕ} (large : buffer_size ≤ length before) where
  pub nightcard-puts-out : Adds (nightcard_text (take buffer_size input)) before 0 end after → take end after ≡ nightcard_text input
  unfolding nightcard_text
  nightcard-puts-out adds = adds-whole (nightcard-short (take buffer_size input)) large adds ∙ input-cut checked_lines buffer_size input (omega arith)

  pub nightplan-puts-out : Adds (nightplan_in (length before) (take buffer_size input)) before 0 end after → take end after ≡ nightplan_bytes input
  unfolding nightplan_bytes
  nightplan-puts-out adds =
      let given = take buffer_size input in
      adds-whole (nightplan-short given) large (adds_same (nightplan-fits (length before) given (omega arith)) adds)
      ∙ input-cut (λ p. of_derived card p.night) buffer_size input (omega arith)
