-- Laws of the eye: the first bits that it holds are the field at its place, and behind them it holds the bits that follow.
use Prim.Native.Nat.{ℕ, ◌+◌, ◌-◌, ◌*◌, ◌/◌, ◌%◌, ◌^◌, ◌≤◌}
use mathlib.Core.Path.{◌≡◌, sym, ap, ◌∙◌}
use mathlib.Core.List.{List}
use native.Mathlib.Omega.{arith}
use lib.Pow.{high, low, field, mod-mod-pow}
use Rattle.bits.specs.Fields.{field_at}
use Rattle.bits.specs.Eyes.{Sees}
use Rattle.bits.specs.Sights.{Sight, sight}
use Rattle.bits.proofs.Words.{joined-low}
use Rattle.bits.proofs.Places.{field-add, field_below}

-- The last w bits of a field, and the first v.
last-bits : (bytes : List ℕ) (at v w : ℕ) → field_at bytes at (v + w) % 2 ^ w ≡ field_at bytes (at + v) w
last-bits bytes at v w = ap (λ n. n % 2 ^ w) (field-add bytes at v w) ∙ low (field_at bytes at v) w (field_below bytes (at + v) w)

first-bits : (bytes : List ℕ) (at v w : ℕ) → field_at bytes at (v + w) / 2 ^ w ≡ field_at bytes at v
first-bits bytes at v w = ap (λ n. n / 2 ^ w) (field-add bytes at v w) ∙ high (field_at bytes at v) w (field_below bytes (at + v) w)

-- An eye opened at a place.
pub sees-opened : (bytes : List ℕ) (at : ℕ) → Sees bytes (at / 8 + 4) (32 - at % 8) (field_at bytes (at / 8 * 8) 32)
sees-opened bytes at =
    let held = 32 - at % 8 in
    let parts : 32 ≡ at % 8 + held = omega arith in
    let first : at / 8 * 8 + at % 8 ≡ (at / 8 + 4) * 8 - held = omega arith in
    record {
      bits =
          ap (λ n. field_at bytes (at / 8 * 8) n % 2 ^ held) parts
          ∙ last-bits bytes (at / 8 * 8) (at % 8) held
          ∙ ap (λ n. field_at bytes n held) first;
      behind = omega arith;
      few = omega arith;
    }

module _ {bytes : List ℕ} {next held word : ℕ} (s : Sees bytes next held word) where
  -- four bytes more
  pub sees-further : held ≤ 15 → Sees bytes (next + 4) (held + 32) (word * 2 ^ 32 % 2 ^ 64 + field_at bytes (next * 8) 32)
  sees-further little =
      let more = field_at bytes (next * 8) 32 in
      let at = next * 8 - held in
      let whole : next * 8 ≡ at + held = omega (arith, s.behind) in
      let here : (next + 4) * 8 - (held + 32) ≡ at = omega (arith, s.behind) in
      record {
        bits =
            joined-low held 32 word more (omega arith) (field_below bytes (next * 8) 32)
            ∙ ap (λ n. n * 2 ^ 32 + more) s.bits
            ∙ ap (λ n. field_at bytes at held * 2 ^ 32 + field_at bytes n 32) whole
            ∙ sym (field-add bytes at held 32)
            ∙ ap (λ n. field_at bytes n (held + 32)) (sym here);
        behind = omega (arith, s.behind);
        few = omega arith;
      }

  -- the first w of the bits held, and those behind them
  pub sees-front : (w : ℕ) → w ≤ held → word / 2 ^ (held - w) % 2 ^ w ≡ field_at bytes (next * 8 - held) w
  sees-front w enough =
      let rest = held - w in
      let at = next * 8 - held in
      let parts : held ≡ w + rest = omega arith in
      sym (field word w rest)
      ∙ ap (λ n. word % 2 ^ n / 2 ^ rest) (sym parts)
      ∙ ap (λ n. n / 2 ^ rest) s.bits
      ∙ ap (λ n. field_at bytes at n / 2 ^ rest) parts
      ∙ first-bits bytes at w rest

  pub sees-past : (w : ℕ) → w ≤ held → Sees bytes next (held - w) word
  sees-past w enough =
      let rest = held - w in
      let at = next * 8 - held in
      let parts : held ≡ w + rest = omega arith in
      let here : next * 8 - rest ≡ at + w = omega (arith, s.behind) in
      record {
        bits =
            sym (mod-mod-pow word w rest)
            ∙ ap (λ n. word % 2 ^ n % 2 ^ rest) (sym parts)
            ∙ ap (λ n. n % 2 ^ rest) s.bits
            ∙ ap (λ n. field_at bytes at n % 2 ^ rest) parts
            ∙ last-bits bytes at w rest
            ∙ ap (λ n. field_at bytes n rest) (sym here);
        behind = omega (arith, s.behind);
        few = omega (arith, s.few);
      }

-- What `Eye::take` needs of an eye at a place: it holds w bits at least.
pub record Near (s : Sight) (w : ℕ) (bytes : List ℕ) (next held word : ℕ) : Type 0 where
  pub sees : Sees bytes next held word
  pub same : bytes ≡ s.bytes
  pub here : next * 8 - held ≡ s.at
  pub enough : w ≤ held

module _ {s : Sight} {w : ℕ} {bytes : List ℕ} {next held word : ℕ} (n : Near s w bytes next held word) where
  pub near-number : word / 2 ^ (held - w) % 2 ^ w ≡ field_at s.bytes s.at w
  near-number =
      sees-front n.sees w n.enough ∙ ap (λ l. field_at l (next * 8 - held) w) n.same ∙ ap (λ at. field_at s.bytes at w) n.here

  pub near-past : sight bytes (next * 8 - (held - w)) ≡ sight s.bytes (s.at + w)
  near-past =
      let further : next * 8 - (held - w) ≡ s.at + w = omega (arith, n.here, n.enough, n.sees.behind) in
      ap (λ l. sight l (next * 8 - (held - w))) n.same ∙ ap (sight s.bytes) further
