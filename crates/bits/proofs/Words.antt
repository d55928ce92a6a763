-- Laws of a word of 64 bits: numbers put behind one another.
use Prim.Native.Nat.{ℕ, ◌+◌, ◌-◌, ◌*◌, ◌%◌, ◌^◌, ◌≤◌, ◌<◌}
use mathlib.Core.Path.{◌≡◌, ap, ◌∙◌}
use native.Mathlib.Nat.{add-zero, mod-lt, mul-mod_left}
use native.Mathlib.Omega.{arith}
use lib.Arith.{digits_lt}
use lib.Pow.{pow_pos, pow-add, shl-shr, high, low, mod-pow-add, mod-mod-pow}

-- a word shifted by w bits keeps those that have room
shifted : (x w : ℕ) → w ≤ 64 → x * 2 ^ w % 2 ^ 64 ≡ x % 2 ^ (64 - w) * 2 ^ w
shifted x w h =
    let whole : 64 ≡ 64 - w + w = omega arith in
    ap (λ n. x * 2 ^ w % 2 ^ n) whole
    ∙ mod-pow-add (x * 2 ^ w) (64 - w) w
    ∙ ap (λ n. n % 2 ^ (64 - w) * 2 ^ w + x * 2 ^ w % 2 ^ w) (shl-shr x w)
    ∙ ap (λ n. x % 2 ^ (64 - w) * 2 ^ w + n) (mul-mod_left x (2 ^ w))
    ∙ add-zero (x % 2 ^ (64 - w) * 2 ^ w)

-- what is put behind it fills the room
pub joined-fits : (w p x : ℕ) → w ≤ 64 → x < 2 ^ w → p * 2 ^ w % 2 ^ 64 + x < 2 ^ 64
joined-fits w p x h small =
    let whole : 64 - w + w ≡ 64 = omega arith in
    let below = digits_lt (mod-lt p (pow_pos (64 - w))) small in
    rw (shifted p w h) (rw (← pow-add 2 (64 - w) w, whole) at below)

-- the lowest v bits and the w bits put behind them
pub joined-low : (v w p x : ℕ) → v + w ≤ 64 → x < 2 ^ w → (p * 2 ^ w % 2 ^ 64 + x) % 2 ^ (v + w) ≡ p % 2 ^ v * 2 ^ w + x
joined-low v w p x h small =
    let kept = p % 2 ^ (64 - w) in
    let wide : 64 - w ≡ 64 - w - v + v = omega arith in
    ap (λ n. (n + x) % 2 ^ (v + w)) (shifted p w (omega arith))
    ∙ mod-pow-add (kept * 2 ^ w + x) v w
    ∙ ap (λ n. n % 2 ^ v * 2 ^ w + (kept * 2 ^ w + x) % 2 ^ w) (high kept w small)
    ∙ ap (λ n. kept % 2 ^ v * 2 ^ w + n) (low kept w small)
    ∙ ap (λ n. p % 2 ^ n % 2 ^ v * 2 ^ w + x) wide
    ∙ ap (λ n. n * 2 ^ w + x) (mod-mod-pow p (64 - w - v) v)
