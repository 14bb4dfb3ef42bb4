-- A word cut at a bit, and put together there.
use mathlib.Core.Path.{◌≡◌, ap, ◌∙◌}
use Prim.Native.Nat.{ℕ, ◌+◌, ◌*◌, ◌-◌, ◌%◌, ◌^◌, ◌<◌}
use native.Mathlib.Omega.{arith}
use lib.Bits.{bit_and, bit_or, and_mask, or_shifted}
use Rattle.std.proofs.Math.Pow.{pow-lt}

pub mask_is : (w n : ℕ) → n < 32 → bit_and w (1 * 2 ^ n % 2 ^ 32 - 1) ≡ w % 2 ^ n
mask_is w n l =
    let e : 1 * 2 ^ n % 2 ^ 32 ≡ 2 ^ n = omega (arith, pow-lt l) in
    ap (λ (m : ℕ). bit_and w (m - 1)) e ∙ and_mask w n

pub tagged_is : (t r n : ℕ) → r < 2 ^ n → t * 2 ^ n + r < 2 ^ 32 → bit_or (t * 2 ^ n % 2 ^ 32) r ≡ t * 2 ^ n + r
tagged_is t r n h l =
    let e : t * 2 ^ n % 2 ^ 32 ≡ t * 2 ^ n = omega arith in
    ap (λ (m : ℕ). bit_or m r) e ∙ or_shifted t n r h
