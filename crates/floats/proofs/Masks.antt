-- The masks by which code reads and sets the fields of a pattern, over the widths. Assumes nothing.
use mathlib.Core.Path.{◌≡◌, refl, sym, ap, ◌∙◌}
use mathlib.Core.Bool.{Bool, true, false, cond}
use Prim.Native.Nat.{ℕ, ◌+◌, ◌-◌, ◌*◌, ◌/◌, ◌%◌, ◌^◌, ◌<◌}
use native.Mathlib.Nat.{le_trans, le_of_eq, lt_of_lt_of_le, add-zero, mod-lt, mod-eq_of_lt, div-eq_of_lt, div-div-eq-div-mul, mul_comm, one-mul, div-add-mod'}
use native.Mathlib.Nat.{div-eq_of_lt-le}
use native.Mathlib.Omega.{arith}
use lib.Pow.{pow-add, pow_pos, shl-shr}
use lib.Bits.{bit_and, bit_or, and_high, and_mask, and_block, or_block, or_shifted, or_zero_r}
use borrow.Author.Tests.{leb-true, leb-false}
use Rattle.floats.specs.Fields.{sign_field, exp_field, fraction, pattern}
use Rattle.floats.proofs.Fields.{pattern-high}

-- the exponent field, by a mask and a shift
pub masked-field : (w t n : ℕ) → bit_and n (2 ^ (w + t) - 2 ^ t) / 2 ^ t ≡ exp_field w t n
masked-field w t n = ap (λ (x : ℕ). x / 2 ^ t) (and_high n w t) ∙ shl-shr (n / 2 ^ t % 2 ^ w) t

-- ---- all but the exponent field, by a mask
-- the sign as a number: what stands above the exponent field
sign_bit : (w t n : ℕ) → n < 2 ^ (w + t) * 2 → n / 2 ^ t / 2 ^ w % 2 ≡ cond (sign_field w t n) 1 0
sign_bit w t n h =
    ap (λ (x : ℕ). x % 2) (div-div-eq-div-mul n (2 ^ t) (2 ^ w) ∙ ap (λ (x : ℕ). n / x) (mul_comm (2 ^ t) (2 ^ w) ∙ sym (pow-add 2 w t)))
    ∙ go (sign_field w t n) refl
  where
    P : ℕ
    P = 2 ^ (w + t)

    go : (s : Bool) → sign_field w t n ≡ s → n / P % 2 ≡ cond s 1 0
    go true e = ap (λ (x : ℕ). x % 2) (div-eq_of_lt-le P (le_trans (le_of_eq (one-mul P)) (leb-true P n e)) (lt_of_lt_of_le h (le_of_eq (mul_comm P 2))))
    go false e = ap (λ (x : ℕ). x % 2) (div-eq_of_lt (leb-false P n e))

top_mask : (w h : ℕ) → bit_and h (2 ^ w) ≡ h / 2 ^ w % 2 * 2 ^ w
top_mask w h = ap (bit_and h) (sym (up (2 ^ w) (2 ^ (1 + w)) (pow-add 2 1 w))) ∙ and_high h 1 w
  where
    up : (p q : ℕ) → q ≡ 2 ^ 1 * p → q - p ≡ p
    up p q e = omega arith

bits-cleared : (w t n : ℕ) → bit_and n (2 ^ w * 2 ^ t + (2 ^ t - 1)) ≡ n / 2 ^ t / 2 ^ w % 2 * 2 ^ w * 2 ^ t + fraction t n
bits-cleared w t n =
    let r = n % 2 ^ t in
    let R : r < 2 ^ t = mod-lt n (pow_pos t) in
    ap (λ (x : ℕ). bit_and x (2 ^ w * 2 ^ t + (2 ^ t - 1))) (sym (div-add-mod' n (2 ^ t)))
    ∙ and_block t (n / 2 ^ t) (2 ^ w) r (2 ^ t - 1) R (omega arith)
    ∙ ap (λ (x : ℕ). x * 2 ^ t + bit_and r (2 ^ t - 1)) (top_mask w (n / 2 ^ t))
    ∙ ap (λ (x : ℕ). n / 2 ^ t / 2 ^ w % 2 * 2 ^ w * 2 ^ t + x) (and_mask r t ∙ mod-eq_of_lt R)

-- all but the exponent field, with the exponent field B put in
pub masked-set : (w t n B : ℕ) → n < 2 ^ (w + t) * 2 → B < 2 ^ w
    → bit_or (bit_and n (2 ^ w * 2 ^ t + (2 ^ t - 1))) (B * 2 ^ t) ≡ pattern w t (sign_field w t n) B (fraction t n)
masked-set w t n B h b =
    let r = n % 2 ^ t in
    let R : r < 2 ^ t = mod-lt n (pow_pos t) in
    let s : ℕ = cond (sign_field w t n) 1 0 in
    ap (λ (x : ℕ). bit_or x (B * 2 ^ t)) (bits-cleared w t n ∙ ap (λ (x : ℕ). x * 2 ^ w * 2 ^ t + r) (sign_bit w t n h))
    ∙ ap (bit_or (s * 2 ^ w * 2 ^ t + r)) (sym (add-zero (B * 2 ^ t)))
    ∙ or_block t (s * 2 ^ w) B r 0 R (pow_pos t)
    ∙ ap (λ (x : ℕ). x * 2 ^ t + bit_or r 0) (or_shifted s w B b)
    ∙ ap (λ (x : ℕ). (s * 2 ^ w + B) * 2 ^ t + x) (or_zero_r r)
    ∙ sym (pattern-high w t (sign_field w t n) B r b R)
