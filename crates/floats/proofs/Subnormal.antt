-- A subnormal's fraction with its highest one moved to the leading place: it has t + 1 digits, and the float of that significand, at the exponent that is lowered
-- to match, is the subnormal. Over the widths. Assumes nothing.
use mathlib.Core.Path.{◌≡◌, sym, ap, ◌∙◌}
use mathlib.Core.Bool.{Bool}
use Prim.Native.Nat.{ℕ, suc, ◌+◌, ◌-◌, ◌*◌, ◌^◌, ◌≤◌, ◌<◌, max}
use native.Mathlib.Nat.{le_trans, le_of_eq, lt_of_lt_of_le, lt_of_not-le, mul-le-mul_right, mul-lt-mul_of_pos_right}
use native.Mathlib.Omega.{arith}
use lib.IntN.{pos, sub_ℕ, neg_ℤ, ◌+ℤ◌, ◌-ℤ◌}
use lib.Pow.{pow-add, pow_pos, pow_mono}
use lib.Count.{count_leading_zeros, leading_unique}
use lib.Ieee.{size}
use lib.Ieee.Digits.{size-lt, size-le, size_reaches}
use Rattle.integers.proofs.Difference.{ints, atoms, is-diff, diff-neg-pos}
use Rattle.floats.specs.Rounding.{ties_to_even, delivered, rounded}
use Rattle.floats.specs.Product.{bias}
use Rattle.floats.specs.Fields.{moved_places}
use Rattle.floats.proofs.Nearest.{ties-is, closest-exact, size_is}
use Rattle.floats.proofs.Bridge.{rounded-sub}

-- 1 - (b + k) + (b - 1) is 0 - k
lowered-place : (b k : ℕ) → 0 < b → pos 1 -ℤ pos (b + k) +ℤ pos (b - 1) ≡ sub_ℕ 0 k
lowered-place b k h = level b k (b - 1) (omega arith) ∙ diff-neg-pos k ∙ sym (is-diff 0 k)
  where
    level : (b k c : ℕ) → b ≡ suc c → pos 1 -ℤ pos (b + k) +ℤ pos c ≡ neg_ℤ (pos k)
    level b k c = simp ints (simp atoms (omega arith))

module _ (t T : ℕ) (some : 0 < T) (small : T < 2 ^ t) where
  abbrev k : ℕ
  k = moved_places t T

  digits : 0 < size T
  digits = lt_of_not-le (λ (h : size T ≤ 0). none (lt_of_lt_of_le (size-lt T) (pow_mono h)))
    where
      none : T < 2 ^ 0 → ⊥
      none h = omega arith

  few : size T ≤ t
  few = size-le T t small

  pub moved-some : 0 < k
  moved-some = omega (arith, few)

  pub moved-few : k ≤ t
  moved-few = omega (arith, digits)

  pub moved-least : 2 ^ t ≤ T * 2 ^ k
  moved-least =
      le_trans (le_of_eq (ap (λ (n : ℕ). 2 ^ n) (let e : t ≡ size T - 1 + k = omega (arith, few, digits) in e) ∙ pow-add 2 (size T - 1) k))
      (mul-le-mul_right (2 ^ k) (size_reaches T (size T - 1) (omega (arith, digits))))

  pub moved-most : T * 2 ^ k < 2 ^ (t + 1)
  moved-most =
      lt_of_lt_of_le (mul-lt-mul_of_pos_right (size-lt T) (pow_pos k))
      (le_of_eq (sym (pow-add 2 (size T) k) ∙ ap (λ (n : ℕ). 2 ^ n) (let e : size T + k ≡ t + 1 = omega (arith, few) in e)))

  -- nothing is rounded: of the moved significand the k places go that were put in
  pub moved-float : (w : ℕ) (s : Bool) → 0 < bias w
      → rounded (t + 1) (bias w) s (T * 2 ^ k) (pos 1 -ℤ pos (bias w + k) +ℤ pos (bias w - 1)) ≡ delivered (t + 1) (bias w) s T 0
  moved-float w s B =
      ap (rounded (t + 1) (bias w) s (T * 2 ^ k)) (lowered-place (bias w) k B)
      ∙ rounded-sub (t + 1) (bias w) s (T * 2 ^ k) 0 k
      ∙ ap (λ (n : ℕ). delivered (t + 1) (bias w) s (ties_to_even (T * 2 ^ k) (2 ^ n)) (0 + n - k)) dropped
      ∙ ap (λ (n : ℕ). delivered (t + 1) (bias w) s n (0 + k - k)) (ties-is (T * 2 ^ k) (2 ^ k) ∙ closest-exact T (2 ^ k) (pow_pos k))
      ∙ ap (delivered (t + 1) (bias w) s T) (let e : 0 + k - k ≡ 0 = omega arith in e)
    where
      dropped : max (size (T * 2 ^ k) - (t + 1)) (k - 0) ≡ k
      dropped =
          let z : size (T * 2 ^ k) ≡ suc t = size_is (T * 2 ^ k) t moved-least
          (lt_of_lt_of_le moved-most (le_of_eq (ap (λ (n : ℕ). 2 ^ n) (let e : t + 1 ≡ suc t = omega arith in e)))) in
          omega (arith, z)

  -- as the machine counts it: the zeros above the fraction in a word, less those above the leading place
  pub places-counted : (n : ℕ) → t < n → count_leading_zeros n T - (n - suc t) ≡ k
  places-counted n h =
      ap (λ (z : ℕ). z - (n - suc t)) (sym (leading_unique n T (n - size T) (size T) (omega (arith, few)) (size-lt T) twice))
      ∙ (let e : n - size T - (n - suc t) ≡ suc t - size T = omega (arith, few) in e)
    where
      twice : 2 ^ size T ≤ 2 * T + 1
      twice =
          let l : 2 ^ (size T - 1) ≤ T = size_reaches T (size T - 1) (omega (arith, digits)) in
          let e : 2 ^ size T ≡ 2 ^ (size T - 1) * 2 ^ 1 = ap (λ (n : ℕ). 2 ^ n) (let a : size T ≡ size T - 1 + 1 = omega (arith, digits) in a) ∙ pow-add 2 (size T - 1) 1 in
          omega (arith, l, e)
