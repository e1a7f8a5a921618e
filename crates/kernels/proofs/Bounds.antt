-- A rate whose magnitude lies in 2^-B to 2^B is not bad, and its exponent lies in -B to B. Assumes nothing.
use Prim.Native.Nat.{ℕ, suc, ◌+◌, ◌*◌, ◌^◌, ◌≤◌, ◌<◌}
use mathlib.Core.Path.{◌≡◌, sym, ap, ◌∙◌}
use mathlib.Core.Bool.{Bool, true, false, ◌&&◌}
use native.Mathlib.Nat.{le_trans, le_of_eq, lt_of_not-le, le_of_suc-le-suc, mul_right_comm, mul-le-mul_right, le_of_mul-le-mul_right}
use native.Mathlib.Omega.{arith}
use lib.IntN.{ℤ, pos, nat_abs, ◌+ℤ◌}
use lib.Dec.{T, leb}
use lib.Pow.{pow-add, pow_pos, pow_mono}
use lib.Signed.{le_z}
use lib.Ieee.{Float, nan, inf, fin, binary64, up, down, fits}
use lib.Ieee.Fits.{down_pos}
use lib.Ieee.Exact.{HasValue}
use borrow.Author.Tests.{leb-true}
use Rattle.laws.proofs.Tests.{and_both}
use Rattle.integers.proofs.Difference.{ints, atoms}
use Rattle.floats.specs.Factor.{Factor, NormalExponent}
use Rattle.floats.specs.Splitting.{is_bad, rate_factor}
use Rattle.floats.proofs.Splitting.{Normal, rate-normal, rate-range}
use Rattle.accumulator.proofs.Exponents.{limits}
use Rattle.kernels.specs.Blocks.{in_range}
use Rattle.kernels.proofs.Least.{reaches, reaching-normal, reaching-good, reaching-exponent, rate-value}

-- the lower bound alone
in-range-reaches : (B : ℕ) (x : Float) → in_range B x ≡ true → reaches B x ≡ true
unfolding in_range
in-range-reaches B nan w = w
in-range-reaches B (inf s) w = w
in-range-reaches B (fin s m e) w = (and_both (leb (down e) (m * up e * 2 ^ B)) (leb (m * up e) (2 ^ B * down e)) w).0

-- by any fraction a / c that the value equals: |x| ≤ 2^B
value-most : (B : ℕ) (s : Bool) (a c : ℕ) (x : Float) → HasValue x s a c → in_range B x ≡ true → a ≤ 2 ^ B * c
unfolding in_range
value-most B s a c nan h w = absurd h
value-most B s a c (inf u) h w = absurd h
value-most B s a c (fin u m e) h w =
    let p = 2 ^ B in
    let l : m * up e ≤ p * down e = leb-true (m * up e) (p * down e) (and_both (leb (down e) (m * up e * p)) (leb (m * up e) (p * down e)) w).1 in
    le_of_mul-le-mul_right (le_trans (le_of_eq (sym h.1)) (le_trans (mul-le-mul_right c l) (le_of_eq (mul_right_comm p (down e) c)))) (down_pos e)

-- powers of two are ordered as their exponents
power_le : (i j : ℕ) → 2 ^ i ≤ 2 ^ j → i ≤ j
power_le i j h = le_of_suc-le-suc (lt_of_not-le (λ (g : j < i). strict (pow_mono g) h))
  where
    strict : 2 ^ suc j ≤ 2 ^ i → 2 ^ i ≤ 2 ^ j → ⊥
    strict a b = omega (arith, pow_pos j)

pub in-range-good : (B : ℕ) → B ≤ 1021 → (x : Float) → T (fits binary64 x) → in_range B x ≡ true → is_bad x ≡ false
in-range-good B small x f w = reaching-good B small x f (in-range-reaches B x w)

-- ---- the exponent
most-place : (e : ℤ) (p k : ℕ) → e +ℤ pos 1022 ≡ pos p → p ≤ suc k + 1022 → le_z e (pos (suc k)) ≡ true
most-place e p k = simp ints (simp atoms (omega arith))

pub in-range-exponent : (k : ℕ) → suc k ≤ 1021 → (x : Float) → T (fits binary64 x) → in_range (suc k) x ≡ true → nat_abs (rate_factor x).exp ≤ suc k
in-range-exponent k small x f w =
    leb-true (nat_abs g.exp) (suc k)
    (sym (limits k g.exp)
    ∙ ap (λ (t : Bool). t && le_z g.exp (pos (suc k))) (reaching-exponent k x small f (in-range-reaches B x w))
    ∙ most-place g.exp p k R.above most)
  where
    B : ℕ
    B = suc k

    g : Factor
    g = rate_factor x

    n : Normal x
    n = reaching-normal B small x f (in-range-reaches B x w)

    R : NormalExponent 11 g
    R = rate-range x n

    p : ℕ
    p = R.place

    most : p ≤ suc k + 1022
    most =
        let l : 52 + p ≤ B + 1074 = power_le (52 + p) (B + 1074)
        (le_trans (le_of_eq (pow-add 2 52 p)) (le_trans (mul-le-mul_right (2 ^ p) (rate-normal x).least)
        (le_trans (value-most B g.sign (g.sig * 2 ^ p) (2 ^ 1074) x (rate-value x f n) w) (le_of_eq (sym (pow-add 2 B 1074)))))) in
        omega arith
