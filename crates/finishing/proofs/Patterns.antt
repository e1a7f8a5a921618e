-- The patterns of the code: a power of two by its exponent field. Assumes nothing.
use mathlib.Core.Path.{◌≡◌, sym, ap, ◌∙◌, subst}
use mathlib.Core.Bool.{true, false, not}
use Prim.Native.Nat.{ℕ, suc, ◌+◌, ◌-◌, ◌*◌, ◌%◌, ◌^◌, ◌≤◌, ◌<◌}
use native.Mathlib.Omega.{arith}
use lib.IntN.{ℤ, pos, negsuc, nat_abs, ◌+ℤ◌}
use lib.Signed.{lt_z, non_neg}
use lib.Dec.{T}
use lib.Ieee.{fin, binary64, minus, of_bits, nan_bits}
use mir.Syntax.{w64}
use mir.Val.{SFits, Fits}
use Rattle.integers.proofs.Difference.{ints, atoms, at-pos, at-neg}
use Rattle.floats.proofs.Patterns.{minus_is, power-bits, power-number}
use Rattle.integers.proofs.Machine.{nonneg_pos}
use Rattle.finishing.specs.Once.{past_largest, from_least_normal}

-- ---- a power of two
-- the exponent of the field x + 1
exponent : (e : ℤ) (x : ℕ) → e +ℤ pos 1023 ≡ pos (suc x) → minus (x + 52) 1074 ≡ e
exponent (pos n) x h = minus_is (x + 52) 1074 ∙ at-pos (x + 52) 1074 n (flat n x h)
  where
    flat : (n x : ℕ) → pos n +ℤ pos 1023 ≡ pos (suc x) → x + 52 ≡ 1074 + n
    flat n x = simp ints (simp atoms (omega arith))
exponent (negsuc n) x h = minus_is (x + 52) 1074 ∙ at-neg (x + 52) 1074 n (flat n x h)
  where
    flat : (n x : ℕ) → negsuc n +ℤ pos 1023 ≡ pos (suc x) → 1074 ≡ x + 52 + suc n
    flat n x = simp ints (simp atoms (omega arith))

-- ---- an exponent from -1022 to 1023
module _ (e : ℤ) (h : past_largest e ≡ false) (k : from_least_normal e ≡ true) where
  range-fits : (e : ℤ) → past_largest e ≡ false → from_least_normal e ≡ true → SFits w64 (e +ℤ pos 1023)
  range-fits e = simp ints (simp atoms (omega arith))

  from_zero : (e : ℤ) → from_least_normal e ≡ true → lt_z (e +ℤ pos 1023) (pos 0) ≡ false
  from_zero e = simp ints (simp atoms (omega arith))

  field-low : (e : ℤ) (n : ℕ) → e +ℤ pos 1023 ≡ pos n → from_least_normal e ≡ true → 1 ≤ n
  field-low e n = simp ints (simp atoms (omega arith))

  field-high : (e : ℤ) (n : ℕ) → e +ℤ pos 1023 ≡ pos n → past_largest e ≡ false → n ≤ 2046
  field-high e n = simp ints (simp atoms (omega arith))

  abbrev pub n : ℕ
  n = nat_abs (e +ℤ pos 1023)

  n-is : e +ℤ pos 1023 ≡ pos n
  n-is = nonneg_pos (e +ℤ pos 1023) (from_zero e k)

  n-suc : n ≡ suc (n - 1)
  n-suc = let l = field-low e n n-is k in omega arith

  n-low : n - 1 < 2046
  n-low = let l = field-low e n n-is k in let u = field-high e n n-is h in omega arith

  pub field_fits : SFits w64 (e +ℤ pos 1023)
  field_fits = range-fits e h k

  pub field-nonneg : T (non_neg (e +ℤ pos 1023))
  field-nonneg = subst (λ (z : ℤ). T (non_neg z)) (sym n-is) tt

  pub field-narrow : Fits w64 n
  field-narrow = record { fits = let l = field-high e n n-is h in omega arith }

  shifted : n * 2 ^ 52 % 2 ^ 64 ≡ suc (n - 1) * 2 ^ 52
  shifted = let l = n-suc in let u = n-low in omega arith

  pub power-is : of_bits binary64 (n * 2 ^ 52 % 2 ^ 64) ≡ fin false 1 e
  power-is = ap (of_bits binary64) shifted ∙ power-bits (n - 1) n-low ∙ ap (fin false 1) (exponent e (n - 1) (n-is ∙ ap pos n-suc))

  pub power-not-nan : T (not (nan_bits binary64 (n * 2 ^ 52 % 2 ^ 64)))
  power-not-nan = subst (λ (y : ℕ). T (not (nan_bits binary64 y))) (sym shifted) (power-number (n - 1) n-low)
