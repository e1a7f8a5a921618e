-- The fraction of a subnormal as a float: it is normal, and split it has the moved fraction and the place of the highest one. Assumes nothing.
use mathlib.Core.Path.{◌≡◌, refl, sym, ap, ◌∙◌, subst}
use mathlib.Core.Bool.{true, false, not, cond, true≢false}
use Prim.Native.Nat.{ℕ, ◌+◌, ◌-◌, ◌*◌, ◌^◌, ◌≤◌, ◌<◌}
use native.Mathlib.Nat.{le_of_lt, lt_of_lt_of_le, lt_of_le_of_lt, mul-one, mul_assoc}
use native.Mathlib.Omega.{arith}
use lib.IntN.{ℤ, pos, ◌-ℤ◌}
use lib.Dec.{T, leb, lit<, lit≤, le→leb}
use lib.Pow.{pow-add}
use lib.Ieee.{Float, nan, inf, fin, binary64, fits, is_nan, nan_bits, of_bits, of_int, in_float}
use mir.Syntax.{w64}
use mir.Val.{SFits, to_z, of_z}
use mir.ValLaws.{to_z-of_z}
use Rattle.integers.proofs.Difference.{ints, atoms}
use Rattle.floats.specs.Factor.{Factor, Normalised, NormalExponent, float_of}
use Rattle.floats.specs.declared.Split.{Split}
use Rattle.floats.specs.Fields.{sign_field, fraction, pattern, subnormal_bits, moved_places}
use Rattle.floats.specs.Magnitude.{in_unit, with_exponent}
use Rattle.floats.specs.Splitting.{bits_of, split, rate_factor}
use Rattle.floats.specs.InnerKinds.{is_subnormal, is_ordinary}
use Rattle.floats.proofs.Bridge.{round-to}
use Rattle.floats.proofs.Magnitude.{moved-normal}
use Rattle.floats.proofs.Fields.{fraction-lt, pattern_lt}
use Rattle.floats.proofs.PatternFactor.{subnormal-some, bits-of-float, float-normal}
use Rattle.floats.proofs.Subnormal.{moved-few, moved-least, moved-most}
use Rattle.floats.proofs.Ordinary.{normal-ordinary}
use Rattle.floats.proofs.Splitting.{bits-lt, unit-number, unit-value, float-rate, split-m, split-unit, split-e, subnormal-split}
use Rattle.floats.proofs.Moving.{subnormal-bits, low, led-small, low-fraction, sign-left}

module _ (n : ℕ) (some : 0 < n) (small : n < 2 ^ 52) where
  abbrev k : ℕ
  k = moved_places 52 n

  abbrev g : Factor
  g = record { sign = false; sig = n * 2 ^ moved_places 52 n; exp = pos (52 - moved_places 52 n) }

  abbrev whole : Float
  whole = of_int binary64 (pos n)

  few : k ≤ 52
  few = moved-few 52 n some small

  whole_is : of_int binary64 (pos n) ≡ float_of 11 52 g
  unfolding of_int float_of
  whole_is =
      round-to binary64 11 52 refl refl false n 1 (n * 2 ^ k) (pos (52 - k + 1022)) (lit< tt)
      (mul-one (n * 2 ^ 1074)
      ∙ ap (λ (y : ℕ). n * 2 ^ y) (let e : 1074 ≡ k + (52 - k + 1022) = omega (arith, few) in e)
      ∙ ap (λ (y : ℕ). n * y) (pow-add 2 k (52 - k + 1022))
      ∙ sym (mul_assoc n (2 ^ k) (2 ^ (52 - k + 1022)))
      ∙ sym (mul-one (n * 2 ^ k * 2 ^ (52 - k + 1022))))

  G : Normalised 52 g
  G = record { least = moved-least 52 n some small; most = moved-most 52 n some small }

  R : NormalExponent 11 g
  R = record { place = 52 - k + 1022; above = refl; below = omega arith }

  pub whole-ordinary : is_ordinary (of_int binary64 (pos n)) ≡ true
  whole-ordinary =
      ap is_ordinary whole_is ∙ normal-ordinary (float_of 11 52 g) (float-normal binary64 11 52 refl refl (lit< tt) g G R)

  whole-rate : rate_factor (of_int binary64 (pos n)) ≡ g
  whole-rate = ap rate_factor whole_is ∙ float-rate g G R

  pub whole-m : bits_of (split (of_int binary64 (pos n))).m ≡ pattern 11 52 false 1023 (n * 2 ^ moved_places 52 n - 2 ^ 52)
  whole-m =
      ap bits_of (split-m (of_int binary64 (pos n)) ∙ ap (λ (f : Factor). float_of 11 52 (with_exponent f (pos 0))) whole-rate)
      ∙ bits-of-float binary64 11 52 refl refl (lit< tt) (with_exponent g (pos 0)) (moved-normal 52 g (pos 0) G)
      (record { place = 1022; above = refl; below = lit< tt })

  pub whole-e : (split (of_int binary64 (pos n))).e ≡ pos (52 - moved_places 52 n)
  whole-e = split-e (of_int binary64 (pos n)) ∙ ap (λ (f : Factor). f.exp) whole-rate

-- ---- what the code works out of it
unit-not-nan : (y : Float) → in_unit y ≡ true → T (not (is_nan y))
unfolding in_unit is_nan
unit-not-nan nan h = absurd (true≢false (sym h))
unit-not-nan (inf s) h = tt
unit-not-nan (fin s m e) h = tt

module _ (x : Float) (f : T (fits binary64 x)) (h : is_subnormal x ≡ true) where
  abbrev b : ℕ
  b = bits_of x

  abbrev T' : ℕ
  T' = fraction 52 b

  S : subnormal_bits 11 52 (bits_of x) ≡ true
  S = subnormal-bits x h

  some : 0 < fraction 52 (bits_of x)
  some = (subnormal-some 11 52 (bits_of x) S).1

  pub low-exact : T (in_float binary64 (pos (low (bits_of x))))
  unfolding in_float
  low-exact = subst (λ (n : ℕ). T (leb n (2 ^ 53))) (sym (low-fraction b S)) (le→leb T' (2 ^ 53) (le_of_lt (lt_of_lt_of_le (fraction-lt 52 b) (lit≤ tt))))

  pub low-ordinary : is_ordinary (of_int binary64 (pos (low (bits_of x)))) ≡ true
  low-ordinary = ap (λ (n : ℕ). is_ordinary (of_int binary64 (pos n))) (low-fraction b S) ∙ whole-ordinary T' some (fraction-lt 52 b)

  module _ (p : Split) (e : p ≡ split (of_int binary64 (pos (low (bits_of x))))) where
    p-is : p ≡ split (of_int binary64 (pos (fraction 52 (bits_of x))))
    p-is = e ∙ ap (λ (n : ℕ). split (of_int binary64 (pos n))) (low-fraction b S)

    p-bits : bits_of p.m ≡ 1023 * 2 ^ 52 + (T' * 2 ^ moved_places 52 T' - 2 ^ 52)
    p-bits = ap (λ (q : Split). bits_of q.m) p-is ∙ whole-m T' some (fraction-lt 52 b)

    p-e : p.e ≡ pos (52 - moved_places 52 T')
    p-e = ap (λ (q : Split). q.e) p-is ∙ whole-e T' some (fraction-lt 52 b)

    pub p-number : T (not (is_nan p.m))
    p-number =
        unit-not-nan p.m
        (subst (λ (q : Split). in_unit q.m ≡ true) (sym e) (split-unit (of_int binary64 (pos (low b)))))

    pub whole_set : b - low b + bits_of p.m ≡ pattern 11 52 (sign_field 11 52 b) 1023 (T' * 2 ^ moved_places 52 T' - 2 ^ 52)
    whole_set =
        ap (λ (n : ℕ). n + bits_of p.m) (sign-left b S (bits-lt x f))
        ∙ (let q = p-bits in
        let g : cond (sign_field 11 52 b) (2 ^ 63) 0 + bits_of p.m
        ≡ cond (sign_field 11 52 b) (2 ^ 63) 0 + 1023 * 2 ^ 52 + (T' * 2 ^ moved_places 52 T' - 2 ^ 52) = omega arith
        in g)

    pub whole-fits : b - low b + bits_of p.m < 2 ^ 64
    whole-fits =
        subst (λ (n : ℕ). n < 2 ^ 64) (sym whole_set)
        (lt_of_lt_of_le (pattern_lt 11 52 (sign_field 11 52 b) 1023 (T' * 2 ^ moved_places 52 T' - 2 ^ 52) (lit< tt) (led-small b S)) (lit≤ tt))

    pub whole-number : T (not (nan_bits binary64 (b - low b + bits_of p.m)))
    whole-number = unit-number (b - low b + bits_of p.m) (sign_field 11 52 b) (T' * 2 ^ moved_places 52 T' - 2 ^ 52) (led-small b S) whole_set

    -- (52 - k) - 1074 is 1 - (1023 + k)
    lowered : (k z : ℕ) → z + k ≡ 52 → pos z -ℤ pos 1074 ≡ pos 1 -ℤ pos (1023 + k)
    lowered k z = simp ints (simp atoms (omega arith))

    near : (z : ℕ) → z ≤ 52 → SFits w64 (pos z -ℤ pos 1074)
    near z = simp ints (simp atoms (omega arith))

    e-near : to_z w64 (of_z w64 p.e) ≡ pos (52 - moved_places 52 T')
    e-near = ap (λ (z : ℤ). to_z w64 (of_z w64 z)) p-e ∙ to_z-of_z w64 (pos (52 - moved_places 52 T')) (record { sfits = lt_of_le_of_lt (let l : 52 - moved_places 52 T' ≤ 52 = omega arith in l) (lit< tt) })

    pub e-fits : SFits w64 (to_z w64 (of_z w64 p.e) -ℤ pos 1074)
    e-fits = subst (λ (z : ℤ). SFits w64 (z -ℤ pos 1074)) (sym e-near) (near (52 - moved_places 52 T') (omega arith))

    pub whole_split : ◌≡◌ {A = Split}
        (record { m = of_bits binary64 (b - low b + bits_of p.m); e = to_z w64 (of_z w64 (to_z w64 (of_z w64 p.e) -ℤ pos 1074)); bad = false }) (split x)
    whole_split =
        subnormal-split x (of_bits binary64 (b - low b + bits_of p.m)) (to_z w64 (of_z w64 (to_z w64 (of_z w64 p.e) -ℤ pos 1074))) h
        (unit-value (b - low b + bits_of p.m) (sign_field 11 52 b) (T' * 2 ^ moved_places 52 T' - 2 ^ 52) whole_set)
        (to_z-of_z w64 (to_z w64 (of_z w64 p.e) -ℤ pos 1074) e-fits
        ∙ ap (λ (z : ℤ). z -ℤ pos 1074) e-near
        ∙ lowered (moved_places 52 T') (52 - moved_places 52 T') (let m = moved-few 52 T' some (fraction-lt 52 b) in omega arith))
