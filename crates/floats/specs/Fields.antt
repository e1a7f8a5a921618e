-- For rule A2, IEEE 754-2019, 3.4: the fields of a bit pattern, for an exponent field of w bits and a trailing significand field (the fraction) of t bits.
-- From the highest: the sign S, the exponent field E, the fraction T. binary64 is w = 11, t = 52.
use Rattle.std.specs.Prelude.{ℕ, zero, suc, ◌+◌, ◌-◌, ◌*◌, ◌/◌, ◌%◌, ◌^◌, Bool, not, cond, ◌&&◌, ◌||◌, leb, eqb, pos, ◌-ℤ◌, Float}
use Rattle.std.specs.Float.{nan, inf}
use Rattle.std.specs.Float.Ieee.{size}
use Rattle.floats.specs.Rounding.{delivered}
use Rattle.floats.specs.Product.{bias}
use Rattle.floats.specs.Factor.{Factor}

abbrev pub sign_field : ℕ → ℕ → ℕ → Bool
sign_field w t b = leb (2 ^ (w + t)) b

abbrev pub exp_field : ℕ → ℕ → ℕ → ℕ
exp_field w t b = b / 2 ^ t % 2 ^ w

abbrev pub fraction : ℕ → ℕ → ℕ
fraction t b = b % 2 ^ t

-- the pattern of three fields
abbrev pub pattern : ℕ → ℕ → Bool → ℕ → ℕ → ℕ
pattern w t s E T = cond s (2 ^ (w + t)) 0 + E * 2 ^ t + T

-- 3.4 a to e: E all ones is a NaN or an infinity; E = 0 is T units of the least positive number, a zero or a subnormal; any other E is a normal
-- number, (-1)^S × (2^t + T) × 2^(E - bias - t), which is (2^t + T) × 2^(E - 1) units.
unfoldable pub of_parts : ℕ → ℕ → Bool → ℕ → ℕ → Float
unfolding delivered
of_parts w t s zero T = delivered (t + 1) (bias w) s T 0
of_parts w t s (suc x) T = cond (eqb (suc x) (2 ^ w - 1)) (cond (eqb T 0) (inf s) nan) (delivered (t + 1) (bias w) s (2 ^ t + T) x)

unfoldable pub value_of : ℕ → ℕ → ℕ → Float
unfolding of_parts
value_of w t b = of_parts w t (sign_field w t b) (exp_field w t b) (fraction t b)

-- Which patterns are bad: zeros (E and T are 0), infinities and NaNs (E is all ones).
unfoldable pub bad_bits : ℕ → ℕ → ℕ → Bool
bad_bits w t b = (eqb (exp_field w t b) 0 && eqb (fraction t b) 0) || eqb (exp_field w t b) (2 ^ w - 1)

-- a subnormal: E is 0 and T is not
abbrev pub subnormal_bits : ℕ → ℕ → ℕ → Bool
subnormal_bits w t b = eqb (exp_field w t b) 0 && not (eqb (fraction t b) 0)

-- by how many places T's highest one is moved up to the leading place, that of 2^t
abbrev pub moved_places : ℕ → ℕ → ℕ
moved_places t T = suc t - size T

-- The factor of a pattern that is not bad: its sign, and S of t + 1 digits and e for which its magnitude is S × 2^(e - t).
-- A subnormal is T × 2^(1 - bias - t): its highest one is moved to the leading place, and e lowered to match. A normal number is (2^t + T) × 2^(E - bias - t).
-- Bad patterns are read as normal ones, which gives what splitting has for them.
unfoldable pub factor_of : ℕ → ℕ → ℕ → Factor
unfolding size
factor_of w t b =
    let T = fraction t b in
    let sub = subnormal_bits w t b in
    record {
      sign = sign_field w t b;
      sig = cond sub (T * 2 ^ moved_places t T) (2 ^ t + T);
      exp = cond sub (pos 1 -ℤ pos (bias w + moved_places t T)) (pos (exp_field w t b) -ℤ pos (bias w));
    }
