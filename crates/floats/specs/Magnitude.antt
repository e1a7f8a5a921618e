-- For rules A1, A3 and W1, the size of a float, in whole numbers: of ±m × 2^e it is the fraction m × up e / down e.
use Rattle.std.specs.Prelude.{ℕ, ◌*◌, ◌/◌, ◌^◌, Bool, true, false, ◌&&◌, leb, ltb, ℤ, Float}
use Rattle.std.specs.Float.{nan, inf, fin}
use Rattle.std.specs.Float.Ieee.{up, down}
use Rattle.floats.specs.Factor.{Factor}

-- 1 ≤ |x| < 2
unfoldable pub in_unit : Float → Bool
in_unit nan = false
in_unit (inf s) = false
in_unit (fin s m e) = leb (down e) (m * up e) && ltb (m * up e) (2 * down e)

-- 2 ≤ |x|
unfoldable pub two_or_more : Float → Bool
two_or_more nan = false
two_or_more (inf s) = true
two_or_more (fin s m e) = leb (2 * down e) (m * up e)

unfoldable pub is_minus : Float → Bool
is_minus nan = false
is_minus (inf s) = s
is_minus (fin s m e) = s

-- |x| × 2^t
unfoldable pub scaled : ℕ → Float → ℕ
scaled t nan = 0
scaled t (inf s) = 0
scaled t (fin s m e) = m * up e * 2 ^ t / down e

-- the factor of a float m and an exponent e: the sign of m, S = |m| × 2^t, and e
unfoldable pub factor_at : ℕ → Float → ℤ → Factor
unfolding is_minus scaled
factor_at t m e = record { sign = is_minus m; sig = scaled t m; exp = e }

-- a factor with the exponent z in the place of its own
abbrev pub with_exponent : Factor → ℤ → Factor
with_exponent f z = record { sign = f.sign; sig = f.sig; exp = z }
