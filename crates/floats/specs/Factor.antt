-- Rule W1: factors, and their product in whole numbers. For a fraction of t bits; the rule has t = 52.
use Rattle.std.specs.Prelude.{ℕ, ◌+◌, ◌-◌, ◌*◌, ◌^◌, ◌≤◌, ◌<◌, ◌≡◌, Bool, false, cond, ltb, eqb, ℤ, pos, ◌+ℤ◌, Float}
use Rattle.floats.specs.Rounding.{ties_to_even, rounded}
use Rattle.floats.specs.Product.{signs, bias}

-- A sign, a significand S and an exponent e: (-1)^sign × S × 2^(e - t)
pub record Factor : Type 0 where
  pub sign : Bool
  pub sig : ℕ
  pub exp : ℤ

-- plus, 2^t, 0
abbrev pub unit : ℕ → Factor
unit t = record { sign = false; sig = 2 ^ t; exp = pos 0 }

-- the significand is in 2^t .. 2^(t + 1) - 1: it has t + 1 digits
pub record Normalised (t : ℕ) (f : Factor) : Type 0 where
  pub least : 2 ^ t ≤ f.sig
  pub most : f.sig < 2 ^ (t + 1)

-- n = S × T is divided by 2^t, and by 2^(t + 1) if it is at least 2^(2t + 1)
abbrev pub long : ℕ → ℕ → ℕ
long t n = cond (ltb n (2 ^ (2 * t + 1))) 0 1

abbrev pub quotient : ℕ → ℕ → ℕ
quotient t n = ties_to_even n (2 ^ (t + long t n))

-- a quotient of 2^(t + 1) becomes 2^t, with one more in the exponent
abbrev pub significand : ℕ → ℕ → ℕ
significand t n = cond (eqb (quotient t n) (2 ^ (t + 1))) (2 ^ t) (quotient t n)

abbrev pub carry : ℕ → ℕ → ℕ
carry t n = long t n + cond (eqb (quotient t n) (2 ^ (t + 1))) 1 0

-- The sign is minus if just one factor's is; exponents are added, with the carry.
unfoldable pub times : ℕ → Factor → Factor → Factor
times t f g =
    let n = f.sig * g.sig in
    record { sign = signs f.sign g.sign; sig = significand t n; exp = f.exp +ℤ g.exp +ℤ pos (carry t n) }

-- The float nearest to a factor, in the format of widths w and t: S × 2^(e - t) is S × 2^(e + bias - 1) of the format's least positive number.
-- Where e is in 1 - bias .. bias the float equals the factor.
unfoldable pub float_of : ℕ → ℕ → Factor → Float
unfolding rounded
float_of w t f = rounded (t + 1) (bias w) f.sign f.sig (f.exp +ℤ pos (bias w - 1))

-- The exponent is that of a normal number of the format: it is `place` above 1 - bias, and at most bias.
pub record NormalExponent (w : ℕ) (f : Factor) : Type 0 where
  pub place : ℕ
  pub above : f.exp +ℤ pos (bias w - 1) ≡ pos place
  pub below : place < 2 * bias w
