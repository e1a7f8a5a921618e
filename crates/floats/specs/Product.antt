-- Rule D2, the product of IEEE 754-2019 for a binary format of precision p and largest exponent emax. Definitions only, total.
use Rattle.std.specs.Prelude.{ℕ, zero, suc, ◌+◌, ◌-◌, ◌*◌, ◌^◌, Bool, true, false, not, pos, ◌+ℤ◌, Float}
use Rattle.std.specs.Float.{nan, inf, fin}
use Rattle.floats.specs.Rounding.{unit_places, rounded}

-- 6.3: the sign of a product is minus if just one factor's is
abbrev pub signs : Bool → Bool → Bool
signs true b = not b
signs false b = b

-- 6.1: an infinity times a number that is not zero is an infinity. 7.2 b: an infinity times a zero is invalid, and gives a quiet NaN
abbrev pub infinity_times : Bool → ℕ → Float
infinity_times s zero = nan
infinity_times s (suc n) = inf s

-- 6.2.3: a NaN among the operands gives a NaN. 6.1: infinities.
-- 5.4.1: of two numbers, the exact product (-1)^(a + b) × (m × n) × 2^(e + d), as if of infinite precision and range, and then rounded (4.3.1).
unfoldable pub product : ℕ → ℕ → Float → Float → Float
unfolding rounded
product p emax nan y = nan
product p emax (inf a) nan = nan
product p emax (inf a) (inf b) = inf (signs a b)
product p emax (inf a) (fin b n d) = infinity_times (signs a b) n
product p emax (fin a m e) nan = nan
product p emax (fin a m e) (inf b) = infinity_times (signs a b) m
product p emax (fin a m e) (fin b n d) = rounded p emax (signs a b) (m * n) (e +ℤ d +ℤ pos (unit_places p emax))

-- 3.6: the binary interchange format with an exponent field of w bits and a trailing significand field of t bits has the precision t + 1 and the
-- largest exponent 2^(w - 1) - 1, which is also its bias. binary64 has the widths 11 and 52.
abbrev pub bias : ℕ → ℕ
bias w = 2 ^ (w - 1) - 1

abbrev pub product_of : ℕ → ℕ → Float → Float → Float
product_of w t = product (t + 1) (bias w)
