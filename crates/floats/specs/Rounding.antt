-- For rules D2 and F2, rounding to a binary format, from IEEE 754-2019, in whole numbers.
-- A format has a precision p, the digits of a significand, and a largest exponent emax (3.3); the least normal exponent is 1 - emax.
-- Its least positive number is 2 ^ -(unit_places p emax), and every finite number of the format is a whole number of those: a place z counts from there.
-- A value is the kit's `Float`: one NaN, two infinities, and `fin s m e` for (-1)^s × m × 2^e.
use Rattle.std.specs.Prelude.{ℕ, suc, ◌+◌, ◌-◌, ◌*◌, ◌/◌, ◌%◌, ◌^◌, max, Bool, cond, ltb, ℤ, pos, negsuc, Float}
use Rattle.std.specs.Float.{inf}
use Rattle.std.specs.Float.Ieee.{size, odd}

-- 3.3: emin = 1 - emax, and the last digit of a number of that exponent has the exponent emin - (p - 1)
abbrev pub unit_places : ℕ → ℕ → ℕ
unit_places p emax = emax + p - 2

-- 4.3.1 roundTiesToEven: the whole number nearest to a / b, and of two that are as near the even one
abbrev pub ties_to_even : ℕ → ℕ → ℕ
ties_to_even a b = cond (ltb (a % b * 2) b) (a / b) (cond (ltb b (a % b * 2)) (a / b + 1) (a / b + a / b % 2))

-- The number (-1)^s × n × 2^j, in units of the format's least positive number. `odd` is the kit's way of writing a value, with an odd significand.
-- 7.4: from 2^(emax + 1) on, roundTiesToEven carries the overflow to the infinity of that sign. 6.3: a zero keeps the sign too.
unfoldable pub delivered : ℕ → ℕ → Bool → ℕ → ℕ → Float
unfolding odd
delivered p emax s n j = cond (ltb (n * 2 ^ j) (2 ^ (unit_places p emax + suc emax))) (odd (suc p) s n j (unit_places p emax)) (inf s)

-- 4.3.1: (-1)^s × c × 2^z units, rounded to the format. Of c's digits (`size c` of them) the low k are dropped: those past the leading p, and
-- those below one unit (7.5: a subnormal result has fewer digits, and is rounded once, where its last digit stands).
unfoldable pub rounded : ℕ → ℕ → Bool → ℕ → ℤ → Float
unfolding delivered size
rounded p emax s c (pos j) = let k = size c - p in delivered p emax s (ties_to_even c (2 ^ k)) (j + k)
rounded p emax s c (negsuc j) = let k = max (size c - p) (suc j) in delivered p emax s (ties_to_even c (2 ^ k)) (k - suc j)
