-- Rules O1 to O3: a value as a whole number of units, the product of two, and of a list in order. No float is in it: patterns go in, and one comes out.
-- For an exponent field of w bits and a fraction of t bits (IEEE 754-2019, 3.6). The unit is the least positive number, 2^-1074 at w = 11, t = 52.
use Rattle.std.specs.Prelude.{ℕ, zero, suc, ◌+◌, ◌-◌, ◌*◌, ◌/◌, ◌^◌, max, Bool, false, cond, ltb, eqb}
use mathlib.Core.List.{List, foldl}
use Rattle.std.specs.Float.Ieee.{size}
use Rattle.floats.specs.Rounding.{unit_places, ties_to_even}
use Rattle.floats.specs.Product.{signs, bias}
use Rattle.floats.specs.Fields.{sign_field, exp_field, fraction, pattern}

-- a NaN, an infinity with its sign, or a sign and a count of units
pub data UnitValue : Type 0 where
  not_number : UnitValue
  infinite : Bool → UnitValue
  unit_count : Bool → ℕ → UnitValue

-- 3.3: 1 is so many powers of two above the unit, 1074 of them
abbrev pub one_places : ℕ → ℕ → ℕ
one_places w t = unit_places (t + 1) (bias w)

-- 3.4: how many units a pattern with the exponent field E and the fraction T counts: T, or from E = 1 on (2^t + T) × 2^(E - 1)
unfoldable pub units_in : ℕ → ℕ → ℕ → ℕ
units_in t zero T = T
units_in t (suc x) T = (2 ^ t + T) * 2 ^ x

-- 3.4: the value of a pattern; E all ones is an infinity or a NaN
unfoldable pub read_units : ℕ → ℕ → ℕ → UnitValue
unfolding units_in
read_units w t b =
    let s = sign_field w t b in
    let E = exp_field w t b in
    let T = fraction t b in
    cond (eqb E (2 ^ w - 1)) (cond (eqb T 0) (infinite s) not_number) (unit_count s (units_in t E T))

-- 4.3.1 and 7.5, of n × 2^-(one_places) units: rounded to nearest, ties to even, to t + 1 digits or to whole units, whichever is coarser
unfoldable pub rounded_units : ℕ → ℕ → ℕ → ℕ
unfolding size
rounded_units w t n = let k = max (size n - (t + 1)) (one_places w t) in ties_to_even n (2 ^ k) * 2 ^ (k - one_places w t)

-- 7.4: from 2^(emax + 1) on it is the infinity of that sign
unfoldable pub over_units : ℕ → ℕ → Bool → ℕ → UnitValue
over_units w t s n = cond (ltb n (2 ^ (one_places w t + suc (bias w)))) (unit_count s n) (infinite s)

-- 6.1: an infinity times a number that is not zero is an infinity. 7.2 b: times a zero it is a NaN
abbrev pub infinite_times : Bool → ℕ → UnitValue
infinite_times s zero = not_number
infinite_times s (suc n) = infinite s

-- 6.2.3: a NaN among the two gives a NaN. 5.4.1: of two counts c and d the exact product is c × d × 2^-(2 × one_places), and it is rounded once
unfoldable pub unit_product : ℕ → ℕ → UnitValue → UnitValue → UnitValue
unfolding over_units rounded_units
unit_product w t not_number y = not_number
unit_product w t (infinite a) not_number = not_number
unit_product w t (infinite a) (infinite b) = infinite (signs a b)
unit_product w t (infinite a) (unit_count b d) = infinite_times (signs a b) d
unit_product w t (unit_count a c) not_number = not_number
unit_product w t (unit_count a c) (infinite b) = infinite_times (signs a b) c
unit_product w t (unit_count a c) (unit_count b d) = over_units w t (signs a b) (rounded_units w t (c * d))

-- 3.4 back: of a count the leading t + 1 digits are kept, and the exponent field says how many were dropped; their first digit adds one to it.
-- A NaN has one pattern, with the highest bit of the fraction alone: 0x7FF8000000000000.
unfoldable pub write_units : ℕ → ℕ → UnitValue → ℕ
unfolding size
write_units w t not_number = pattern w t false (2 ^ w - 1) (2 ^ (t - 1))
write_units w t (infinite s) = pattern w t s (2 ^ w - 1) 0
write_units w t (unit_count s n) = let k = size n - (t + 1) in pattern w t s k (n / 2 ^ k)

-- rule O3, the ordered product of a list of patterns: from 1, each multiplied in from the right, in order
unfoldable pub ordered_bits : ℕ → ℕ → List ℕ → ℕ
unfolding read_units unit_product write_units
ordered_bits w t bs = write_units w t (foldl (λ v b. unit_product w t v (read_units w t b)) (unit_count false (2 ^ one_places w t)) bs)
