-- Worked cases of the definitions, computed: the product of binary64 at its edges, the whole-number rule, and splitting. Assumes nothing.
use mathlib.Core.Path.{◌≡◌, refl}
use mathlib.Core.Bool.{true, false}
use Prim.Native.Nat.{◌+◌, ◌-◌, ◌*◌, ◌^◌}
use lib.IntN.{pos, negsuc}
use lib.Ieee.{nan, inf, fin, size, odd, to_bits}
use Rattle.floats.specs.Product.{product, product_of}
use Rattle.floats.specs.Rounding.{delivered}
use Rattle.floats.specs.Factor.{times}
use Rattle.floats.specs.Fields.{value_of, of_parts, bad_bits, factor_of}
use Rattle.floats.specs.Splitting.{is_bad, rate_factor, split}
use Rattle.floats.specs.Cases.{SplittingTable}

-- 1.5 × -1.5 is -2.25, exactly
exact-product : product_of 11 52 (fin false 3 (negsuc 0)) (fin true 3 (negsuc 0)) ≡ fin true 9 (negsuc 1)
unfolding product
exact-product = refl

-- (2^52 + 1) × (2^52 + 1) / 2^104 is 1 + 2^-51 and 2^-104, which is less than half of the last digit
dropped : product_of 11 52 (fin false (2 ^ 52 + 1) (negsuc 51)) (fin false (2 ^ 52 + 1) (negsuc 51)) ≡ fin false (2 ^ 51 + 1) (negsuc 50)
unfolding product
dropped = refl

-- ties: 3 × (2^52 + 1) lies half way between two numbers, of which the even one is above; of 5 × (2^51 + 1) it is below
tie_up : product_of 11 52 (fin false 3 (pos 0)) (fin false (2 ^ 52 + 1) (pos 0)) ≡ fin false (3 * 2 ^ 50 + 1) (pos 2)
unfolding product
tie_up = refl

tie_down : product_of 11 52 (fin false 5 (pos 0)) (fin false (2 ^ 51 + 1) (pos 0)) ≡ fin false (5 * 2 ^ 49 + 1) (pos 2)
unfolding product
tie_down = refl

-- half of the least positive number is a tie, and zero is even; half of three of them is two; the sign stays
least-half : product_of 11 52 (fin true 1 (negsuc 1073)) (fin false 1 (negsuc 0)) ≡ fin true 0 (pos 0)
unfolding product
least-half = refl

least-three : product_of 11 52 (fin false 3 (negsuc 1073)) (fin false 1 (negsuc 0)) ≡ fin false 1 (negsuc 1072)
unfolding product
least-three = refl

-- the largest number below 2, times 2^-1023, rounds up to the least normal number
subnormal-up : product_of 11 52 (fin false (2 ^ 53 - 1) (negsuc 51)) (fin false 1 (negsuc 1022)) ≡ fin false 1 (negsuc 1021)
unfolding product
subnormal-up = refl

-- twice the largest number overflows
overflow : product_of 11 52 (fin true (2 ^ 53 - 1) (pos 971)) (fin false 1 (pos 1)) ≡ inf true
unfolding product
overflow = refl

-- zeros, infinities and NaN
minus-zero : product_of 11 52 (fin true 0 (pos 0)) (fin false 5 (pos 0)) ≡ fin true 0 (pos 0)
unfolding product
minus-zero = refl

infinite : product_of 11 52 (inf true) (fin true 5 (pos 0)) ≡ inf false
unfolding product
infinite = refl

invalid : product_of 11 52 (inf false) (fin false 0 (pos 0)) ≡ nan
unfolding product
invalid = refl

-- the whole-number rule: 1.5 × 1.5 is 1.125 × 2; and a quotient that rounds up to 2^53 is 2^52 with one more in the exponent
one_and_a_half : times 52 (record { sign = false; sig = 3 * 2 ^ 51; exp = pos 0 }) (record { sign = true; sig = 3 * 2 ^ 51; exp = pos 0 })
    ≡ record { sign = true; sig = 9 * 2 ^ 49; exp = pos 1 }
unfolding times
one_and_a_half = refl

rounds-up : times 52 (record { sign = false; sig = 3 * 2 ^ 51; exp = pos 7 }) (record { sign = false; sig = 6004799503160661; exp = negsuc 9 })
    ≡ record { sign = false; sig = 2 ^ 52; exp = negsuc 1 }
unfolding times
rounds-up = refl

-- splitting
pub splitting-table : SplittingTable
unfolding split rate_factor factor_of is_bad bad_bits value_of of_parts delivered size odd to_bits
splitting-table = ((refl, refl, refl), (refl, refl, refl, refl, refl, refl, refl), (refl, refl, refl, refl, refl, refl))
