-- For rules L3 and L4, whole numbers of the machine: which fit i64, and when two are equal.
use Rattle.std.specs.Prelude.{◌^◌, Bool, false, ltb, eqb, ℤ, pos, negsuc}
use Rattle.std.specs.Int.Signed.{mag}

-- z is from -2^63 to 2^63 - 1. (`mag` of a negative z is -z - 1.)
unfoldable pub fits_i64 : ℤ → Bool
fits_i64 z = ltb (mag z) (2 ^ 63)

-- the test of equality
unfoldable pub eq_z : ℤ → ℤ → Bool
eq_z (pos a) (pos b) = eqb a b
eq_z (pos a) (negsuc b) = false
eq_z (negsuc a) (pos b) = false
eq_z (negsuc a) (negsuc b) = eqb a b
