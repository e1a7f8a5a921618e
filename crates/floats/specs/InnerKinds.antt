-- Inner: the kinds of rates that are not bad.
use Rattle.std.specs.Prelude.{Bool, false, not, ◌&&◌, eqb, pos, Float}
use Rattle.std.specs.Float.{fin}
use Rattle.floats.specs.Fields.{exp_field, subnormal_bits}
use Rattle.floats.specs.Splitting.{bits_of}

unfoldable pub is_subnormal : Float → Bool
is_subnormal x = subnormal_bits 11 52 (bits_of x)

abbrev pub ZERO : Float
ZERO = fin false 0 (pos 0)

-- a zero or a normal number: neither subnormal, nor infinite, nor a NaN
unfoldable pub is_ordinary : Float → Bool
unfolding is_subnormal
is_ordinary x = not (is_subnormal x) && not (eqb (exp_field 11 52 (bits_of x)) 2047)
