-- Rule A2, splitting a rate, by its bit fields at 11 and 52.
use Rattle.std.specs.Prelude.{ℕ, ◌-◌, ◌^◌, Bool, Float}
use Rattle.std.specs.Float.{binary64}
use Rattle.std.specs.Float.Ieee.{to_bits}
use Rattle.floats.specs.declared.Split.{Split}
use Rattle.floats.specs.Formats.{f64_format}
use Rattle.floats.specs.Factor.{Factor}
use Rattle.floats.specs.Fields.{pattern, value_of, bad_bits, factor_of}

-- the pattern of a rate; of the one NaN it is 0x7FF8000000000000
abbrev pub bits_of : Float → ℕ
bits_of x = to_bits binary64 x

-- a rate that has no factor: a zero, an infinity or a NaN
unfoldable pub is_bad : Float → Bool
unfolding bad_bits
is_bad x = bad_bits f64_format.w f64_format.t (bits_of x)

-- the factor of a rate that is not bad
unfoldable pub rate_factor : Float → Factor
unfolding factor_of
rate_factor x = factor_of f64_format.w f64_format.t (bits_of x)

-- m has the sign and the significand of the rate's factor, with the exponent field 1023: the leading place, 2^52, is not written. e is the factor's.
unfoldable pub split : Float → Split
unfolding is_bad rate_factor value_of
split x =
    let f = rate_factor x in
    record { m = value_of 11 52 (pattern 11 52 f.sign 1023 (f.sig - 2 ^ 52)); e = f.exp; bad = is_bad x }
