-- Rule F2, rounded once: the binary64 number of a factor, in whole numbers.
use Rattle.std.specs.Prelude.{ℕ, ◌^◌, Bool, cond, ℤ, pos, negsuc, nat_abs, ◌+ℤ◌, ◌-ℤ◌, Float}
use Rattle.std.specs.Int.Signed.{le_z, lt_z}
use Rattle.std.specs.Float.{inf}
use Rattle.std.specs.Float.Ieee.{odd}
use Rattle.floats.specs.Rounding.{ties_to_even}
use Rattle.floats.specs.Factor.{Factor}

-- (-1)^s × n × 2^j units of 2^-1074, for an n of at most 54 digits. `odd` is the kit's way of writing a value, with an odd significand; a zero keeps s.
unfoldable pub counted : Bool → ℕ → ℕ → Float
unfolding odd
counted s n j = odd 54 s n j 1074

-- e above 1023 gives infinity
abbrev pub past_largest : ℤ → Bool
past_largest e = lt_z (pos 1023) e

-- e from -1022 on, where 2^e is not below the least normal number
abbrev pub from_least_normal : ℤ → Bool
from_least_normal e = le_z (negsuc 1021) e

-- e above 1023: infinity; e from -1022 to 1023: S × 2^(e - 52), which is S × 2^(e + 1022) units;
-- below that: S divided by 2^(-1022 - e), to nearest, ties to even, counts units. The sign is kept, at zero and infinity too.
unfoldable pub rounded_once : Factor → Float
unfolding counted
rounded_once f =
    cond (past_largest f.exp) (inf f.sign)
    (cond (from_least_normal f.exp) (counted f.sign f.sig (nat_abs (f.exp +ℤ pos 1022)))
    (counted f.sign (ties_to_even f.sig (2 ^ nat_abs (negsuc 1021 -ℤ f.exp))) 0))
