-- Inner: the bounds of an accumulator's m, and the first lane that met a bad value.
use Rattle.std.specs.Prelude.{ℕ, min, ◌≡◌, Bool, true, cond, List, T, Float}
use Rattle.std.specs.Float.{binary64}
use Rattle.std.specs.Float.Ieee.{fits}
use Rattle.floats.specs.Magnitude.{in_unit}
use Rattle.floats.specs.Splitting.{is_bad}
use Rattle.accumulator.specs.declared.StableProductFloatAcc.{StableProductFloatAcc}
use Rattle.kernels.specs.Lanes.{feed, lane_of}

-- m is a value of binary64 with 1 <= |m| < 2
pub record Sound (a : StableProductFloatAcc) : Type 0 where
  pub value : T (fits binary64 a.m)
  pub in_unit : in_unit a.m ≡ true

-- the lower of two lanes, if the value is bad
abbrev pub lower : ℕ → ℕ → Bool → ℕ
lower k lane bad = cond bad (min k lane) k

abbrev pub bad_step : ℕ → ℕ → Float → ℕ
bad_step i k x = lower k (lane_of i) (is_bad x)

-- the first lane that met a bad value; 8 if none did
unfoldable pub first_bad : List Float → ℕ
first_bad xs = feed bad_step 0 8 xs
