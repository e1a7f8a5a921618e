-- Both tables of finishing and joining hold of the definitions. Assumes nothing.
use mathlib.Core.Path.{refl}
use lib.Ieee.{size, odd}
use Rattle.floats.specs.Rounding.{delivered, rounded}
use Rattle.floats.specs.Product.{product}
use Rattle.floats.specs.Magnitude.{in_unit, two_or_more, is_minus, scaled, factor_at}
use Rattle.accumulator.specs.Joining.{multiplied, combined, in_limits, answered, joined}
use Rattle.finishing.specs.Once.{counted, rounded_once}
use Rattle.finishing.specs.Finishing.{value_of_acc, finished_of}
use Rattle.finishing.specs.Cases.{FinishingTable, LimitsDeciding}

pub finishing-table : FinishingTable
unfolding in_unit is_minus scaled factor_at in_limits counted odd rounded_once value_of_acc finished_of
finishing-table = (refl, refl, refl, refl, refl)

pub limits-deciding : LimitsDeciding
unfolding in_unit two_or_more is_minus scaled factor_at in_limits counted rounded_once value_of_acc finished_of size odd delivered rounded product
    multiplied combined answered joined
limits-deciding = (refl, refl, refl, refl, refl, refl, refl, refl, refl, refl, refl, refl, refl, refl, refl, refl, refl, refl)
