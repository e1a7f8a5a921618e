-- The bounds of a block, and no value at all, computed from the definitions. (The table of marked cases stands in `reduction`.) Assumes nothing.
use Prim.Native.Nat.{◌+◌, ◌-◌, ◌^◌}
use mathlib.Core.Path.{◌≡◌, refl}
use mathlib.Core.Bool.{true, false}
use mathlib.Core.List.{[]}
use lib.IntN.{pos, negsuc}
use lib.Ieee.{nan, fin, size, odd, to_bits, is_nan}
use Rattle.floats.specs.Rounding.{delivered, rounded}
use Rattle.floats.specs.Product.{product}
use Rattle.floats.specs.Fields.{of_parts, value_of, bad_bits, factor_of}
use Rattle.floats.specs.Splitting.{is_bad, rate_factor, split}
use Rattle.accumulator.specs.Joining.{identity_acc}
use Rattle.kernels.specs.Lanes.{feed, in_order, every, some}
use Rattle.kernels.specs.InnerLanes.{in_bounds}
use Rattle.kernels.specs.Blocks.{unsplit_step, split_step, in_range, renorm_lane, renorm, unsplit, block, blocks, lane_in, lanes_in, contiguous}

-- the bounds of a block: 2^120 is in, the next double above is not; likewise 2^-120 and the next below
pub bound-in : in_bounds (fin true 1 (pos 120)) ≡ true
unfolding in_range
bound-in = refl

pub bound-out : in_bounds (fin false (2 ^ 52 + 1) (pos 68)) ≡ false
unfolding in_range
bound-out = refl

pub bound-in-low : in_bounds (fin false 1 (negsuc 119)) ≡ true
unfolding in_range
bound-in-low = refl

pub bound-out-low : in_bounds (fin false (2 ^ 53 - 1) (negsuc 172)) ≡ false
unfolding in_range
bound-out-low = refl

pub bound-nan : in_bounds nan ≡ false
unfolding in_range
bound-nan = refl

-- no value at all: the identity, as the Rust returns at once
pub none-blocks : contiguous [] ≡ identity_acc
unfolding contiguous blocks block unsplit renorm renorm_lane in_order feed split_step unsplit_step in_range every some lane_in lanes_in split rate_factor factor_of to_bits value_of of_parts
    delivered is_bad bad_bits product rounded size odd is_nan
none-blocks = refl
