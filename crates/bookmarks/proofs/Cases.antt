-- The tables of cases hold of the definitions. Assumes nothing.
use mathlib.Core.Path.{refl}
use lib.Ieee.{size, odd, to_bits, is_nan}
use Rattle.integers.specs.Integers.{fits_i64, eq_z}
use Rattle.layout.specs.Axes.{span, axis_of, reset_fits, places_of}
use Rattle.layout.specs.Order.{kept_axes, rank, precedes, insert_axis, order_from, axes_of, resets_fit}
use Rattle.layout.specs.Fuse.{reach, join_of, fuse_from, fuse}
use Rattle.refusals.specs.Refusals.{first_of}
use Rattle.layout.specs.Compile.{total_from, total_of, fused_of, layout_of, empty_layout, traversal_at, traversal_of}
use Rattle.layout.specs.Compile.{overflows, above_most, compile_refusals, layout_beside, compile_of}
use Rattle.offsets.specs.Elements.{digits, shift, offset, inside_values, every_below, all_inside}
use Rattle.offsets.specs.Pieces.{run_of, outer_of}
use Rattle.offsets.specs.Lists.{total_in, range_refusals, range_code, offsets_from}
use Rattle.floats.specs.Rounding.{delivered, rounded}
use Rattle.floats.specs.Product.{product}
use Rattle.floats.specs.Fields.{of_parts, value_of, bad_bits, factor_of}
use Rattle.floats.specs.Magnitude.{in_unit, two_or_more}
use Rattle.floats.specs.Splitting.{is_bad, rate_factor, split}
use Rattle.accumulator.specs.Joining.{multiplied, combined, in_limits, answered}
use Rattle.kernels.specs.Lanes as lanes
use Rattle.kernels.specs.Blocks as blocks
use Rattle.kernels.specs.Pieces.{joined_pieces, rates_of}
use Rattle.reduction.specs.Ranges.{pieces_from}
use Rattle.bookmarks.specs.Steps.{step_refusals, step_code, joined_within, step_of}
use Rattle.bookmarks.specs.Cases.{LoopTable, PlaceTable, RankTable, LimitTable}

pub step-tables : LoopTable × PlaceTable × RankTable × LimitTable
unfolding fits_i64 eq_z span axis_of reset_fits places_of kept_axes rank precedes insert_axis order_from axes_of resets_fit reach join_of fuse_from fuse total_from
    total_of fused_of layout_of empty_layout traversal_at traversal_of first_of overflows above_most compile_refusals layout_beside compile_of digits shift
    offset inside_values every_below all_inside total_in range_refusals range_code offsets_from run_of outer_of pieces_from joined_pieces rates_of
    blocks.contiguous blocks.blocks blocks.block blocks.unsplit blocks.renorm blocks.renorm_lane lanes.in_order lanes.feed blocks.split_step
    blocks.unsplit_step blocks.in_range lanes.every lanes.some blocks.lane_in blocks.lanes_in split rate_factor factor_of to_bits value_of of_parts delivered is_bad bad_bits product
    rounded size odd is_nan combined multiplied two_or_more in_unit in_limits answered step_refusals step_code joined_within step_of
step-tables =
    ((refl, refl, refl, refl, refl, refl, refl), (refl, refl, refl, refl, refl, refl), (refl, refl, refl, refl, refl), (refl, refl, refl, refl, refl))
