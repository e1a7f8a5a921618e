-- The tables of cases hold of the definitions. Assumes nothing.
use mathlib.Core.Path.{refl}
use lib.Ieee.{size, odd, to_bits}
use Rattle.integers.specs.Integers.{fits_i64, eq_z}
use Rattle.layout.specs.Axes.{span, axis_of, reset_fits, places_of}
use Rattle.layout.specs.Order.{kept_axes, rank, precedes, insert_axis, order_from, axes_of, resets_fit}
use Rattle.layout.specs.Fuse.{reach, join_of, fuse_from, fuse}
use Rattle.refusals.specs.Refusals.{first_of}
use Rattle.layout.specs.Compile.{total_from, total_of, fused_of, layout_of, empty_layout, traversal_at, traversal_of}
use Rattle.layout.specs.Compile.{overflows, above_most, compile_refusals, layout_beside, compile_of}
use Rattle.offsets.specs.Elements.{digits, shift, offset, inside_values, every_below, all_inside}
use Rattle.offsets.specs.Lists.{total_in, range_refusals, range_code, offsets_from}
use Rattle.floats.specs.Rounding.{delivered}
use Rattle.floats.specs.Fields.{of_parts, value_of, bad_bits}
use Rattle.floats.specs.Splitting.{is_bad}
use Rattle.search.specs.Searching.{lowest_bad, search_of}
use Rattle.search.specs.Cases.{BadTable, FirstTable}

pub bad-table : BadTable
unfolding fits_i64 eq_z span axis_of reset_fits places_of kept_axes rank precedes insert_axis order_from axes_of resets_fit reach join_of fuse_from fuse total_from
    total_of fused_of layout_of empty_layout traversal_at traversal_of first_of overflows above_most compile_refusals layout_beside compile_of digits shift
    offset inside_values every_below all_inside total_in range_refusals range_code offsets_from
    size odd to_bits delivered of_parts value_of bad_bits is_bad lowest_bad search_of
bad-table = (refl, refl, refl, refl, refl, refl, refl, refl, refl, refl, refl, refl, refl, refl)

pub first-table : FirstTable
unfolding fits_i64 eq_z span axis_of reset_fits places_of kept_axes rank precedes insert_axis order_from axes_of resets_fit reach join_of fuse_from fuse total_from
    total_of fused_of layout_of empty_layout traversal_at traversal_of first_of overflows above_most compile_refusals layout_beside compile_of digits shift
    offset inside_values every_below all_inside total_in range_refusals range_code offsets_from
    size odd to_bits delivered of_parts value_of bad_bits is_bad lowest_bad search_of
first-table = (refl, refl, refl, refl, refl, refl, refl, refl, refl)
