-- The statements of specs/Theorems hold.
use mathlib.Core.Path.{refl}
use Rattle.refusals.specs.Refusals.{first_of}
use Rattle.integers.specs.Integers.{fits_i64, eq_z}
use Rattle.layout.specs.Axes.{span, axis_of, reset_fits, places_of}
use Rattle.layout.specs.Order.{kept_axes, rank, precedes, insert_axis, order_from, axes_of, resets_fit}
use Rattle.layout.specs.Fuse.{reach, join_of, fuse_from, fuse}
use Rattle.layout.specs.Compile.{total_from, total_of, fused_of, layout_of, traversal_at, traversal_of, overflows}
use Rattle.layout.specs.Compile.{above_most, compile_refusals, layout_beside, compile_of}
use Rattle.layout.specs.Theorems.{SortedAxes, OneRecord, StridesApart, NeighboursSwapped, WholeRecord, EightPlaces}
use Rattle.layout.proofs.AnyOrder.{same_count}
use Rattle.layout.proofs.Sorting.{sorted, stable}
use Rattle.layout.proofs.OneOrder.{same-record}
use Rattle.layout.proofs.Reordering.{apart-same, swapped_same}
use Rattle.layout.proofs.Places.{more-places}

pub sorted-axes : SortedAxes
sorted-axes ns ss = (λ p. same_count ns ss p, sorted ns ss, λ s. stable s ns ss)

pub whole-record : WholeRecord
unfolding first_of fits_i64 eq_z span axis_of reset_fits places_of kept_axes rank precedes insert_axis order_from axes_of resets_fit reach join_of fuse_from fuse
    total_from total_of fused_of layout_of traversal_at traversal_of overflows above_most compile_refusals layout_beside compile_of
whole-record = refl

pub eight-places : EightPlaces
eight-places = more-places 8 8

pub one-record : OneRecord
one-record = same-record

pub strides-apart : StridesApart
strides-apart = apart-same

pub neighbours-swapped : NeighboursSwapped
neighbours-swapped ms ts m n s t ns ss e f apart z = swapped_same m n s t ns ss ms ts e f apart z
