-- Rule A6: a range is cut into pieces before each element number that is a multiple of the run length. The axes of a compiled layout are
-- its run and its outer axes.
use Rattle.std.specs.Prelude.{ℕ, ◌-◌, ◌%◌, min, List, take}
use Rattle.layout.specs.declared.traversal.FullTraversal.{FullTraversal}
use Rattle.layout.specs.declared.axis.ReduceOuterAxis.{ReduceOuterAxis}
use Rattle.layout.specs.Axes.{axis_of}

-- how many elements the piece at element k has: to the end of its run, or to the end of the range
abbrev pub piece_length : ℕ → ℕ → ℕ → ℕ
piece_length n end k = min (n - k % n) (end - k)

unfoldable pub run_of : FullTraversal → ReduceOuterAxis
run_of l = axis_of l.run_len l.run_stride

unfoldable pub outer_of : FullTraversal → List ReduceOuterAxis
outer_of l = take l.axis_count l.run_axes
