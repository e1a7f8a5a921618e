use mir.Facts.{to_z-of_z}
use Rattle.layout.specs.Axes.{axis_of, places_of}
use Rattle.layout.specs.Compile.{layout_of}
use Rattle.layout.proofs.traversal.one_run.Goals as goal

pub returns : goal.returns
unfolding layout_of axis_of places_of
returns c = rw (to_z-of_z c.ranges.stride, c.no_axis-z.ensures)
