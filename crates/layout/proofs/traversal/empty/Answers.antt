use Rattle.layout.specs.Axes.{places_of}
use Rattle.layout.specs.Compile.{empty_layout}
use Rattle.layout.proofs.traversal.empty.Goals as goal

pub returns : goal.returns
unfolding empty_layout places_of
returns c = rw c.no_axis-z.ensures
