-- Assumes nothing.
use Rattle.vectors.proofs.Vectorwise.{least-tree}
use Rattle.vectors.proofs.vector.least_magnitude.Goals as goal

pub returns : goal.returns
returns c =
    least-tree c.args.over c.args.vector.v c.lesser_magnitude-a.result c.lesser_magnitude-b.result c.lesser_magnitude-c.result c.lesser_magnitude-d.result
    c.lesser.result c.lesser-2.result c.lesser-3.result
    c.lesser_magnitude-a.ensures c.lesser_magnitude-b.ensures c.lesser_magnitude-c.ensures c.lesser_magnitude-d.ensures
    c.lesser.ensures c.lesser-2.ensures c.lesser-3.ensures
