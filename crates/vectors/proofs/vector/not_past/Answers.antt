-- Assumes nothing.
use Rattle.vectors.proofs.Vectorwise.{past-test}
use Rattle.vectors.proofs.vector.not_past.Goals as goal

pub returns : goal.returns
returns c = past-test c.args.x
