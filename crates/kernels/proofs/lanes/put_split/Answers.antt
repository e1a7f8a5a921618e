-- Assumes nothing.
use Rattle.kernels.proofs.Stepwise.{split-into}
use Rattle.kernels.proofs.lanes.put_split.Goals as goal

pub returns : goal.returns
returns c = split-into c.args.s c.requires.1 c.args.p c.requires.2 c.args.lane
