-- Assumes nothing.
use Rattle.kernels.specs.Blocks.{m_of}
use Rattle.kernels.proofs.Stepwise.{added-fits, split-near, renorm-one}
use Rattle.kernels.proofs.lanes.renorm_lane.Goals as goal

pub overflow_add-t : goal.overflow_add-t
overflow_add-t c =
    let p = c.split_fields-p.result in
    added-fits c.args.s c.requires.1 p (split-near (m_of c.args.s c.args.k) p (c.split_fields-p.ensures c.requires.2)) c.args.k

pub returns : goal.returns
returns c = renorm-one c.args.s c.requires.1 c.args.k c.split_fields-p.result (c.split_fields-p.ensures c.requires.2)
