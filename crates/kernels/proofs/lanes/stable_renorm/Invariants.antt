-- k lanes are brought back.
use Rattle.kernels.specs.Blocks.{renorm_lane}
use Rattle.kernels.proofs.Feeding.{Worked}
use Rattle.kernels.proofs.lanes.stable_renorm.Given as goal

abbrev pub invariant-loop-k : goal.invariant-loop-k
invariant-loop-k l = Worked renorm_lane 8 l.fn.s l.t l.k
