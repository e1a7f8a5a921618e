use Rattle.windows.proofs.Loops.{lanes-more}
use Rattle.windows.proofs.eight.times_lanes.Goals as goal

pub loop-k-preserved : goal.loop-k-preserved
loop-k-preserved c = lanes-more _ _ _ _ _ _ c.loop-k.invariant c.times_lane-r.ensures c.loop-k.auto.k
