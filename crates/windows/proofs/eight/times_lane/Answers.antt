use Rattle.windows.proofs.Loops.{lane-more}
use Rattle.windows.proofs.eight.times_lane.Goals as goal

pub loop-t-preserved : goal.loop-t-preserved
loop-t-preserved c = lane-more _ _ _ _ _ c.loop-t.invariant c.loop-t-test.true
