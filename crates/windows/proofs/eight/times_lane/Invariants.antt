use Rattle.windows.proofs.Loops.{LaneUpto}
use Rattle.windows.proofs.eight.times_lane.Given as goal

abbrev pub invariant-loop-t : goal.invariant-loop-t
invariant-loop-t l = LaneUpto l.initial.r.v l.lanes l.k l.t l.r.v
