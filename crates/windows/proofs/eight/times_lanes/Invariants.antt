use Rattle.windows.specs.InnerEight.{TimesLanes}
use Rattle.windows.proofs.eight.times_lanes.Given as goal

abbrev pub invariant-loop-k : goal.invariant-loop-k
invariant-loop-k l = TimesLanes l.initial.r.v l.lanes l.first l.k l.r.v
