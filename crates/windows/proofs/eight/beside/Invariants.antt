use Rattle.windows.proofs.Loops.{BesideUpto}
use Rattle.windows.proofs.eight.beside.Given as goal

abbrev pub invariant-loop-k : goal.invariant-loop-k
invariant-loop-k l = BesideUpto l.a.m l.b.m l.k l.lanes
