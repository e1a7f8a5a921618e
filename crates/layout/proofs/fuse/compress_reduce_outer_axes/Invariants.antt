use Rattle.layout.proofs.Fusing.{Fused}
use Rattle.layout.proofs.fuse.compress_reduce_outer_axes.Given as goal

abbrev pub invariant-loop-i : goal.invariant-loop-i
invariant-loop-i l = Fused l.initial.axes l.count l.axes l.f l.i
