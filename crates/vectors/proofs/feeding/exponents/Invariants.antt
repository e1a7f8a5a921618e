-- The exponents of the lanes so far are added.
use Rattle.std.proofs.Common.{pos}
use Rattle.kernels.proofs.Feeding.{Worked}
use Rattle.vectors.proofs.Vectors.{plus}
use Rattle.vectors.proofs.feeding.exponents.Given as goal

abbrev pub invariant-loop-x : goal.invariant-loop-x
invariant-loop-x l = Worked (plus l.fn.s) 8 (pos 0) l.e l.x-index
