-- The exponents of k lanes are added.
use lib.IntN.{pos}
use Rattle.kernels.proofs.Feeding.{Worked}
use Rattle.vectors.proofs.Vectors.{plus}
use Rattle.vectors.proofs.marked.product_before.Given as goal

abbrev pub invariant-loop-k : goal.invariant-loop-k
invariant-loop-k l = Worked (plus l.s) l.n (pos 0) l.e l.k
