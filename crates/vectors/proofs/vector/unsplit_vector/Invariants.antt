-- k values are in.
use lib.Ieee.{nan}
use Rattle.kernels.specs.Blocks.{unsplit_step}
use Rattle.kernels.proofs.Feeding.{Worked, over}
use Rattle.vectors.proofs.vector.unsplit_vector.Given as goal

abbrev pub invariant-loop-k : goal.invariant-loop-k
invariant-loop-k l = Worked (over unsplit_step l.vector.v nan) 8 l.fn.s l.t l.k
