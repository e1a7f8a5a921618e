-- k values are in.
use lib.Ieee.{nan}
use Rattle.kernels.proofs.Feeding.{Worked, over}
use Rattle.vectors.specs.InnerWaiting.{wait_step}
use Rattle.vectors.proofs.vector.wait_vector.Given as goal

abbrev pub invariant-loop-k : goal.invariant-loop-k
invariant-loop-k l = Worked (over (wait_step l.signs) l.vector.v nan) 8 l.fn.w l.t l.k
