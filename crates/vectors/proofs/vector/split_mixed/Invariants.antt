-- k values are in, and each has moved its lane's exponent by what a split can.
use Prim.Native.Nat.{◌+◌, ◌*◌, ◌^◌}
use lib.Ieee.{nan}
use Rattle.floats.proofs.Splitting.{farthest}
use Rattle.kernels.specs.Blocks.{split_step}
use Rattle.kernels.specs.InnerLanes.{SmallLanes}
use Rattle.kernels.proofs.Feeding.{Worked, over}
use Rattle.vectors.proofs.vector.split_mixed.Given as goal

abbrev pub invariant-loop-k : goal.invariant-loop-k
invariant-loop-k l = Worked (over split_step l.vector.v nan) 8 l.fn.s l.t l.k × SmallLanes (2 ^ 59 + farthest * l.k) l.t
