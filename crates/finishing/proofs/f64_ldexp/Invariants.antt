-- `finishing::f64_ldexp`: the loops keep `Scaling`, and bring the exponent towards its range.
use Rattle.std.proofs.Common.{◌≡◌, false, nat_abs}
use Rattle.finishing.specs.Once.{past_largest}
use Rattle.finishing.proofs.Loops.{Scaling}
use Rattle.finishing.proofs.f64_ldexp.Given as goal

abbrev pub invariant-loop-k : goal.invariant-loop-k
invariant-loop-k l = Scaling l.m l.e l.x l.k

abbrev pub decreases-loop-k : goal.decreases-loop-k
decreases-loop-k l = nat_abs l.k

abbrev pub invariant-loop-k-2 : goal.invariant-loop-k-2
invariant-loop-k-2 l = Scaling l.m l.e l.x l.k × (past_largest l.k ≡ false)

abbrev pub decreases-loop-k-2 : goal.decreases-loop-k-2
decreases-loop-k-2 l = nat_abs l.k
