use Rattle.std.proofs.Common.{◌≡◌, drop}
use Rattle.layout.specs.Compile.{total_from, total_of}
use Rattle.layout.proofs.traversal.checked_total.Given as goal

abbrev pub invariant-loop-size : goal.invariant-loop-size
invariant-loop-size l = total_from l.total (drop l.size-index l.sizes) ≡ total_of l.sizes
