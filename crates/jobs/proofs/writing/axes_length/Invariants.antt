-- The bytes counted and those of the axes left are all. Assumes nothing.
use Rattle.std.proofs.Common.{◌≡◌, ◌+◌, ◌*◌, ◌≤◌, length}
use Rattle.jobs.proofs.Jobs.{axes_left}
use Rattle.jobs.proofs.writing.axes_length.Given as goal

abbrev pub invariant-loop-size : goal.invariant-loop-size
invariant-loop-size l =
    (l.total ≤ 24 * length l.yielded) × (l.total + length (axes_left l.sizes l.strides (length l.yielded)) ≡ length (axes_left l.sizes l.strides 0))
