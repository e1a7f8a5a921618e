-- Laying the axes left gives the whole. Assumes nothing.
use Rattle.std.proofs.Common.{◌≡◌, ◌+◌, length}
use Rattle.std.proofs.lemmas.List.Edits.{sets}
use Rattle.jobs.proofs.Jobs.{axes_left}
use Rattle.jobs.proofs.writing.put_axes.Given as goal

abbrev pub invariant-loop-size : goal.invariant-loop-size
invariant-loop-size l =
    (l.at + length (axes_left l.sizes l.strides (length l.yielded)) ≡ length (axes_left l.sizes l.strides 0))
    × (sets l.out l.at (axes_left l.sizes l.strides (length l.yielded)) ≡ sets l.initial.out 0 (axes_left l.sizes l.strides 0))
