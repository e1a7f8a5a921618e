-- The axes that are put so far take at most so many bytes each.
use Rattle.std.proofs.Common.{◌+◌, ◌*◌, ◌≤◌, length}
use Rattle.replay.proofs.answer.put_axes.Given as goal

abbrev pub invariant-loop-axis : goal.invariant-loop-axis
invariant-loop-axis l = (l.out.len ≤ 200 + 65 * l.axis-index) × (length l.axes ≤ 16)
