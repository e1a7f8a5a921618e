-- What is left is a part of the chunk.
use Rattle.std.proofs.Common.{◌≤◌, length}
use Rattle.replay.proofs.input.answer_lines.Given as goal

abbrev pub invariant-loop-end : goal.invariant-loop-end
invariant-loop-end g l = length l.rest ≤ length l.chunk

abbrev pub decreases-loop-end : goal.decreases-loop-end
decreases-loop-end g l = length l.rest
