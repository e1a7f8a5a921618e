-- The digits before i are back at 0, and what is left to do is one advance of the axes from i on.
use Rattle.std.proofs.Common.{take}
use Rattle.offsets.proofs.Cursors.{Advancing}
use Rattle.offsets.proofs.cursor.ReduceOuterCursor.advance.Given as goal

abbrev pub invariant-loop-i : goal.invariant-loop-i
invariant-loop-i l = Advancing (take l.count l.axes) l.initial.c l.c l.i
