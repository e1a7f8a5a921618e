-- The rest in the axes that are left, from the offset so far, is the whole.
use Rattle.std.proofs.Common.{take}
use Rattle.offsets.proofs.Cursors.{Decoded}
use Rattle.offsets.proofs.cursor.ReduceOuterCursor.decode.Given as goal

abbrev pub invariant-loop-i : goal.invariant-loop-i
invariant-loop-i l = Decoded (take l.count l.axes) l.base l.index l.c l.rest l.i
