-- The first value of vector i is next.
use Prim.Native.Nat.{◌*◌, ◌<◌}
use mathlib.Core.Path.{◌≡◌}
use lib.IntN.{pos, ◌+ℤ◌, ◌*ℤ◌}
use Rattle.vectors.proofs.marked.soon_bad.Given as goal

abbrev pub invariant-loop-i : goal.invariant-loop-i
invariant-loop-i l = l.i < l.vectors → l.at ≡ l.start +ℤ l.stride *ℤ pos (8 * l.i)
