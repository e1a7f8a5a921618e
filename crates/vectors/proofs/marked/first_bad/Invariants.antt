-- i values are looked at.
use Prim.Native.Nat.{◌<◌}
use mathlib.Core.Path.{◌≡◌}
use lib.IntN.{pos, ◌+ℤ◌, ◌*ℤ◌}
use Rattle.kernels.specs.InnerStrided.{strided}
use Rattle.kernels.specs.InnerStepped.{first_bad}
use Rattle.vectors.proofs.marked.first_bad.Given as goal

abbrev pub invariant-loop-i : goal.invariant-loop-i
invariant-loop-i l = record {
  lane : l.first ≡ first_bad (strided l.values l.start l.stride l.i);
  next : l.i < l.len → l.at ≡ l.start +ℤ l.stride *ℤ pos l.i;
}
