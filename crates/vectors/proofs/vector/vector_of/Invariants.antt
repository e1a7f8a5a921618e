-- k lanes have their values, and the next value, if there is one, is at `place`.
use Prim.Native.Nat.{◌<◌, min}
use mathlib.Core.Path.{◌≡◌}
use lib.IntN.{pos, ◌+ℤ◌, ◌*ℤ◌}
use Rattle.kernels.specs.InnerStrided.{strided}
use Rattle.vectors.specs.InnerWaiting.{vector_of}
use Rattle.vectors.proofs.vector.vector_of.Given as goal

abbrev pub invariant-loop-k : goal.invariant-loop-k
invariant-loop-k l = record {
  taken : l.r.v ≡ vector_of (strided l.values l.at l.stride (min l.k l.n));
  next : l.k < l.n → l.place ≡ l.at +ℤ l.stride *ℤ pos l.k;
}
