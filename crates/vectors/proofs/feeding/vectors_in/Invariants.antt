-- i vectors are in the lanes (`Vectors`); the next, or else the last, is at `at`.
use Rattle.std.proofs.Common.{◌≡◌, ◌<◌, ◌*◌, ◌-◌, ◌^◌, pos, ◌+ℤ◌, ◌*ℤ◌}
use Rattle.vectors.proofs.Stepping.{Vectors}
use Rattle.vectors.proofs.feeding.vectors_in.Given as goal

abbrev pub invariant-loop-i : goal.invariant-loop-i
invariant-loop-i l =
    Vectors l.all (2 ^ 56) (record { m = l.initial.m; e = l.initial.e; bad = l.initial.bad }) l.values l.start l.stride l.len l.i (record { m = l.m; e = l.e; bad = l.bad })
    × (l.i < l.vectors → l.at ≡ l.start +ℤ l.stride *ℤ pos (8 * l.i))
    × (l.i ≡ l.vectors → l.at ≡ l.start +ℤ l.stride *ℤ pos (8 * (l.i - 1)))
