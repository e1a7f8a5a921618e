-- Inner: whole runs that begin a step apart.
use Rattle.std.specs.Prelude.{ℕ, zero, suc, List, ℤ, pos, ◌+ℤ◌, Float}
use Rattle.integers.specs.Integers.{eq_z}
use Rattle.accumulator.specs.declared.StableProductFloatAcc.{StableProductFloatAcc}
use Rattle.accumulator.specs.Joining.{combined}
use Rattle.kernels.specs.InnerStrided.{strided}
use Rattle.kernels.specs.Pieces.{worked}
use Rattle.reduction.specs.declared.full.RunProduct.{RunProduct}

-- a run's product as an accumulator
abbrev pub run_acc : RunProduct → StableProductFloatAcc
run_acc r = record { m = r.m; e = r.e; bad = r.bad }

-- n whole runs of len values that begin a step apart, the first at z: each worked and joined from the right
unfoldable pub strip : List Float → ℤ → ℤ → ℕ → ℕ → ℤ → StableProductFloatAcc → StableProductFloatAcc
strip values step stride len zero z acc = acc
strip values step stride len (suc n) z acc =
    strip values step stride len n (z +ℤ step) (combined acc (worked (eq_z stride (pos 1)) (strided values z stride len)))
