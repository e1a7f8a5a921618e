-- j runs are multiplied in, and `at` is the place of the last of them, or the first.
use Rattle.std.proofs.Common.{◌≡◌, ◌-◌, pos, ◌+ℤ◌, ◌*ℤ◌}
use Rattle.offsets.specs.InnerLists.{steps}
use Rattle.ordered.specs.InnerFolds.{fold_runs}
use Rattle.ordered.proofs.fold_strip_ordered.Given as goal

abbrev pub invariant-loop-j : goal.invariant-loop-j
invariant-loop-j l =
    (l.at ≡ l.first +ℤ l.step *ℤ pos (l.j - 1)) × (l.product ≡ fold_runs l.values l.stride l.len l.acc (steps l.first l.step l.j))
