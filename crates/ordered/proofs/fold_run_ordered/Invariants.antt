-- All but `left` values are multiplied in, and `at` is the place of the next, if there is one.
use Rattle.std.proofs.Common.{◌≡◌, ◌-◌, ◌≤◌, ◌<◌, pos, ◌+ℤ◌, ◌*ℤ◌}
use Rattle.offsets.specs.InnerLists.{steps}
use Rattle.ordered.specs.InnerFolds.{fold_places}
use Rattle.ordered.proofs.fold_run_ordered.Given as goal

abbrev pub invariant-loop-left : goal.invariant-loop-left
invariant-loop-left l =
    (l.left ≤ l.len)
    × (0 < l.left → l.at ≡ l.first +ℤ l.stride *ℤ pos (l.len - l.left))
    × (l.product ≡ fold_places l.values l.acc (steps l.first l.stride (l.len - l.left)))
