-- All but `left` offsets are written, and `offset` is the next, if there is one.
use Rattle.std.proofs.Common.{◌≡◌, ◌-◌, ◌≤◌, ◌<◌, length, pos, ◌+ℤ◌, ◌*ℤ◌}
use Rattle.offsets.proofs.Writing.{filled}
use Rattle.offsets.proofs.list.write_run.Given as goal

abbrev pub invariant-loop-left : goal.invariant-loop-left
invariant-loop-left l =
    (l.left ≤ length l.initial.run)
    × (l.at ≡ length l.initial.run - l.left)
    × (0 < l.left → l.offset ≡ l.first +ℤ l.stride *ℤ pos (length l.initial.run - l.left))
    × (l.run ≡ filled l.initial.run l.first l.stride (length l.initial.run - l.left))
