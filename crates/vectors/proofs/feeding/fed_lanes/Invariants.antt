-- The first i values are in the lanes, and are whole vectors or all; the next, if there is one, is at `at`.
use Rattle.std.proofs.Common.{◌≡◌, ◌<◌, ◌≤◌, ◌+◌, ◌*◌, ◌-◌, ◌%◌, ◌⊎◌, pos, ◌+ℤ◌, ◌*ℤ◌}
use Rattle.kernels.specs.InnerStrided.{strided}
use Rattle.kernels.specs.Blocks.{start_lanes}
use Rattle.kernels.specs.InnerLanes.{LanesAfter}
use Rattle.vectors.specs.InnerSteps.{patience}
use Rattle.vectors.proofs.feeding.fed_lanes.Given as goal

abbrev pub invariant-loop-i : goal.invariant-loop-i
invariant-loop-i l =
    (l.i ≤ l.len)
    × ((l.i % 8 ≡ 0) ⊎ (l.i ≡ l.len))
    × LanesAfter start_lanes (strided l.values l.start l.stride l.i) l.s
    × (l.i < l.len → l.at ≡ l.start +ℤ l.stride *ℤ pos l.i)

-- a try that fails takes no value, but patience
abbrev pub decreases-loop-i : goal.decreases-loop-i
decreases-loop-i l = 7 * (l.len - l.i) + patience l.pace.hold l.pace.way
