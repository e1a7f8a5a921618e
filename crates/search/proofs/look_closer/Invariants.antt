-- i values are looked at and none is bad, so what is left decides; `at` is the place of the next, if there is one.
use Rattle.std.proofs.Common.{◌≡◌, ◌+◌, ◌-◌, ◌<◌, pos, ◌+ℤ◌, ◌*ℤ◌}
use Rattle.offsets.specs.InnerLists.{steps}
use Rattle.search.specs.Searching.{lowest_bad}
use Rattle.search.proofs.look_closer.Given as goal

abbrev pub invariant-loop-i : goal.invariant-loop-i
invariant-loop-i l =
    (l.i < l.len → l.at ≡ l.first +ℤ l.stride *ℤ pos l.i)
    × (lowest_bad l.values (l.element + l.i) (steps (l.first +ℤ l.stride *ℤ pos l.i) l.stride (l.len - l.i))
    ≡ lowest_bad l.values l.element (steps l.first l.stride l.len))
